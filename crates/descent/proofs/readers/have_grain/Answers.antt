use Rattle.std.proofs.Common.{below_more}
use Rattle.descent.proofs.readers.have_grain.Goals as goal

pub loop-o-preserved : goal.loop-o-preserved
loop-o-preserved c =
    below_more _ _ c.loop-o.invariant
    (record {
      place = c.first_place.result;
      first = c.first_place-in-loop-o.result;
      place_is = c.first_place.ensures;
      first_is = c.first_place-in-loop-o.ensures;
      same = c.if-first_place-grain.false;
    })

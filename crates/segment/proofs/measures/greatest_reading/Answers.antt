use Rattle.std.proofs.Common.{◌≡◌, length, arith, ap, ◌∙◌}
use Rattle.semantics.specs.Sums.{most_below}
use Rattle.segment.specs.Measure.{greatest_reading, magnitude_at}
use Rattle.segment.proofs.measures.greatest_reading.Goals as goal

pub returns : goal.returns
unfolding greatest_reading
returns c =
    let e : c.loop-i.i ≡ length c.args.xs.now = omega arith in
    c.from.ensures ∙ c.loop-i.invariant ∙ ap (most_below (magnitude_at c.args.xs.now)) e

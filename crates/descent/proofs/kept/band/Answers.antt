use Rattle.std.proofs.Common.{◌≡◌, ◌+◌, ◌<◌, length, refl, ap, arith, add-one}
use Rattle.descent.specs.Held.{shown}
use Rattle.descent.specs.KeptSums.{band_of}
use Rattle.descent.specs.Laid.{blocks}
use Rattle.descent.specs.Readers.{track_at}
use Rattle.descent.specs.Rows.{Row, Track}
use Rattle.descent.proofs.Anew.{shown-at}
use Rattle.descent.proofs.Borders.{borders-more}
use Rattle.descent.proofs.kept.band.Goals as goal

pub loop-j-preserved : goal.loop-j-preserved
loop-j-preserved g c =
    let tables = c.args.tables.now in
    let j = c.loop-j.j in
    let lt : j < length tables = omega (arith, c.requires.within) in
    let z = ap (λ (t : Track Row). blocks t.len) (shown-at tables j c.index-tables-j.result lt c.index-tables-j.is) in
    let e : band_of (shown tables) (j + 1) ≡ band_of (shown tables) j + blocks (track_at (shown tables) j).len = rw add-one refl in
    record {
      place = omega (arith, e, z, c.blocks-in-loop-j.ensures.count, c.loop-j.invariant.place);
      bound = omega (arith, c.blocks-in-loop-j.ensures.count, c.blocks-in-loop-j.ensures.sound.few, c.loop-j.invariant.bound);
      borders = borders-more tables j c.index-tables-j.result lt c.index-tables-j.is c.blocks-in-loop-j.ensures.borders c.loop-j.invariant.borders;
    }

pub returns-clause-borders : goal.returns-clause-borders
returns-clause-borders g c = λ j row lt there. c.loop-j.invariant.borders j row (omega arith) there

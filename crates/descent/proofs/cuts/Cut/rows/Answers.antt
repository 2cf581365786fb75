use Rattle.std.proofs.Common.{◌≡◌, ◌<◌, ◌+◌, suc, ◌++◌, map, length, take, ap, arith}
use Rattle.descent.specs.Rows.{Track}
use Rattle.descent.specs.Held.{Held, row_in, shown}
use Rattle.descent.specs.Told.{told, told_row}
use Rattle.descent.proofs.Telling.{told_more}
use Rattle.descent.proofs.cuts.Cut.rows.Goals as goal

pub loop-i-preserved : goal.loop-i-preserved
loop-i-preserved g c =
    let ts = c.self.inside.tables.items in
    let i = c.loop-i.i in
    let lt : i < length ts = omega arith in
    let more = told_more i ts c.index.result.now lt in
    let next : i + 1 ≡ suc i = omega arith in
    record {
      told = rw (c.in-Ok.ensures.told, c.loop-i.invariant.told, next, more) (ap (λ (t : Track (Held g.row.I.Denot)). told (shown (take i ts)) ++ map (told_row t.series) (map row_in t.rows)) c.index.ensures);
      few = omega (arith, c.loop-i.invariant.few, c.in-Ok.ensures.few);
    }

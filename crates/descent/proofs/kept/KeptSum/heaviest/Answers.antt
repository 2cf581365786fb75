use Rattle.std.proofs.Common.{sym, ap, arith}
use Rattle.std.proofs.lemmas.List.{length-map}
use Rattle.descent.specs.Choice.{pick_if}
use Rattle.descent.specs.Held.{row_in, shown}
use Rattle.descent.specs.Rows.{with_rows}
use Rattle.descent.proofs.KeptEnds.{kept-light}
use Rattle.descent.proofs.KeptPicks.{heaviest-picked}
use Rattle.descent.proofs.kept.KeptSum.heaviest.Goals as goal

pub returns-in_default : goal.returns-in_default
returns-in_default g c = λ s can is. sym (ap pick_if (kept-light (shown c.args.tables.now) s c.args.self.now is can c.in_default.ensures))

pub returns : goal.returns
returns g c = λ s can is.
    let n = length-map c.args.tables.now (with_rows row_in) in
    heaviest-picked (shown c.args.tables.now) s c.args.self.now c.in-Some.place c.pick_at.result is can c.in-Some.ensures.0 c.in-Some.ensures.1 (λ i block lt within at. c.pick_at.ensures i block (omega arith) within at)

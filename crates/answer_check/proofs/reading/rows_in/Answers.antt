use Rattle.std.proofs.Common.{◌∙◌, ap, refl, sym}
use Rattle.std.specs.Prelude.{Some}
use Rattle.std.proofs.Common.{inr}
use Rattle.answer_check.specs.Json.{row_of}
use Rattle.answer_check.proofs.Arrays.{goes_on, stops}
use Rattle.answer_check.proofs.reading.rows_in.Goals as goal

pub returns-in_default-clause-err : goal.returns-in_default-clause-err
returns-in_default-clause-err c =
    inr (refl, stops row_of c.args.values.now c.loop-value.value-index c.value-item.result c.loop-value-test.true c.value-item.is (sym c.in_default.ensures))

pub loop-value-preserved : goal.loop-value-preserved
loop-value-preserved c =
    goes_on row_of c.args.values.now c.loop-value.value-index c.value-item.result c.loop-value.rows.items c.in-Some.row c.loop-value-test.true c.value-item.is (sym c.in-Some.ensures) c.loop-value.invariant
    ∙ ap Some (sym c.in_ok-push.ensures.items)

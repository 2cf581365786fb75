use Rattle.std.proofs.Common.{◌∙◌, ap, inl, inr, sym}
use Rattle.std.specs.Prelude.{Some}
use Rattle.answer_check.specs.Json.{list_of}
use Rattle.answer_check.proofs.Arrays.{goes_on, stops}
use Rattle.answer_check.proofs.reading.lists_in.Goals as goal

pub returns-in-Err-clause-err : goal.returns-in-Err-clause-err
returns-in-Err-clause-err c =
    elim c.in-Err.ensures.err [
      | inl m ↦ inl m
      | inr h ↦ inr (h.0, stops list_of c.args.values.now c.loop-value.value-index c.value-item.result c.loop-value-test.true c.value-item.is h.1)
    ]

pub loop-value-preserved : goal.loop-value-preserved
loop-value-preserved c =
    goes_on list_of c.args.values.now c.loop-value.value-index c.value-item.result c.loop-value.lists.items c.in-Ok.list c.loop-value-test.true c.value-item.is c.in-Ok.ensures.ok c.loop-value.invariant
    ∙ ap Some (sym c.in_ok-push.ensures.items)

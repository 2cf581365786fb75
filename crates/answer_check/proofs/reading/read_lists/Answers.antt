use Rattle.std.proofs.Common.{◌≡◌, ◌∙◌, ap, subst, sym}
use Rattle.std.specs.Prelude.{◌⊎◌, IfErr, IfOk, None, Some}
use Rattle.serde_json.specs.Find.{as_array}
use Rattle.serde_json.specs.View.{items_view, view}
use Rattle.answer_check.specs.declared.certificate.CertErr.TheVariants.{Form, Memory}
use Rattle.answer_check.specs.declared.certificate.CertKey.TheVariants.{Cut}
use Rattle.answer_check.specs.Json.{list_of}
use Rattle.answer_check.proofs.Arrays.{elements}
use Rattle.answer_check.proofs.reading.read_lists.Goals as goal

pub returns-clause-ok : goal.returns-clause-ok
returns-clause-ok c =
    let array = ap (λ vs. Some (items_view vs)) c.as_slice.ensures.value ∙ c.in-Some.ensures in
    let same = elements list_of (as_array (view c.args.value.now)) c.as_slice.result.now array in
    subst (λ o. IfOk c.lists_in.result (λ xs. o ≡ Some xs)) (sym same) c.lists_in.ensures.ok

pub returns-clause-err : goal.returns-clause-err
returns-clause-err c =
    let array = ap (λ vs. Some (items_view vs)) c.as_slice.ensures.value ∙ c.in-Some.ensures in
    let same = elements list_of (as_array (view c.args.value.now)) c.as_slice.result.now array in
    subst (λ o. IfErr c.lists_in.result (λ e. (e ≡ Memory) ⊎ ((e ≡ Form Cut) × (o ≡ None)))) (sym same) c.lists_in.ensures.err

use Rattle.std.proofs.Common.{◌≡◌, ◌∙◌, None, ap, subst}
use Rattle.std.proofs.lemmas.Result.{err_from_is_err_and}
use Rattle.descent.specs.Told.{Tells}
use Rattle.expr.specs.Facts.{facts_of}
use Rattle.expr.specs.Terms.{query_term_of}
use Rattle.interval.specs.Interval.{Has}
use Rattle.semantics.specs.Admission.{refusal_of}
use Rattle.semantics.specs.Plain.{plain}
use Rattle.semantics.specs.Value.{query_value}
use Rattle.store_file.specs.Stored.{store_value}
use Rattle.query_cli.specs.Asked.{readings_in, roots_in}
use Rattle.query_cli.specs.Stops.{IfRefused, IsNotAdmitted}
use Rattle.query_cli.proofs.AskedLaws.{answered, not_admitted}
use Rattle.query_cli.proofs.steps.asked.answer_over.Goals as goal

pub returns-in_err-plain-clause-refused : goal.returns-in_err-plain-clause-refused
returns-in_err-plain-clause-refused c =
    let p = err_from_is_err_and c.from_residual-in_err-plain.result c.from_residual-in_err-plain.ensures.1 in
    let q = query_term_of c.args.q.now in
    let same = ap facts_of c.deref.ensures.value ∙ c.in_ok-facts.ensures.facts in
    rw (p.1, p.2)
    (not_admitted q (store_value c.args.store.now) c.in_err-plain.field-0.0
    (subst (λ fs. IfRefused c.in_err-plain.field-0.0 (IsNotAdmitted (refusal_of fs (plain q)))) same
    c.in_err-plain.ensures.refused))

pub returns-clause-ok : goal.returns-clause-ok
returns-clause-ok c =
    let m = store_value c.args.store.now in
    let q = query_term_of c.args.q.now in
    let same = ap facts_of c.deref.ensures.value ∙ c.in_ok-facts.ensures.facts in
    let is = c.in_ok-plain.ensures.query in
    answered q m c.args.budget c.in_ok-answer.answer _
    (subst (λ fs. refusal_of fs (plain q) ≡ None) same c.in_ok-plain.ensures.ok)
    (subst (λ p. Tells p (roots_in p m) c.args.budget c.in_ok-answer.answer) is c.in_ok-answer.ensures.told)
    (subst (λ p. Has c.in_ok-answer.answer.iv (query_value (readings_in m) p)) is c.in_ok-answer.ensures.holds)
    c.in_ok-line.ensures

use Rattle.std.proofs.Common.{◌≡◌, ◌⊎◌, ◌∙◌, Err, ap, subst, sym}
use Rattle.std.proofs.lemmas.Result.{err_from_is_err_and}
use Rattle.expr.specs.Terms.{query_term_of}
use Rattle.expr_parse.specs.Parsed.{parsed}
use Rattle.store_file.specs.Stored.{store_value}
use Rattle.answer_check.specs.declared.verdict.VerifyErr.TheVariants.{Memory as no_memory}
use Rattle.answer_check.specs.Verdict.{plain_by}
use Rattle.answer_check.proofs.Verdicts.{refused-is, verdict-is}
use Rattle.answer_check.proofs.verifying.verify.Goals as goal

pub returns-in_err-q-clause-refused : goal.returns-in_err-q-clause-refused
returns-in_err-q-clause-refused c =
    let m = store_value c.args.store.now in
    let e = c.in_err-q.field-0.0 in
    let p = err_from_is_err_and c.from_residual.result c.from_residual.ensures.1 in
    rw (p.1, p.2) (refused-is m c.args.c.now e (subst (λ t. (e ≡ no_memory) ⊎ (plain_by m (parsed t) ≡ Err e)) c.as_slice.ensures c.in_err-q.ensures.refused))

pub returns-clause-verdict : goal.returns-clause-verdict
returns-clause-verdict c =
    let m = store_value c.args.store.now in
    verdict-is m c.args.c.now (query_term_of c.in_ok-q.q) c.in_ok-verdict.verdict (ap (λ t. plain_by m (parsed t)) (sym c.as_slice.ensures) ∙ c.in_ok-q.ensures.query) c.in_ok-verdict.ensures

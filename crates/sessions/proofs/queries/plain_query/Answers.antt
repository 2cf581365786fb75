use Rattle.std.proofs.Common.{◌∙◌, ap, subst, sym}
use Rattle.std.proofs.lemmas.Result.{err_from_is_err_and}
use Rattle.expr.specs.Facts.{facts_of}
use Rattle.expr.specs.Terms.{query_term_of}
use Rattle.semantics.specs.Limits.{IsWithinLimits}
use Rattle.semantics.specs.Plain.{IsPlain}
use Rattle.semantics.proofs.PlainLaws.{IsPlain-plain, IsWithinLimits-plain}
use Rattle.sessions.proofs.QueryLaws.{plain_ok, plain_refused, text_refused}
use Rattle.store_file.specs.Stored.{store_value}
use Rattle.sessions.proofs.queries.plain_query.Goals as goal

pub admit-requires-clause-plain : goal.admit-requires-clause-plain
admit-requires-clause-plain c = subst IsPlain (sym c.in_ok-plain.ensures) (IsPlain-plain (query_term_of c.in_ok-query.query))

pub admit-requires-clause-limits : goal.admit-requires-clause-limits
admit-requires-clause-limits c =
    subst IsWithinLimits (sym c.in_ok-plain.ensures) (IsWithinLimits-plain (query_term_of c.in_ok-query.query) c.in_ok-query.ensures.limits)

pub returns-in-Ok-clause-plain : goal.returns-in-Ok-clause-plain
returns-in-Ok-clause-plain c = subst IsPlain (sym c.in_ok-plain.ensures) (IsPlain-plain (query_term_of c.in_ok-query.query))

pub returns-in-Ok-clause-limits : goal.returns-in-Ok-clause-limits
returns-in-Ok-clause-limits c =
    subst IsWithinLimits (sym c.in_ok-plain.ensures) (IsWithinLimits-plain (query_term_of c.in_ok-query.query) c.in_ok-query.ensures.limits)

pub returns-in-Ok-clause-ok : goal.returns-in-Ok-clause-ok
returns-in-Ok-clause-ok c =
    plain_ok (store_value c.args.store.now) c.args.text.now (query_term_of c.in_ok-query.query) (query_term_of c.in_ok-plain.plain) (facts_of c.deref.result.now)
    (record { text_is = c.in_ok-query.ensures.ok; plain_is = c.in_ok-plain.ensures }) (ap facts_of c.deref.ensures.value ∙ c.in_ok-facts.ensures.facts) c.in-Ok.ensures.refusal

pub returns-clause-refused : goal.returns-clause-refused
returns-clause-refused c =
    plain_refused (store_value c.args.store.now) c.args.text.now (query_term_of c.in_ok-query.query) (query_term_of c.in_ok-plain.plain) (facts_of c.deref.result.now) c.in-Err.e
    (record { text_is = c.in_ok-query.ensures.ok; plain_is = c.in_ok-plain.ensures }) (ap facts_of c.deref.ensures.value ∙ c.in_ok-facts.ensures.facts) c.in-Err.ensures.refusal

pub returns-in_err-query-clause-refused : goal.returns-in_err-query-clause-refused
returns-in_err-query-clause-refused c =
    let p = err_from_is_err_and c.from_residual.result c.from_residual.ensures.1 in
    rw (p.1, p.2) (text_refused (store_value c.args.store.now) c.args.text.now c.in_err-query.field-0.0 c.in_err-query.ensures.refused)

use Rattle.std.proofs.Common.{◌∙◌}
use Rattle.expr_parse.proofs.CanonicalShort.{canonical_is_shortest}
use Rattle.std.proofs.lemmas.Result.{err_from_is_err_and}
use Rattle.expr_parse.proofs.Whole.{is_text_of, text_alone, text_outside, text_refused}
use Rattle.expr_parse.proofs.text.parse.Goals as goal

pub returns-in_err-found-clause-outside : goal.returns-in_err-found-clause-outside
returns-in_err-found-clause-outside c =
    let p = err_from_is_err_and c.from_residual.result c.from_residual.ensures.1 in
    rw (p.1, p.2) (text_refused c.args.text.now _ c.in_err-found.ensures.refused)

pub returns-in_err-q-clause-outside : goal.returns-in_err-q-clause-outside
returns-in_err-q-clause-outside c =
    let p = err_from_is_err_and c.from_residual-in_err-q.result c.from_residual-in_err-q.ensures.1 in
    rw (p.1, p.2) (text_outside c.args.text.now _ _ _ c.in_ok-found.ensures.tokens (c.as_slice-said.ensures.value ∙ c.in_ok-found.ensures.lexemes) c.in_err-q.ensures.outside)

pub returns-clause-grammar : goal.returns-clause-grammar
returns-clause-grammar c = is_text_of c.args.text.now _ _ _ c.in_ok-found.ensures.tokens (c.as_slice-said.ensures.value ∙ c.in_ok-found.ensures.lexemes) c.in_ok-q.ensures.grammar

pub returns-clause-alone : goal.returns-clause-alone
returns-clause-alone c = text_alone c.args.text.now _ _ _ c.in_ok-found.ensures.tokens (c.as_slice-said.ensures.value ∙ c.in_ok-found.ensures.lexemes) c.in_ok-q.ensures.grammar

pub returns-clause-shortest : goal.returns-clause-shortest
returns-clause-shortest c = canonical_is_shortest c.args.text.now _ (is_text_of c.args.text.now _ _ _ c.in_ok-found.ensures.tokens (c.as_slice-said.ensures.value ∙ c.in_ok-found.ensures.lexemes) c.in_ok-q.ensures.grammar)

use Rattle.std.proofs.Common.{◌∙◌, Ok, ap, subst, sym}
use Rattle.std.proofs.lemmas.Result.{err_from_is_err_and}
use Rattle.expr.specs.Terms.{query_term_of}
use Rattle.query_cli.specs.Parted.{HandsOver, IsFound}
use Rattle.query_cli.specs.Views.{question_view}
use Rattle.query_cli.proofs.QuestionLaws.{bad_text, found, shown_refused}
use Rattle.query_cli.proofs.steps.question.Question.answer.Goals as goal

pub returns-in_err-q-clause-unanswered : goal.returns-in_err-q-clause-unanswered
returns-in_err-q-clause-unanswered g c =
    let p = err_from_is_err_and c.from_residual.result c.from_residual.ensures.1 in
    rw (p.1, p.2)
    (bad_text (question_view c.args.self.now) (g.S.Shelf.files c.args.shelf.now) c.in_err-q.field-0.0
    c.in_err-q.ensures.refused)

pub returns-in_err-answered-clause-unanswered : goal.returns-in_err-answered-clause-unanswered
returns-in_err-answered-clause-unanswered g c =
    let p = err_from_is_err_and c.from_residual-in_err-answered.result c.from_residual-in_err-answered.ensures.1 in
    rw (p.1, p.2)
    (shown_refused (question_view c.args.self.now) (query_term_of c.in_ok-q.q) (g.S.Shelf.files c.args.shelf.now)
    c.in_err-answered.field-0.0 c.in_ok-q.ensures.ok c.in_err-answered.ensures.refused)

pub returns-clause-query : goal.returns-clause-query
returns-clause-query g c = c.in_ok-q.ensures.ok ∙ ap Ok (sym c.in_ok-answered.ensures.query)

pub returns-clause-found : goal.returns-clause-found
returns-clause-found g c =
    let k = question_view c.args.self.now in
    let files = g.S.Shelf.files c.args.shelf.now in
    let a = c.in_ok-answered.answered in
    subst (λ q. IsFound files k q a.names.items a.answer) (sym c.in_ok-answered.ensures.query)
    (found k (query_term_of c.in_ok-q.q) files a.names.items a.answer c.in_ok-q.ensures.ok c.in_ok-answered.ensures.ok)

pub returns-clause-handed : goal.returns-clause-handed
returns-clause-handed g c =
    let k = question_view c.args.self.now in
    let files = g.S.Shelf.files c.args.shelf.now in
    let a = c.in_ok-answered.answered in
    subst (λ q. HandsOver files k.store q k.budget a.names.items a.answer (g.S.Shelf.handed c.args.shelf.now)
    (g.S.Shelf.handed c.answer_in_file.new.shelf)) (sym c.in_ok-answered.ensures.query) c.in_ok-answered.ensures.handed

use Rattle.std.proofs.lemmas.Result.{err_from_is_err_and}
use Rattle.std.proofs.Common.{Some}
use Rattle.expr.specs.Terms.{query_term_of}
use Rattle.query_cli.specs.Commands.{query}
use Rattle.query_cli.specs.Views.{query_view}
use Rattle.query_cli.proofs.CommandLaws.Query.{is_query, query_done, query_hands}
use Rattle.query_cli.proofs.QuestionLaws.{unanswered}
use Rattle.query_cli.proofs.commands.query.Query.answer.Goals as goal

pub returns-in_err-answered-clause-refused : goal.returns-in_err-answered-clause-refused
returns-in_err-answered-clause-refused g c =
    let p = err_from_is_err_and c.from_residual.result c.from_residual.ensures.1 in
    let k = query_view c.args.self.now in
    rw (p.1, p.2)
    (unanswered (Some (query k)) k (g.S.Shelf.files c.args.shelf.now) c.in_err-answered.field-0.0 (is_query k)
    c.in_err-answered.ensures.unanswered)

pub returns-clause-done : goal.returns-clause-done
returns-clause-done g c =
    let a = c.in_ok-answered.answered in
    query_done (query_view c.args.self.now) (query_term_of a.query) a.names.items a.answer
    (g.S.Shelf.files c.args.shelf.now) _ _ c.in_ok-answered.ensures.found c.in_ok-line.ensures
    c.answer.ensures.shelf.files_stay

pub returns-clause-handed : goal.returns-clause-handed
returns-clause-handed g c =
    let a = c.in_ok-answered.answered in
    query_hands (query_view c.args.self.now) (query_term_of a.query) a.names.items a.answer
    (g.S.Shelf.files c.args.shelf.now) _ _ _ c.in_ok-answered.ensures.query c.in_ok-line.ensures
    c.in_ok-answered.ensures.handed

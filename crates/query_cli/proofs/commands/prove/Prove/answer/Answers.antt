use Rattle.std.proofs.lemmas.Result.{err_from_is_err_and}
use Rattle.std.proofs.Common.{Some}
use Rattle.expr.specs.Terms.{query_term_of}
use Rattle.query_cli.specs.Commands.{prove}
use Rattle.query_cli.specs.Views.{prove_view}
use Rattle.query_cli.proofs.CommandLaws.Prove.{is_prove, prove_done, prove_hands}
use Rattle.query_cli.proofs.QuestionLaws.{unanswered}
use Rattle.query_cli.proofs.commands.prove.Prove.answer.Goals as goal

pub returns-in_err-answered-clause-refused : goal.returns-in_err-answered-clause-refused
returns-in_err-answered-clause-refused g c =
    let p = err_from_is_err_and c.from_residual.result c.from_residual.ensures.1 in
    let k = prove_view c.args.self.now in
    rw (p.1, p.2)
    (unanswered (Some (prove k)) k (g.S.Shelf.files c.args.shelf.now) c.in_err-answered.field-0.0 (is_prove k)
    c.in_err-answered.ensures.unanswered)

pub returns-clause-done : goal.returns-clause-done
returns-clause-done g c =
    let a = c.in_ok-answered.answered in
    prove_done (prove_view c.args.self.now) (query_term_of a.query) a.names.items a.answer
    (g.S.Shelf.files c.args.shelf.now) _ _ c.in_ok-answered.ensures.found c.in_ok-line.ensures
    c.answer.ensures.shelf.files_stay

pub returns-clause-handed : goal.returns-clause-handed
returns-clause-handed g c =
    let a = c.in_ok-answered.answered in
    prove_hands (prove_view c.args.self.now) (query_term_of a.query) a.names.items a.answer
    (g.S.Shelf.files c.args.shelf.now) _ _ _ c.in_ok-answered.ensures.query c.in_ok-line.ensures
    c.in_ok-answered.ensures.handed

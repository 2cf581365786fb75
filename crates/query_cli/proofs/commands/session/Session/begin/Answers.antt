use Rattle.std.proofs.lemmas.Result.{err_from_is_err_and}
use Rattle.query_cli.specs.Views.{session_view}
use Rattle.query_cli.proofs.CommandLaws.Session.{session_refused, session_unread, session_unread_script}
use Rattle.query_cli.proofs.commands.session.Session.begin.Goals as goal

pub returns-in_err-stored-clause-refused : goal.returns-in_err-stored-clause-refused
returns-in_err-stored-clause-refused g c =
    let p = err_from_is_err_and c.from_residual.result c.from_residual.ensures.1 in
    rw (p.1, p.2) (session_unread (session_view c.args.self.now) (g.S.Shelf.files c.args.shelf.now) c.in_err-stored.field-0.0 c.in_err-stored.ensures.unread)

pub returns-in_err-text-clause-refused : goal.returns-in_err-text-clause-refused
returns-in_err-text-clause-refused g c =
    let p = err_from_is_err_and c.from_residual-in_err-text.result c.from_residual-in_err-text.ensures.1 in
    let second = rw c.read_file.ensures.shelf.files_stay at c.in_err-text.ensures.unread in
    rw (p.1, p.2)
    (session_unread_script (session_view c.args.self.now) (g.S.Shelf.files c.args.shelf.now) c.in_ok-stored.stored.items c.in_err-text.field-0.0 c.in_ok-stored.ensures.held second)

pub returns-in_err-begun-clause-refused : goal.returns-in_err-begun-clause-refused
returns-in_err-begun-clause-refused g c =
    let p = err_from_is_err_and c.from_residual-in_err-begun.result c.from_residual-in_err-begun.ensures.1 in
    let second = rw c.read_file.ensures.shelf.files_stay at c.in_ok-text.ensures.held in
    let stop = rw (c.deref.ensures.value, c.deref-2.ensures.value) at c.in_err-begun.ensures.refused in
    rw (p.1, p.2)
    (session_refused (session_view c.args.self.now) (g.S.Shelf.files c.args.shelf.now) c.in_ok-stored.stored.items c.in_ok-text.text.items c.in_err-begun.field-0.0 c.in_ok-stored.ensures.held second stop)

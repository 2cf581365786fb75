use Rattle.std.proofs.lemmas.Result.{err_from_is_err_and}
use Rattle.query_cli.specs.Views.{once_view}
use Rattle.query_cli.proofs.CommandLaws.Once.{once_done, once_refused, once_unread}
use Rattle.query_cli.proofs.commands.once.Once.answer.Goals as goal

pub returns-in_err-bytes-clause-refused : goal.returns-in_err-bytes-clause-refused
returns-in_err-bytes-clause-refused g c =
    let p = err_from_is_err_and c.from_residual.result c.from_residual.ensures.1 in
    rw (p.1, p.2) (once_unread (once_view c.args.self.now) (g.S.Shelf.files c.args.shelf.now) c.in_err-bytes.field-0.0 c.in_err-bytes.ensures.unread)

pub returns-in_err-text-clause-refused : goal.returns-in_err-text-clause-refused
returns-in_err-text-clause-refused g c =
    let p = err_from_is_err_and c.from_residual-in_err-text.result c.from_residual-in_err-text.ensures.1 in
    let refused = rw c.deref.ensures.value at c.in_err-text.ensures.refused in
    rw (p.1, p.2)
    (once_refused (once_view c.args.self.now) (g.S.Shelf.files c.args.shelf.now) c.in_ok-bytes.bytes.items c.in_err-text.field-0.0 c.in_ok-bytes.ensures.held refused)

pub returns-clause-done : goal.returns-clause-done
returns-clause-done g c =
    let told = rw c.deref.ensures.value at c.in_ok-text.ensures.ok in
    once_done (once_view c.args.self.now) (g.S.Shelf.files c.args.shelf.now) _ c.in_ok-bytes.bytes.items _ c.in_ok-bytes.ensures.held told c.read_file.ensures.shelf.files_stay

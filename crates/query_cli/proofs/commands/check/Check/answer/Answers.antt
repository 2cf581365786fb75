use Rattle.std.proofs.lemmas.Result.{err_from_is_err_and}
use Rattle.store_file.specs.Stored.{store_value}
use Rattle.query_cli.specs.Views.{check_view}
use Rattle.query_cli.proofs.CommandLaws.Check.{check_done, check_refused, check_unread}
use Rattle.query_cli.proofs.commands.check.Check.answer.Goals as goal

pub returns-in_err-stored-clause-refused : goal.returns-in_err-stored-clause-refused
returns-in_err-stored-clause-refused g c =
    let p = err_from_is_err_and c.from_residual.result c.from_residual.ensures.1 in
    rw (p.1, p.2) (check_unread (check_view c.args.self.now) (g.S.Shelf.files c.args.shelf.now) c.in_err-stored.field-0.0 c.in_err-stored.ensures.unread)

pub returns-in_err-store-clause-refused : goal.returns-in_err-store-clause-refused
returns-in_err-store-clause-refused g c =
    let p = err_from_is_err_and c.from_residual-in_err-store.result c.from_residual-in_err-store.ensures.1 in
    let refused = rw c.deref.ensures.value at c.in_err-store.ensures.refused in
    rw (p.1, p.2)
    (check_refused (check_view c.args.self.now) (g.S.Shelf.files c.args.shelf.now) c.in_ok-stored.stored.items c.in_err-store.field-0.0 c.in_ok-stored.ensures.held refused)

pub returns-clause-done : goal.returns-clause-done
returns-clause-done g c =
    let found = rw c.deref.ensures.value at c.in_ok-store.ensures.ok in
    let stands = rw c.deref.ensures.value at c.in_ok-store.ensures.stands in
    check_done (check_view c.args.self.now) (g.S.Shelf.files c.args.shelf.now) _ c.in_ok-stored.stored.items _ (store_value c.in_ok-store.store)
    c.in_ok-stored.ensures.held found c.in_ok-store.ensures.store stands c.in_ok-line.ensures c.read_file.ensures.shelf.files_stay

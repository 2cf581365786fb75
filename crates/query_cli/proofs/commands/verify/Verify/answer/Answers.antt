use Rattle.std.proofs.Common.{◌∙◌}
use Rattle.std.proofs.lemmas.Result.{err_from_is_err_and}
use Rattle.query_cli.specs.Views.{verify_view}
use Rattle.query_cli.proofs.CommandLaws.Column.{reads_two}
use Rattle.query_cli.proofs.CommandLaws.Verify.{cert_unread, verify_done, verify_refused, verify_unread}
use Rattle.query_cli.proofs.commands.verify.Verify.answer.Goals as goal

pub returns-in_err-stored-clause-refused : goal.returns-in_err-stored-clause-refused
returns-in_err-stored-clause-refused g c =
    let p = err_from_is_err_and c.from_residual.result c.from_residual.ensures.1 in
    rw (p.1, p.2)
    (verify_unread (verify_view c.args.self.now) (g.S.Shelf.files c.args.shelf.now) c.in_err-stored.field-0.0
    c.in_err-stored.ensures.unread)

pub returns-in_err-text-clause-refused : goal.returns-in_err-text-clause-refused
returns-in_err-text-clause-refused g c =
    let p = err_from_is_err_and c.from_residual-in_err-text.result c.from_residual-in_err-text.ensures.1 in
    let second = rw c.read_file.ensures.shelf.files_stay at c.in_err-text.ensures.unread in
    rw (p.1, p.2)
    (cert_unread (verify_view c.args.self.now) (g.S.Shelf.files c.args.shelf.now) c.in_ok-stored.stored.items
    c.in_err-text.field-0.0 c.in_ok-stored.ensures.held second)

pub returns-in_err-line-clause-refused : goal.returns-in_err-line-clause-refused
returns-in_err-line-clause-refused g c =
    let p = err_from_is_err_and c.from_residual-in_err-line.result c.from_residual-in_err-line.ensures.1 in
    let second = rw c.read_file.ensures.shelf.files_stay at c.in_ok-text.ensures.held in
    let stop = rw (c.deref.ensures.value, c.deref-2.ensures.value) at c.in_err-line.ensures.refused in
    rw (p.1, p.2)
    (verify_refused (verify_view c.args.self.now) (g.S.Shelf.files c.args.shelf.now) c.in_ok-stored.stored.items
    c.in_ok-text.text.items c.in_err-line.field-0.0 (record { store = c.in_ok-stored.ensures.held; cert = second }) stop)

pub returns-clause-done : goal.returns-clause-done
returns-clause-done g c =
    let second = rw c.read_file.ensures.shelf.files_stay at c.in_ok-text.ensures.held in
    let upheld = rw (c.deref.ensures.value, c.deref-2.ensures.value) at c.in_ok-line.ensures.ok in
    verify_done (verify_view c.args.self.now) (g.S.Shelf.files c.args.shelf.now) _ c.in_ok-stored.stored.items
    c.in_ok-text.text.items _ (record { store = c.in_ok-stored.ensures.held; cert = second }) upheld
    (c.read_file-2.ensures.shelf.files_stay ∙ c.read_file.ensures.shelf.files_stay)

pub returns-clause-fetches : goal.returns-clause-fetches
returns-clause-fetches g c =
    reads_two c.args.self.now.store.now (g.S.Shelf.files c.args.shelf.now) c.in_ok-stored.stored.items
    (g.S.Shelf.fetches c.args.shelf.now) (g.S.Shelf.fetches c.read_file.new.shelf)
    (g.S.Shelf.fetches c.read_file-2.new.shelf) c.in_ok-stored.ensures.held c.read_file.ensures.fetches
    c.read_file-2.ensures.fetches

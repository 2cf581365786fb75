use Rattle.std.proofs.lemmas.Result.{err_from_is_err_and}
use Rattle.std.proofs.Common.{Some}
use Rattle.query_cli.specs.Commands.{append}
use Rattle.query_cli.specs.Commands.Append.{append_by}
use Rattle.query_cli.specs.Views.{append_view}
use Rattle.query_cli.proofs.CommandLaws.Column.{done, refused, unread, unread_csv}
use Rattle.query_cli.proofs.CommandLaws.Append.{is_append}
use Rattle.query_cli.proofs.commands.append.Append.answer.Goals as goal

pub returns-in_err-stored-clause-refused : goal.returns-in_err-stored-clause-refused
returns-in_err-stored-clause-refused g c =
    let p = err_from_is_err_and c.from_residual.result c.from_residual.ensures.1 in
    let k = append_view c.args.self.now in
    rw (p.1, p.2) (unread (Some (append k)) k (append_by k) (g.S.Shelf.files c.args.shelf.now) c.in_err-stored.field-0.0 (is_append k) c.in_err-stored.ensures.unread)

pub returns-in_err-text-clause-refused : goal.returns-in_err-text-clause-refused
returns-in_err-text-clause-refused g c =
    let p = err_from_is_err_and c.from_residual-in_err-text.result c.from_residual-in_err-text.ensures.1 in
    let k = append_view c.args.self.now in
    let second = rw c.read_file.ensures.shelf.files_stay at c.in_err-text.ensures.unread in
    rw (p.1, p.2)
    (unread_csv (Some (append k)) k (append_by k) (g.S.Shelf.files c.args.shelf.now) c.in_ok-stored.stored.items c.in_err-text.field-0.0 (is_append k) c.in_ok-stored.ensures.held second)

pub returns-in_err-written-clause-refused : goal.returns-in_err-written-clause-refused
returns-in_err-written-clause-refused g c =
    let p = err_from_is_err_and c.from_residual-in_err-written.result c.from_residual-in_err-written.ensures.1 in
    let k = append_view c.args.self.now in
    let second = rw c.read_file.ensures.shelf.files_stay at c.in_ok-text.ensures.held in
    let stop = rw (c.deref.ensures.value, c.deref-2.ensures.value) at c.in_err-written.ensures.refused in
    rw (p.1, p.2)
    (refused (Some (append k)) k (append_by k) (g.S.Shelf.files c.args.shelf.now) c.in_ok-stored.stored.items c.in_ok-text.text.items c.in_err-written.field-0.0 (is_append k)
    (record { store = c.in_ok-stored.ensures.held; csv = second }) stop)

pub returns-clause-done : goal.returns-clause-done
returns-clause-done g c =
    let k = append_view c.args.self.now in
    let second = rw c.read_file.ensures.shelf.files_stay at c.in_ok-text.ensures.held in
    let brings = rw (c.deref.ensures.value, c.deref-2.ensures.value) at c.in_ok-written.ensures.ok in
    let replaced = rw (c.read_file-2.ensures.shelf.files_stay, c.read_file.ensures.shelf.files_stay, c.deref-3.ensures.value) at c.in_ok-replace_file.ensures.replaced in
    done (Some (append k)) k (append_by k) (g.S.Shelf.files c.args.shelf.now) _ c.in_ok-stored.stored.items c.in_ok-text.text.items _ _ (is_append k)
    (record { store = c.in_ok-stored.ensures.held; csv = second }) brings replaced

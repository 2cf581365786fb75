use Rattle.std.proofs.lemmas.Result.{err_from_is_err_and}
use Rattle.query_cli.specs.Views.{gen_view}
use Rattle.query_cli.proofs.CommandLaws.Gen.{gen_done, gen_refused, gen_unread}
use Rattle.query_cli.proofs.commands.generate.Gen.answer.Goals as goal

pub returns-in_err-stored-clause-refused : goal.returns-in_err-stored-clause-refused
returns-in_err-stored-clause-refused g c =
    let p = err_from_is_err_and c.from_residual.result c.from_residual.ensures.1 in
    rw (p.1, p.2) (gen_unread (gen_view c.args.self.now) (g.S.Shelf.files c.args.shelf.now) c.in_err-stored.field-0.0 c.in_err-stored.ensures.unread)

pub returns-in_err-written-clause-refused : goal.returns-in_err-written-clause-refused
returns-in_err-written-clause-refused g c =
    let p = err_from_is_err_and c.from_residual-in_err-written.result c.from_residual-in_err-written.ensures.1 in
    let refused = rw c.deref.ensures.value at c.in_err-written.ensures.refused in
    rw (p.1, p.2)
    (gen_refused (gen_view c.args.self.now) (g.S.Shelf.files c.args.shelf.now) c.in_ok-stored.stored.items c.in_err-written.field-0.0 c.in_ok-stored.ensures.held refused)

pub returns-clause-done : goal.returns-clause-done
returns-clause-done g c =
    let made = rw c.deref.ensures.value at c.in_ok-written.ensures.ok in
    let replaced = rw (c.read_file.ensures.shelf.files_stay, c.deref-2.ensures.value) at c.in_ok-replace_file.ensures.replaced in
    gen_done (gen_view c.args.self.now) (g.S.Shelf.files c.args.shelf.now) _ c.in_ok-stored.stored.items _ _ c.in_ok-stored.ensures.held made replaced

use Rattle.query_cli.specs.Views.{new_view}
use Rattle.query_cli.proofs.CommandLaws.New.{new_done}
use Rattle.query_cli.proofs.commands.new.New.answer.Goals as goal

pub returns-clause-done : goal.returns-clause-done
returns-clause-done g c =
    let replaced = rw c.deref.ensures.value at c.in_ok-replace_file.ensures.replaced in
    new_done (new_view c.args.self.now) (g.S.Shelf.files c.args.shelf.now) _ c.in_ok-written.written.bytes.items _
    c.args.self.now.few_places c.args.self.now.square c.in_ok-written.ensures.line c.in_ok-written.ensures.bytes replaced

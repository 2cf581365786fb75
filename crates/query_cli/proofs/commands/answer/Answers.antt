use Rattle.std.proofs.Common.{sym}
use Rattle.query_cli.specs.Commands.{command_in}
use Rattle.query_cli.proofs.StepLaws.{no_words}
use Rattle.query_cli.proofs.commands.answer.Goals as goal

pub returns-in-None-clause-refused : goal.returns-in-None-clause-refused
returns-in-None-clause-refused g c =
    no_words (g.S.Shelf.files c.args.shelf.now) (command_in c.args.words.now) c.refuse.result (sym c.in-None.ensures) c.refuse.ensures

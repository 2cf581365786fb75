use Rattle.query_cli.proofs.PartLaws.{size_there}
use Rattle.query_cli.proofs.steps.files.find_store.Goals as goal

pub returns-else-size-gt-MOST_STORE-clause-there : goal.returns-else-size-gt-MOST_STORE-clause-there
returns-else-size-gt-MOST_STORE-clause-there g c =
    size_there (g.S.Shelf.files c.args.shelf.now) c.args.name.now c.in-Ok-Some.field-0 c.in-Ok-Some.size
    c.in-Ok-Some.field-0-is c.if-size-gt-MOST_STORE.false c.in-Ok-Some.ensures.answer

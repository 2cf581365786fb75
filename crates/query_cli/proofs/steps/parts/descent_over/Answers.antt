use Rattle.std.proofs.Common.{Err, ap}
use Rattle.query_cli.proofs.PartLaws.{bad_part}
use Rattle.query_cli.proofs.steps.parts.descent_over.Goals as goal

pub returns-in-Err-Bad-clause-bad : goal.returns-in-Err-Bad-clause-bad
returns-in-Err-Bad-clause-bad g c =
    bad_part c.args.store.now.nodes (g.S.Shelf.files c.args.shelf.now) c.refuse.result
    (c.in-Err-Bad.ensures.bad (ap Err c.in-Err-Bad.field-0-is)) c.refuse.ensures

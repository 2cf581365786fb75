use Rattle.query_cli.proofs.CommandLaws.Check.{stores-are-accepted, only-stores-are-accepted}
use Rattle.query_cli.proofs.laws.stores_are_accepted.Goals as goal

pub returns-clause-accepted : goal.returns-clause-accepted
returns-clause-accepted c = stores-are-accepted

pub returns-clause-only : goal.returns-clause-only
returns-clause-only c = only-stores-are-accepted

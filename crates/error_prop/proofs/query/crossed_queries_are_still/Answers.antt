use Rattle.error_prop.proofs.QueryLaws.{crossed_still}
use Rattle.error_prop.proofs.query.crossed_queries_are_still.Goals as goal

pub returns : goal.returns
returns c = crossed_still

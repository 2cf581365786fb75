use Rattle.query_cli.proofs.EmptyLaws.{empty-growth-stays}
use Rattle.query_cli.proofs.ReplayLaws.{histories-make-stores, IsHistory-more}
use Rattle.query_cli.proofs.laws.histories_make_stores.Goals as goal

pub returns-clause-stores : goal.returns-clause-stores
returns-clause-stores c = histories-make-stores

pub returns-clause-go_on : goal.returns-clause-go_on
returns-clause-go_on c = IsHistory-more

pub returns-clause-empty : goal.returns-clause-empty
returns-clause-empty c = empty-growth-stays

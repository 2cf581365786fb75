use Rattle.query_cli.proofs.StepLaws.{grow_refused, short-fits}
use Rattle.query_cli.proofs.steps.store.grow.Goals as goal

pub returns-in-Err-clause-refused : goal.returns-in-Err-clause-refused
returns-in-Err-clause-refused c = grow_refused c.args.store.now c.args.name c.args.xs.now c.in-Err.e c.refuse_series.result c.requires.nodes c.in-Err.ensures.refused c.refuse_series.ensures

pub returns-in-Ok-clause-ok : goal.returns-in-Ok-clause-ok
returns-in-Ok-clause-ok c = short-fits c.args.store.now c.args.name c.args.xs.now c.requires.nodes c.in-Ok.ensures.ok

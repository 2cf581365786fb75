use Rattle.query_cli.proofs.SessionRun.{no-fault-said}
use Rattle.query_cli.proofs.steps.lines.end_early.Goals as goal

pub returns-in-Ok-put-clause-out_fault : goal.returns-in-Ok-put-clause-out_fault
returns-in-Ok-put-clause-out_fault g c = λ e. absurd (no-fault-said c.args.halt c.in-Ok.reply.status _ c.requires c.in-Ok.ensures e)

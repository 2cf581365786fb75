use Rattle.std.proofs.Common.{sym}
use Rattle.sessions.proofs.LiveLaws.{tree-at}
use Rattle.sessions.proofs.live.tree_at.Goals as goal

pub returns : goal.returns
returns c = tree-at c.args.series.now.entries c.args.place (c.in-Some._name.now, c.in-Some.stored.now) (sym c.in-Some.ensures.entry)

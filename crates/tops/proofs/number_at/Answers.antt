use Rattle.tops.proofs.Joins.{read}
use Rattle.tops.proofs.number_at.Goals as goal

pub returns : goal.returns
returns c = read c.args.nodes.now c.args.at c.get.result c.get.ensures c.requires

use Rattle.std.proofs.Common.{arith}
use Rattle.tops.proofs.Joins.{most_under-four}
use Rattle.tops.proofs.greatest_under.Goals as goal

pub returns : goal.returns
returns c = omega (arith, most_under-four c.args.nodes.now c.args.at)

use Rattle.std.proofs.Common.{length}
use Rattle.seg_tree.proofs.adopting.+adopt_nodes.Given as goal

abbrev pub decreases-adopt_nodes : goal.decreases-adopt_nodes
decreases-adopt_nodes l = length l.xs.now

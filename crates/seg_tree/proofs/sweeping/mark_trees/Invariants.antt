use Rattle.std.proofs.Common.{take}
use Rattle.seg_tree.proofs.SweepLaws.{TreesMarked}
use Rattle.seg_tree.proofs.sweeping.mark_trees.Given as goal

abbrev pub invariant-loop-tree : goal.invariant-loop-tree
invariant-loop-tree l = TreesMarked l.fn.slots l.slots (take l.tree-index l.live)

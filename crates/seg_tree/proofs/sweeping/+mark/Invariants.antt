use Rattle.seg_tree.proofs.sweeping.+mark.Given as goal

abbrev pub decreases-mark : goal.decreases-mark
decreases-mark l = l.len

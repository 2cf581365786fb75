use Rattle.tree_file.proofs.offsets.+offset_below.Given as goal

abbrev pub decreases-offset_below : goal.decreases-offset_below
decreases-offset_below l = l.span

use Rattle.seg_tree.proofs.growing.+nodes_behind.Given as goal

abbrev pub decreases-nodes_behind : goal.decreases-nodes_behind
decreases-nodes_behind l = l.len

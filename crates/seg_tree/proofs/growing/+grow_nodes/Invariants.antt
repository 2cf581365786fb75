use Rattle.seg_tree.proofs.growing.+grow_nodes.Given as goal

abbrev pub decreases-grow_nodes : goal.decreases-grow_nodes
decreases-grow_nodes l = l.len

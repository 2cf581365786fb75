use Rattle.seg_tree.proofs.reading.+push_segs.Given as goal

abbrev pub decreases-push_segs : goal.decreases-push_segs
decreases-push_segs l = l.len

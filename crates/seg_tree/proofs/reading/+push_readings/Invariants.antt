use Rattle.seg_tree.proofs.reading.+push_readings.Given as goal

abbrev pub decreases-push_readings : goal.decreases-push_readings
decreases-push_readings l = l.len

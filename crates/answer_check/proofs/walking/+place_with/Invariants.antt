use Rattle.answer_check.proofs.walking.+place_with.Given as goal

abbrev pub decreases-place_with : goal.decreases-place_with
decreases-place_with l = l.len

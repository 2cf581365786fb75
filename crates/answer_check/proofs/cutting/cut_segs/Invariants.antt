use Rattle.answer_check.specs.Walked.{tree_over}
use Rattle.answer_check.proofs.Cuts.{IsCutTo}
use Rattle.answer_check.proofs.cutting.cut_segs.Given as goal

-- the segments of the rows that are passed, and those of the rows that are left
abbrev pub invariant-loop-i : goal.invariant-loop-i
invariant-loop-i l = IsCutTo (tree_over l.arena.nodes l.root 0 l.n) l.n l.rows l.i l.at l.segs.items

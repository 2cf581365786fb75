use Rattle.expr.specs.Terms.{query_term_of}
use Rattle.answer_check.proofs.FrameSteps.{IsFrameTo}
use Rattle.answer_check.proofs.framing.frame_over.Given as goal

-- the tracks of the series that are passed, and those of the series that are left
abbrev pub invariant-loop-k : goal.invariant-loop-k
invariant-loop-k l = IsFrameTo l.arena.nodes l.series.entries (query_term_of l.q) l.lists l.k l.place l.frame

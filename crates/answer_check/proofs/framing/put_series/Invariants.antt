use Rattle.std.proofs.Common.{◌≡◌, take}
use Rattle.answer_check.proofs.FrameSteps.{with_segs}
use Rattle.answer_check.proofs.framing.put_series.Given as goal

abbrev pub invariant-loop-i : goal.invariant-loop-i
invariant-loop-i l = l.frame ≡ with_segs l.fn.frame l.fn.name (take l.i l.segs)

use Rattle.std.proofs.Common.{◌≡◌, ◌++◌, take}
use Rattle.descent.specs.Rows.{units}
use Rattle.answer_check.proofs.cutting.push_units.Given as goal

abbrev pub invariant-loop-i : goal.invariant-loop-i
invariant-loop-i l = l.segs.items ≡ l.fn.segs.items ++ units l.start (take l.i l.readings)

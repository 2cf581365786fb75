use Rattle.seg_tree.proofs.SweepLaws.{AreSettled}
use Rattle.seg_tree.proofs.sweeping.settle.Given as goal

abbrev pub invariant-loop-i : goal.invariant-loop-i
invariant-loop-i l = AreSettled l.i l.slots l.fn.slots l.last l.vacancies

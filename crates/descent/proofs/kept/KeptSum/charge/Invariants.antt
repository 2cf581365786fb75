use Rattle.std.proofs.Common.{◌≡◌, ◌%◌, ◌^◌}
use Rattle.semantics.specs.Sums.{sum_below}
use Rattle.descent.specs.KeptSums.{part_of}
use Rattle.descent.proofs.kept.KeptSum.charge.Given as goal

abbrev pub invariant-loop-o : goal.invariant-loop-o
invariant-loop-o l = l.sum ≡ sum_below (part_of l.self l.i l.seg) l.o % 2 ^ 128

use Rattle.std.proofs.Common.{◌≡◌}
use Rattle.semantics.specs.Sums.{most_below}
use Rattle.segment.specs.Measure.{magnitude_at}
use Rattle.segment.proofs.measures.greatest_reading.Given as goal

abbrev pub invariant-loop-i : goal.invariant-loop-i
invariant-loop-i l = l.most ≡ most_below (magnitude_at l.xs) l.i

use Rattle.std.proofs.Common.{◌≡◌, ◌-◌, ◌*◌, ◌^◌, ◌≤◌, length}
use Rattle.semantics.specs.Sums.{sum_below}
use Rattle.segment.specs.Measure.{miss_at}
use Rattle.segment.proofs.measures.miss.Given as goal

abbrev pub invariant-loop-from : goal.invariant-loop-from
invariant-loop-from l = record {
  within : l.from ≤ length l.xs;
  sum : l.sum ≡ sum_below (miss_at l.curve l.xs) l.from;
  fits : l.sum ≤ l.from * 2 ^ 50;
}

abbrev pub decreases-loop-from : goal.decreases-loop-from
decreases-loop-from l = length l.xs - l.from

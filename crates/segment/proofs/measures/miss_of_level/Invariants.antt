use Rattle.std.proofs.Common.{◌≡◌, ◌+◌, ◌-◌, ◌*◌, ◌^◌, ◌≤◌}
use Rattle.semantics.specs.Sums.{sum_below}
use Rattle.segment.specs.Measure.{miss_at}
use Rattle.segment.proofs.measures.miss_of_level.Given as goal

abbrev pub invariant-loop-i : goal.invariant-loop-i
invariant-loop-i l = record {
  sum : l.sum + sum_below (miss_at l.curve l.xs) l.fn.from ≡ sum_below (miss_at l.curve l.xs) l.i;
  fits : l.sum ≤ (l.i - l.fn.from) * 2 ^ 50;
}

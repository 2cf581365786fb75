use Rattle.std.proofs.Common.{◌≡◌, ◌+◌, ◌-◌, ◌*◌, ◌^◌, ◌≤◌}
use Rattle.semantics.specs.Sums.{sum_below}
use Rattle.segment.specs.Measure.{estimate_at, miss_at}
use Rattle.segment.specs.Steps.{step_at}
use Rattle.segment.proofs.measures.miss_of_bent.Given as goal

abbrev pub invariant-loop-i : goal.invariant-loop-i
invariant-loop-i l = record {
  sum : l.sum + sum_below (miss_at l.curve l.xs) l.fn.from ≡ sum_below (miss_at l.curve l.xs) l.i;
  fits : l.sum ≤ (l.i - l.fn.from) * 2 ^ 50;
  estimate : l.estimate ≡ estimate_at l.curve l.i;
  step : l.step ≡ step_at l.curve l.i;
}

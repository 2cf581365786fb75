use Rattle.std.proofs.Common.{◌≡◌, ◌-◌, ◌≤◌}
use Rattle.semantics.specs.Sums.{most_below}
use Rattle.segment.specs.Measure.{estimate_at, estimate_magnitude_at}
use Rattle.segment.specs.Steps.{step_at}
use Rattle.segment.proofs.measures.greatest_along.Given as goal

abbrev pub invariant-loop-i : goal.invariant-loop-i
invariant-loop-i l = record {
  within : l.i ≤ l.n;
  most : l.most ≡ most_below (estimate_magnitude_at l.curve) l.i;
  estimate : l.estimate ≡ estimate_at l.curve l.i;
  change : l.change ≡ step_at l.curve l.i;
}

abbrev pub decreases-loop-i : goal.decreases-loop-i
decreases-loop-i l = l.n - l.i

use Rattle.std.proofs.Common.{◌≡◌, ◌-◌, ◌*◌, ◌^◌, ◌≤◌, length, unsigned_abs}
use Rattle.semantics.specs.Sums.{total_below}
use Rattle.semantics.specs.Readings.{reading}
use Rattle.segment.specs.Fit.{moment_at}
use Rattle.segment.proofs.fitting.moment.Given as goal

abbrev pub invariant-loop-from : goal.invariant-loop-from
invariant-loop-from l = record {
  within : l.from ≤ length l.xs;
  sum : l.sum ≡ total_below (moment_at (reading l.xs)) l.from;
  small : unsigned_abs l.sum ≤ l.from * 2 ^ 50;
}

abbrev pub decreases-loop-from : goal.decreases-loop-from
decreases-loop-from l = length l.xs - l.from

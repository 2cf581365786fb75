use Rattle.std.proofs.Common.{◌≡◌, ◌-◌, ◌*◌, ◌^◌, ◌≤◌, ◌+ℤ◌, unsigned_abs}
use Rattle.semantics.specs.Sums.{total_below}
use Rattle.semantics.specs.Readings.{reading}
use Rattle.segment.specs.Fit.{moment_at}
use Rattle.segment.proofs.fitting.moment_between.Given as goal

abbrev pub invariant-loop-i : goal.invariant-loop-i
invariant-loop-i l = record {
  sum : total_below (moment_at (reading l.xs)) l.i ≡ total_below (moment_at (reading l.xs)) l.fn.from +ℤ l.sum;
  small : unsigned_abs l.sum ≤ (l.i - l.fn.from) * 2 ^ 50;
}

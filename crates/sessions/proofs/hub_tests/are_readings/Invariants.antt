use Rattle.std.proofs.Common.{ℕ, ◌^◌, ◌<◌, ◌≤◌, unsigned_abs}
use Rattle.semantics.specs.Readings.{reading}
use Rattle.sessions.proofs.hub_tests.are_readings.Given as goal

abbrev pub invariant-loop-x : goal.invariant-loop-x
invariant-loop-x l = (i : ℕ) → i < l.x-index → unsigned_abs (reading l.xs i) ≤ 10 ^ 9

use Rattle.std.proofs.Common.{ℕ, ◌*◌, ◌<◌, ◌≤◌}
use Rattle.tops.specs.Tops.{number}
use Rattle.tops.proofs.first_under.Given as goal

abbrev pub invariant-loop-below : goal.invariant-loop-below
invariant-loop-below l = (other : ℕ) → 4 * l.at ≤ other → other < l.below → number l.nodes other < number l.nodes l.at

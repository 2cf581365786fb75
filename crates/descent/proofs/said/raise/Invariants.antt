use Rattle.std.proofs.Common.{◌≡◌, ℕ, ◌<◌, ◌≤◌, max, get_or}
use Rattle.descent.proofs.said.raise.Given as goal

abbrev pub invariant-loop-o : goal.invariant-loop-o
invariant-loop-o l = record {
  up : (k : ℕ) → k < l.o → get_or l.weights k 0 ≡ max (get_or l.fn.weights k 0) (get_or l.by k 0);
  others : (k : ℕ) → l.o ≤ k → get_or l.weights k 0 ≡ get_or l.fn.weights k 0;
}

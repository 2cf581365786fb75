use Rattle.std.proofs.Common.{◌≡◌, ℕ, ◌<◌, ◌≤◌, length}
use Rattle.tops.specs.Tops.{number}
use Rattle.descent.specs.KeptSums.{numbers_at}
use Rattle.descent.proofs.kept.no_weights.Given as goal

abbrev pub invariant-loop-o : goal.invariant-loop-o
invariant-loop-o l = record {
  count : length l.weights.items ≡ l._o;
  room : (o : ℕ) → o < l._o → l.cells ≤ length (numbers_at l.weights.items o);
  zeros : (o c : ℕ) → number (numbers_at l.weights.items o) c ≡ 0;
}

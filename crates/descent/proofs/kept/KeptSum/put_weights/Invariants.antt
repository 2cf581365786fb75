use Rattle.std.proofs.Common.{◌≡◌, ℕ, ◌<◌, get_or}
use Rattle.tops.specs.Tops.{number}
use Rattle.descent.specs.Held.{shown}
use Rattle.descent.specs.KeptSums.{numbers_at}
use Rattle.descent.specs.Settled.{CanBeCharged, HasOtherWeights}
use Rattle.descent.proofs.kept.KeptSum.put_weights.Given as goal

abbrev pub invariant-loop-o : goal.invariant-loop-o
invariant-loop-o g l = record {
  can : CanBeCharged (shown l.tables) l.self;
  here : (o : ℕ) → o < l.o → number (numbers_at l.self.weights.items o) l.c ≡ get_or l.weights o 0;
  others : (o d : ℕ) → (d ≡ l.c → ⊥) → number (numbers_at l.self.weights.items o) d ≡ number (numbers_at l.fn.self.weights.items o) d;
  same : HasOtherWeights l.fn.self l.self;
}

-- Each position of a range lies in exactly one of its pieces.
use Rattle.std.proofs.Common.{◌≡◌, ℕ, zero, suc, ◌<◌, ℤ, pos, ◌+ℤ◌, ◌-ℤ◌, List, [], ◌∷◌, length, unsigned_abs, inl, inr, refl, ap, arith}
use Rattle.std.specs.Prelude.{◌≤ℤ◌, ◌<ℤ◌}
use Rattle.std.proofs.lemmas.Int.{ints}
use Rattle.pieces.specs.View.{PieceView}
use Rattle.pieces.specs.Refinement.{piece_at, IsIn, IsInOne, RunFrom}
use Rattle.pieces.proofs.Steps.{le_or_lt}

starts_behind : (from to : ℤ) (pieces : List PieceView) (k : ℕ) → RunFrom from pieces to → k < length pieces → from ≤ℤ (piece_at pieces k).start
starts_behind from to [] k h lt = absurd (omega arith)
starts_behind from to (p ∷ pieces) zero h lt = omega (arith, ints, h.0)
starts_behind from to (p ∷ pieces) (suc k) h lt = omega (arith, ints, starts_behind (from +ℤ pos p.len) to pieces k h.2 (omega arith))

in_first : (from to i : ℤ) (p : PieceView) (pieces : List PieceView) → RunFrom from (p ∷ pieces) to → from ≤ℤ i → i <ℤ (from +ℤ pos p.len) → IsInOne (p ∷ pieces) i
in_first from to i p pieces h low high = record {
  place = 0;
  below = omega arith;
  inside = (omega (arith, ints, h.0), omega (arith, ints, h.0));
  alone = alone;
}
  where
    alone : (k : ℕ) → k < length (p ∷ pieces) → IsIn (piece_at (p ∷ pieces) k) i → k ≡ 0
    alone zero lt q = refl
    alone (suc k) lt q = absurd (omega (arith, ints, starts_behind (from +ℤ pos p.len) to pieces k h.2 (omega arith), q.0))

in_rest : (from to i : ℤ) (p : PieceView) (pieces : List PieceView) → RunFrom from (p ∷ pieces) to → (from +ℤ pos p.len) ≤ℤ i → IsInOne pieces i → IsInOne (p ∷ pieces) i
in_rest from to i p pieces h low one = record {
  place = suc one.place;
  below = omega (arith, one.below);
  inside = one.inside;
  alone = alone;
}
  where
    alone : (k : ℕ) → k < length (p ∷ pieces) → IsIn (piece_at (p ∷ pieces) k) i → k ≡ suc one.place
    alone zero lt q = absurd (omega (arith, ints, h.0, q.1))
    alone (suc k) lt q = ap suc (one.alone k (omega arith) q)

-- how far a position is from an earlier one
distance : (a b : ℤ) → a ≤ℤ b → (n : ℕ) × (b ≡ (a +ℤ pos n))
distance a b h = (unsigned_abs (b -ℤ a), omega (arith, ints))

pub in_one : (from to : ℤ) (pieces : List PieceView) (i : ℤ) → RunFrom from pieces to → from ≤ℤ i → i <ℤ to → IsInOne pieces i
in_one from to [] i h low high = let e : from ≡ to = h in absurd (omega (arith, ints, e))
in_one from to (p ∷ pieces) i h low high =
    let q = distance from i low in
    elim (le_or_lt p.len q.0) [
      | inl late ↦ (
          let behind : (from +ℤ pos p.len) ≤ℤ i = omega (arith, ints, q.1) in
          in_rest from to i p pieces h behind (in_one (from +ℤ pos p.len) to pieces i h.2 behind high)
          )
      | inr early ↦ in_first from to i p pieces h low (omega (arith, ints, q.1))
    ]

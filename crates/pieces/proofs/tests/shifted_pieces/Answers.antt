use Rattle.std.proofs.Common.{ℕ, zero, suc, ◌+◌, ◌<◌, ◌≤◌, ℤ, pos, negsuc, List, [], ◌∷◌, inl, inr, arith}
use Rattle.std.specs.Prelude.{◌≤ℤ◌, ◌<ℤ◌}
use Rattle.std.proofs.lemmas.Int.{ints}
use Rattle.pieces.specs.declared.spans.Span.{Span}
use Rattle.pieces.specs.declared.spans.Occ.{Occ}
use Rattle.pieces.specs.Refinement.{IsReadAt, AllRead}
use Rattle.pieces.proofs.Counts.{length-segs}
use Rattle.pieces.proofs.Steps.{le_or_lt}
use Rattle.pieces.proofs.tests.shifted_pieces.Goals as goal

abbrev spans : List Span
spans = record { start = 0; len = 16 } ∷ record { start = 16; len = 16 } ∷ []

abbrev occ : ℕ → Occ
occ k = record { from = 0; to = 2; shift = pos k }

abbrev occs : List Occ
occs = occ 0 ∷ occ 1 ∷ []

read_at : (n k : ℕ) → k ≤ n → n < 32 → (s : ℕ) × IsReadAt spans (occ k) (pos n) s
read_at n k low high = elim (le_or_lt (16 + k) n) [
  | inl late ↦ (1, record { from = omega arith; to = omega arith; start = omega (arith, ints); behind = omega (arith, ints) })
  | inr early ↦ (0, record { from = omega arith; to = omega arith; start = omega (arith, ints); behind = omega (arith, ints) })
]

read : (i : ℤ) → pos 1 ≤ℤ i → i <ℤ pos 32 → AllRead spans occs i
read (pos n) low high zero lt = read_at n 0 (omega arith) (omega (arith, ints, high))
read (pos n) low high (suc zero) lt = read_at n 1 (omega (arith, ints, low)) (omega (arith, ints, high))
read (pos n) low high (suc (suc o)) lt = absurd (omega arith)
read (negsuc n) low high o lt = absurd (omega (arith, ints, low))

pub refine-requires-clause-read : goal.refine-requires-clause-read
refine-requires-clause-read c = read

pub returns : goal.returns
returns c = length-segs spans occs (pos 1) (pos 32) c.in_ok-pieces.pieces c.in_ok-pieces.ensures.pieces

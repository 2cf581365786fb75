-- Forms and greatest weights, piece by piece.
use Rattle.std.proofs.Common.{◌≡◌, ℕ, ◌+◌, ◌≤◌, ◌<◌, max, Bool, true, false, cond, ℤ, pos, ◌+ℤ◌, List, get_or, ap, ◌∙◌, arith}
use Rattle.semantics.specs.Measures.{names_in}
use Rattle.semantics.specs.Term.{Term}
use Rattle.segment.specs.declared.segments.Seg.{Seg}
use Rattle.bounds.specs.Cut.{most_weight, weight_at, weight_in}
use Rattle.bounds.specs.Pieces.{FormsGoByPieces, IsPiece}
use Rattle.bounds.specs.Segments.{covers}
use Rattle.bounds.specs.Shape.{estimate_by, shape}
use Rattle.bounds.proofs.ShapeLaws.{form_by_reads, weight_by_reads}
use Rattle.bounds.proofs.Sums.{most_below-run}

most_weight-read : (w : ℕ → ℕ) (n len x : ℕ) (at : ℤ) (g : Seg) → 1 ≤ len → ((j : ℕ) → j < len → covers g (at +ℤ pos (n + j)) ≡ true) → ((j : ℕ) → j < len → w (n + j) ≡ x)
    → most_weight w (n + len) at g ≡ max (most_weight w n at g) x
most_weight-read w n len x at g some h k =
    most_below-run (weight_in w at g) n len x some (λ j lt. ap (λ (b : Bool). cond b (w (n + j)) 0) (h j lt) ∙ k j lt)

most_weight-passed : (w : ℕ → ℕ) (n len : ℕ) (at : ℤ) (g : Seg) → 1 ≤ len → ((j : ℕ) → j < len → covers g (at +ℤ pos (n + j)) ≡ false) → most_weight w (n + len) at g ≡ most_weight w n at g
most_weight-passed w n len at g some h =
    let e : most_weight w (n + len) at g ≡ max (most_weight w n at g) 0 = most_below-run (weight_in w at g) n len 0 some (λ j lt. ap (λ (b : Bool). cond b (w (n + j)) 0) (h j lt)) in
    omega (arith, e)

weight_on_piece : (C : List ℕ → List Seg) (t : Term) (l : ℤ) (n len : ℕ) (gs : List Seg) → IsPiece C t l n len gs → (o j : ℕ) → o < names_in t → j < len → weight_at C t l o (n + j) ≡ get_or (shape t gs).weights o 0
weight_on_piece C t l n len gs h o j below lt = weight_by_reads C t l o (n + j) below ∙ ap (λ (hs : List Seg). get_or (shape t hs).weights o 0) (h.same j lt)

pub by_pieces : FormsGoByPieces
by_pieces C t l n len gs h = record {
  weights = weight_on_piece C t l n len gs h;
  estimates = λ j lt. (form_by_reads C t (l +ℤ pos (n + j))).estimate ∙ ap (λ (hs : List Seg). estimate_by t hs (l +ℤ pos (n + j))) (h.same j lt);
  read = λ o at g below c. most_weight-read (weight_at C t l o) n len (get_or (shape t gs).weights o 0) at g h.some c (λ j lt. weight_on_piece C t l n len gs h o j below lt);
  passed = λ o at g c. most_weight-passed (weight_at C t l o) n len at g h.some c;
}

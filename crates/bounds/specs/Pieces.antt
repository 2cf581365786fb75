-- Forms and weights on a piece: positions in a row at which a series reads the same segments.
use Rattle.std.specs.Prelude.{◌≡◌, ℕ, ◌+◌, ◌≤◌, ◌<◌, max, true, false, ℤ, pos, ◌+ℤ◌, List, slice_index}
use Rattle.semantics.specs.Measures.{names_in}
use Rattle.semantics.specs.Term.{Term}
use Rattle.segment.specs.declared.segments.Seg.{Seg}
use Rattle.bounds.specs.Cut.{weight_at, greatest_weight}
use Rattle.bounds.specs.Form.{form}
use Rattle.bounds.specs.Segments.{covers}
use Rattle.bounds.specs.Shape.{estimate_by, reads, shape}

-- the positions from l + n on, len of them, at which a series reads these segments
pub record IsPiece (C : List ℕ → List Seg) (t : Term) (l : ℤ) (n len : ℕ) (gs : List Seg) : Type 0 where
  pub some : 1 ≤ len
  pub same : (j : ℕ) → j < len → reads C t (l +ℤ pos (n + j)) ≡ gs

-- on a piece
pub record IsByPiece (C : List ℕ → List Seg) (t : Term) (l : ℤ) (n len : ℕ) (gs : List Seg) : Type 0 where
  -- each weight is that of the shape, at every position
  pub weights : (o j : ℕ) → o < names_in t → j < len
      → weight_at C t l o (n + j) ≡ slice_index (shape t gs).weights o
  -- so is the estimate
  pub estimates : (j : ℕ) → j < len
      → (form C t (l +ℤ pos (n + j))).estimate ≡ estimate_by t gs (l +ℤ pos (n + j))
  -- in a segment that an occurrence reads at all its positions, the greatest weight so far goes up to that of the piece
  pub read : (o : ℕ) (at : ℤ) (g : Seg) → o < names_in t
      → ((j : ℕ) → j < len → covers g (at +ℤ pos (n + j)) ≡ true)
      → greatest_weight C t l (n + len) o at g
      ≡ max (greatest_weight C t l n o at g) (slice_index (shape t gs).weights o)
  -- in one that it reads at none of them, it stays
  pub passed : (o : ℕ) (at : ℤ) (g : Seg)
      → ((j : ℕ) → j < len → covers g (at +ℤ pos (n + j)) ≡ false)
      → greatest_weight C t l (n + len) o at g ≡ greatest_weight C t l n o at g

-- forms and greatest weights go piece by piece
abbrev pub FormsGoByPieces : Type 0
FormsGoByPieces = (C : List ℕ → List Seg) (t : Term) (l : ℤ) (n len : ℕ) (gs : List Seg)
    → IsPiece C t l n len gs → IsByPiece C t l n len gs

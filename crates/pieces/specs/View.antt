-- What a contract sees of a piece.
use Rattle.std.specs.Prelude.{ℕ, ℤ, List}

-- positions in a row, and the segment that each occurrence reads on them, by its place among the spans
pub record PieceView : Type 0 where
  pub start : ℤ
  pub len : ℕ
  pub segs : List ℕ

-- The size of an expression over so many positions.
use Rattle.std.specs.Prelude.{ℕ, ◌≡◌, ◌*◌, ◌≤◌, List, false}
use Rattle.semantics.specs.Measures.{rank_of, units_of, some_part, is_great_over, FitsOver}
use Rattle.semantics.specs.Most.{range_limit}
use Rattle.semantics.specs.Term.{Term}
use Rattle.expr.specs.declared.size.Size.{Size}

-- no part is too great over n positions, and these are the rank and the units
pub record IsSizeOver (D : List ℕ → ℕ) (n : ℕ) (t : Term) (size : Size) : Type 0 where
  pub rank : size.rank ≡ rank_of t
  pub units : size.units ≡ units_of D t
  pub fits : FitsOver D n t
  pub few : size.units ≤ range_limit
  pub spread : n * size.units ≤ range_limit
  pub parts : some_part (is_great_over D n) t ≡ false

-- The lines of a query, as the code goes over them.
use Rattle.std.specs.Prelude.{ℕ, zero, suc, ◌^◌, ◌<◌, ◌≤◌, List, [], ◌∷◌}
use Rattle.error_prop.specs.declared.query.SumLine.{SumLine}
use Rattle.descent.specs.Choice.{says_weight}

-- the weight of the line at a place, 0 where there is none
abbrev pub weight_in : List SumLine → ℕ → ℕ
weight_in [] j = 0
weight_in (l ∷ ls) zero = says_weight l
weight_in (l ∷ ls) (suc j) = weight_in ls j

-- of n numbers the one at a place is the first greatest, and not 0
pub record IsFirst (f : ℕ → ℕ) (n at : ℕ) : Type 0 where
  pub within : at < n
  pub some : 0 < f at
  pub lighter : (j : ℕ) → j < at → f j < f at
  pub no_heavier : (j : ℕ) → j < n → f j ≤ f at

-- a line whose numbers are small
pub record IsLight (l : SumLine) : Type 0 where
  pub rank : l.rank ≤ 2
  pub err : l.err ≤ 2 ^ 125
  pub weight : says_weight l ≤ 2 ^ 125

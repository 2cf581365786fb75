-- The readings of a series by position, and their plain sum over a range of positions.
use Rattle.std.specs.Prelude.{ℕ, List, get_or, ℤ, pos, negsuc, ◌+ℤ◌, ◌-ℤ◌}
use Rattle.semantics.specs.Sums.{total_below}

-- the reading at a place of the list, 0 where there is none
abbrev pub reading : List ℤ → ℕ → ℤ
reading xs i = get_or xs i (pos 0)

-- the reading at a position, 0 where there is none
abbrev pub reading_at : List ℤ → ℤ → ℤ
reading_at xs (pos i) = reading xs i
reading_at xs (negsuc i) = pos 0

-- a whole number from 0 up, and 0 for one below
abbrev pub from_zero : ℤ → ℕ
from_zero (pos n) = n
from_zero (negsuc n) = 0

-- how many positions there are from l up to r
abbrev pub positions_in : ℤ → ℤ → ℕ
positions_in l r = from_zero (r -ℤ l)

-- the reading at the i-th position from l on
abbrev pub reading_from : List ℤ → ℤ → ℕ → ℤ
reading_from xs l i = reading_at xs (l +ℤ pos i)

-- the plain sum of the readings at the positions from l up to r
abbrev pub plain_sum : List ℤ → ℤ → ℤ → ℤ
plain_sum xs l r = total_below (reading_from xs l) (positions_in l r)

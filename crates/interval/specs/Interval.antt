-- Intervals of whole numbers, and the interval of each operation.
use Rattle.std.specs.Prelude.{ℕ, max, ℤ, ◌≤ℤ◌, ◌+ℤ◌, ◌-ℤ◌, ◌*ℤ◌, unsigned_abs}
use Rattle.std.specs.Int.{int_max, int_min}

-- the numbers from one end to the other, both included
pub record Interval : Type 0 where
  pub lo : ℤ
  pub hi : ℤ

-- a number lies in the interval
pub record Has (iv : Interval) (v : ℤ) : Type 0 where
  pub low : iv.lo ≤ℤ v
  pub high : v ≤ℤ iv.hi

-- the ends are not crossed
abbrev pub IsOrdered : Interval → Type 0
IsOrdered iv = iv.lo ≤ℤ iv.hi

-- no end of a lies outside of b
pub record IsWithin (a b : Interval) : Type 0 where
  pub low : b.lo ≤ℤ a.lo
  pub high : a.hi ≤ℤ b.hi

-- no number lies in both
abbrev pub ShareNone : Interval → Interval → Type 0
ShareNone a b = (v : ℤ) → Has a v → Has b v → ⊥

-- the greatest magnitude in the interval
abbrev pub most_of : Interval → ℕ
most_of iv = max (unsigned_abs iv.lo) (unsigned_abs iv.hi)

abbrev pub sum_of : Interval → Interval → Interval
sum_of a b = record { lo = a.lo +ℤ b.lo; hi = a.hi +ℤ b.hi }

abbrev pub difference_of : Interval → Interval → Interval
difference_of a b = record { lo = a.lo -ℤ b.hi; hi = a.hi -ℤ b.lo }

abbrev pub least_of : ℤ → ℤ → ℤ → ℤ → ℤ
least_of a b c d = int_min (int_min a b) (int_min c d)

abbrev pub greatest_of : ℤ → ℤ → ℤ → ℤ → ℤ
greatest_of a b c d = int_max (int_max a b) (int_max c d)

-- from the least to the greatest of four numbers
abbrev pub around_of : ℤ → ℤ → ℤ → ℤ → Interval
around_of a b c d = record { lo = least_of a b c d; hi = greatest_of a b c d }

-- from the least to the greatest product of the ends
abbrev pub product_of : Interval → Interval → Interval
product_of a b = around_of (a.lo *ℤ b.lo) (a.lo *ℤ b.hi) (a.hi *ℤ b.lo) (a.hi *ℤ b.hi)

-- what both have; its ends are crossed where that is nothing
abbrev pub meet_of : Interval → Interval → Interval
meet_of a b = record { lo = int_max a.lo b.lo; hi = int_min a.hi b.hi }

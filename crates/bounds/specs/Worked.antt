-- Worked sums over the roots of two series.
use Rattle.std.specs.Prelude.{◌≡◌, ℕ, zero, suc, ◌*◌, ◌^◌, ℤ, pos, negsuc, List, [], ◌∷◌, codes}
use Rattle.semantics.specs.Term.{Term, base, times, shift}
use Rattle.segment.specs.declared.segments.Seg.{Seg}
use Rattle.segment.specs.Measure.{unit, IsTrueOf}
use Rattle.bounds.specs.Cut.{Entry, high_end, low_end, sum_error, sum_estimate}

-- 0 and 10 in turn, so many times
abbrev pub turns : ℕ → List ℤ
turns zero = []
turns (suc n) = pos 0 ∷ pos 10 ∷ turns n

-- the root of 16 turns: it estimates 5
abbrev pub turns_root : Seg
turns_root = record {
  start = 0;
  len = 32;
  a = pos (5 * unit);
  b = pos 0;
  c = pos 0;
  l = 160 * unit;
  d = 10;
  f = 5 * unit;
}

abbrev pub steps : List ℤ
steps = pos 1 ∷ pos 2 ∷ pos 3 ∷ []

-- their root: it estimates 2
abbrev pub steps_root : Seg
steps_root = record { start = 0; len = 3; a = pos (2 * unit); b = pos 0; c = pos 0; l = 2 * unit; d = 3; f = 2 * unit }

abbrev pub x : List ℕ
x = codes "x"

abbrev pub y : List ℕ
y = codes "y"

abbrev pub roots : List Entry
roots = record { name = x; segs = turns_root ∷ [] } ∷ record { name = y; segs = steps_root ∷ [] } ∷ []

-- a product with itself, one position later, at the positions 1 to 31
abbrev pub shifted_product : Term
shifted_product = times (base x) (shift (base x) (pos 1))

abbrev pub product : Term
product = times (base x) (base y)

pub record SumsAreWorked : Type 0 where
  pub turns_true : IsTrueOf (turns 16) turns_root
  pub steps_true : IsTrueOf steps steps_root
  pub shifted_estimate : sum_estimate roots shifted_product (pos 1) 31 ≡ pos (775 * unit ^ 2)
  pub shifted_error : sum_error roots shifted_product (pos 1) 31 ≡ 2400 * unit ^ 2
  pub shifted_low : low_end (pos (775 * unit ^ 2)) (2400 * unit ^ 2) 2 ≡ negsuc 1624
  pub shifted_high : high_end (pos (775 * unit ^ 2)) (2400 * unit ^ 2) 2 ≡ pos 3175
  pub product_error : sum_error roots product (pos 0) 3 ≡ 340 * unit ^ 2

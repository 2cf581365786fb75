-- The exact segment of one reading is true of it.
use Rattle.std.proofs.Common.{◌≡◌, ℕ, ◌*◌, ℤ, pos, ◌*ℤ◌, unsigned_abs, [], ◌∷◌, refl, arith}
use Rattle.std.proofs.lemmas.Int.{ints, unsigned_abs-mul}
use Rattle.segment.specs.Measure.{unit, estimate_at, miss, greatest_reading, greatest_estimate, unit_seg, curve_of, IsTrueOf}

flat_estimate : (a : ℤ) → estimate_at record { a = a; b = pos 0; c = pos 0 } 0 ≡ a
flat_estimate a = omega (arith, ints)

no_miss : (start : ℕ) (x : ℤ) → miss (curve_of (unit_seg start x)) (x ∷ []) ≡ 0
unfolding miss
no_miss start x = rw (flat_estimate (pos unit *ℤ x)) (omega (arith, ints))

one_greatest_reading : (x : ℤ) → greatest_reading (x ∷ []) ≡ unsigned_abs x
unfolding greatest_reading
one_greatest_reading x = omega arith

one_greatest_estimate : (start : ℕ) (x : ℤ) → greatest_estimate (curve_of (unit_seg start x)) 1 ≡ unit * unsigned_abs x
unfolding greatest_estimate
one_greatest_estimate start x = rw (flat_estimate (pos unit *ℤ x)) (omega (arith, unsigned_abs-mul (pos unit) x))

pub unit-true : (start : ℕ) (x : ℤ) → IsTrueOf (x ∷ []) (unit_seg start x)
unit-true start x = record {
  measured = rw (no_miss start x, one_greatest_reading x, one_greatest_estimate start x) refl;
  bounded = record { constant = omega (arith, unsigned_abs-mul (pos unit) x, one_greatest_reading x); linear = omega arith; square = omega arith };
}

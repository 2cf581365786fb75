-- Worked sums, and sums that wrong rules miss.
use Rattle.std.proofs.Common.{ℕ, ◌*◌, ℤ, pos, List, [], ◌∷◌, cond, refl, arith}
use Rattle.std.specs.Prelude.{◌≤ℤ◌}
use Rattle.std.proofs.lemmas.Int.{ints}
use Rattle.semantics.specs.Names.{same_name}
use Rattle.semantics.specs.Term.{base, times}
use Rattle.segment.specs.declared.segments.Seg.{Seg}
use Rattle.segment.specs.Measure.{unit, unit_seg, miss, greatest_estimate, greatest_reading, IsTrueOf}
use Rattle.bounds.specs.Segments.{AreTrueOf}
use Rattle.bounds.specs.Worked.{x, y, product, steps, steps_root, turns, turns_root, SumsAreWorked}
use Rattle.bounds.specs.WrongRules.{CrossTermsCount, GreatestWeightsCount}

turns_true : IsTrueOf (turns 16) turns_root
unfolding miss greatest_reading greatest_estimate
turns_true = record { measured = refl; bounded = record { constant = omega arith; linear = omega arith; square = omega arith } }

steps_true : IsTrueOf steps steps_root
unfolding miss greatest_reading greatest_estimate
steps_true = record { measured = refl; bounded = record { constant = omega arith; linear = omega arith; square = omega arith } }

pub sums_worked : SumsAreWorked
sums_worked = record {
  turns_true = turns_true;
  steps_true = steps_true;
  shifted_estimate = refl;
  shifted_error = refl;
  shifted_low = refl;
  shifted_high = refl;
  product_error = refl;
}

-- ---- nine readings 0 and one 10, whose root estimates 1

abbrev spike : List ℤ
spike = pos 0 ∷ pos 0 ∷ pos 0 ∷ pos 0 ∷ pos 0 ∷ pos 0 ∷ pos 0 ∷ pos 0 ∷ pos 0 ∷ pos 10 ∷ []

abbrev spike_root : Seg
spike_root = record { start = 0; len = 10; a = pos unit; b = pos 0; c = pos 0; l = 18 * unit; d = 10; f = unit }

spike_true : IsTrueOf spike spike_root
unfolding miss greatest_reading greatest_estimate
spike_true = record { measured = refl; bounded = record { constant = omega arith; linear = omega arith; square = omega arith } }

spike_frame : AreTrueOf spike (spike_root ∷ [])
spike_frame = record { each = (spike_true, tt); touch = (refl, refl) }

-- the sum of the squares is 100, and not 46 at most
pub cross_terms : CrossTermsCount
cross_terms law =
    let sum = law (λ name. spike) (record { name = x; segs = spike_root ∷ [] } ∷ []) (times (base x) (base x)) (pos 0) 10 (spike_frame, spike_frame) in
    let high : pos 100 ≤ℤ pos 46 = sum.high in
    absurd (omega (arith, ints, high))

-- ---- the readings 0, 10, 0, each with its own segment, and 1, 3, 2, whose root estimates 2

abbrev peak : List ℤ
peak = pos 0 ∷ pos 10 ∷ pos 0 ∷ []

abbrev hill : List ℤ
hill = pos 1 ∷ pos 3 ∷ pos 2 ∷ []

abbrev hill_root : Seg
hill_root = record { start = 0; len = 3; a = pos (2 * unit); b = pos 0; c = pos 0; l = 2 * unit; d = 3; f = 2 * unit }

abbrev readings_of : List ℕ → List ℤ
readings_of name = cond (same_name name x) peak hill

zero_true : (start : ℕ) → IsTrueOf (pos 0 ∷ []) (unit_seg start (pos 0))
unfolding miss greatest_reading greatest_estimate
zero_true start = record { measured = refl; bounded = record { constant = omega arith; linear = omega arith; square = omega arith } }

ten_true : IsTrueOf (pos 10 ∷ []) (unit_seg 1 (pos 10))
unfolding miss greatest_reading greatest_estimate
ten_true = record { measured = refl; bounded = record { constant = omega arith; linear = omega arith; square = omega arith } }

hill_true : IsTrueOf hill hill_root
unfolding miss greatest_reading greatest_estimate
hill_true = record { measured = refl; bounded = record { constant = omega arith; linear = omega arith; square = omega arith } }

peak_frame : AreTrueOf peak (unit_seg 0 (pos 0) ∷ unit_seg 1 (pos 10) ∷ unit_seg 2 (pos 0) ∷ [])
peak_frame = record { each = (zero_true 0, (ten_true, (zero_true 2, tt))); touch = (refl, (refl, (refl, refl))) }

hill_frame : AreTrueOf hill (hill_root ∷ [])
hill_frame = record { each = (hill_true, tt); touch = (refl, refl) }

-- the sum of the products is 30, and not 20 at most
pub greatest_weights : GreatestWeightsCount
greatest_weights law =
    let sum = law readings_of (record { name = x; segs = unit_seg 0 (pos 0) ∷ unit_seg 1 (pos 10) ∷ unit_seg 2 (pos 0) ∷ [] } ∷ record { name = y; segs = hill_root ∷ [] } ∷ []) product (pos 0) 3 (peak_frame, hill_frame) in
    let high : pos 30 ≤ℤ pos 20 = sum.high in
    absurd (omega (arith, ints, high))

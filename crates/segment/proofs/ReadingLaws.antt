-- Lists of readings: their parts, and one more.
use Rattle.std.proofs.Common.{ℕ, zero, suc, ◌^◌, ◌<◌, ◌≤◌, length, ℤ, List, [], ◌∷◌, ◌++◌, take, drop, unsigned_abs, arith}
use Rattle.semantics.specs.Readings.{reading}
use Rattle.segment.specs.Measure.{AreReadings}

pub AreReadings-nil : AreReadings []
AreReadings-nil i = omega arith

pub AreReadings-push : (xs : List ℤ) (x : ℤ) → AreReadings xs → unsigned_abs x ≤ 10 ^ 9 → AreReadings (xs ++ x ∷ [])
AreReadings-push [] x h small zero = small
AreReadings-push [] x h small (suc i) = omega arith
AreReadings-push (y ∷ ys) x h small zero = h zero
AreReadings-push (y ∷ ys) x h small (suc i) = AreReadings-push ys x (λ j. h (suc j)) small i

pub AreReadings-drop : (xs : List ℤ) (n : ℕ) → AreReadings xs → AreReadings (drop n xs)
AreReadings-drop xs zero h i = h i
AreReadings-drop [] (suc n) h i = omega arith
AreReadings-drop (y ∷ ys) (suc n) h i = AreReadings-drop ys n (λ j. h (suc j)) i

pub AreReadings-take : (xs : List ℤ) (n : ℕ) → AreReadings xs → AreReadings (take n xs)
AreReadings-take xs zero h i = omega arith
AreReadings-take [] (suc n) h i = omega arith
AreReadings-take (y ∷ ys) (suc n) h zero = h zero
AreReadings-take (y ∷ ys) (suc n) h (suc i) = AreReadings-take ys n (λ j. h (suc j)) i

-- it is enough that each that is there is within the bound
pub AreReadings-within : (xs : List ℤ) → ((i : ℕ) → i < length xs → unsigned_abs (reading xs i) ≤ 10 ^ 9) → AreReadings xs
AreReadings-within [] h i = omega arith
AreReadings-within (x ∷ xs) h zero = h zero (omega arith)
AreReadings-within (x ∷ xs) h (suc i) = AreReadings-within xs (λ j lt. h (suc j) (omega arith)) i

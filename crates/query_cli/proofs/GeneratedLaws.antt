-- What is known of the readings that a seed determines.
use Rattle.std.proofs.Common.{◌≡◌, ◌∙◌, ◌+◌, ◌*◌, ◌/◌, ◌%◌, ◌^◌, ◌≤◌, ℕ, zero, suc, ℤ, pos, List, [], ◌∷◌, ◌++◌, length, refl, arith, length-append}
use Rattle.std.specs.Prelude.{◌-ℤ◌, unsigned_abs}
use Rattle.std.proofs.Math.Nat.{mod-add-mod}
use Rattle.std.proofs.lemmas.Bool.Decides.{nat_tests}
use Rattle.std.proofs.lemmas.Int.{ints}
use Rattle.semantics.specs.Readings.{reading}
use Rattle.semantics.proofs.SumLaws.{most_below-le}
use Rattle.segment.specs.Measure.{AreReadings, greatest_reading, magnitude_at}
use Rattle.segment.proofs.ReadingLaws.{AreReadings-nil, AreReadings-push}
use Rattle.query_cli.specs.Generated.{generated, most_generated, next_state, reading_of, state_after, wave}

-- a product that wrapped, with a sum that wrapped
pub wrapped-twice : (m c : ℕ) → (m % 2 ^ 64 + c) % 2 ^ 64 ≡ (m + c) % 2 ^ 64
wrapped-twice m c = mod-add-mod m (2 ^ 64) c

pub wave-small : (i : ℕ) → wave i ≤ 512
wave-small i = grind (arith, nat_tests)

noise_small : (s : ℕ) → (s % 2 ^ 64) / 2 ^ 56 ≤ 255
noise_small s = omega arith

near : (w n : ℕ) → w ≤ 512 → n ≤ 255 → unsigned_abs (pos (10 * w + n) -ℤ pos 128) ≤ 5247
near w n small few = omega (arith, ints)

pub reading-near : (i s : ℕ) → unsigned_abs (reading_of i (next_state s)) ≤ most_generated
reading-near i s = near (wave i) (next_state s / 2 ^ 56) (wave-small i) (noise_small (s * 6364136223846793005 + 1442695040888963407))

pub length-generated : (seed n : ℕ) → length (generated seed n) ≡ n
length-generated seed zero = refl
length-generated seed (suc n) = length-append (generated seed n) _ ∙ omega (arith, length-generated seed n)

pub generated-small : (seed n : ℕ) → AreReadings (generated seed n)
generated-small seed zero = AreReadings-nil
generated-small seed (suc n) =
    let far : unsigned_abs (reading_of n (state_after seed (suc n))) ≤ 10 ^ 9 = omega (arith, reading-near n (state_after seed n)) in
    AreReadings-push (generated seed n) (reading_of n (state_after seed (suc n))) (generated-small seed n) far

near_push : (xs : List ℤ) (x : ℤ) (most : ℕ) → ((i : ℕ) → unsigned_abs (reading xs i) ≤ most) → unsigned_abs x ≤ most → (i : ℕ) → unsigned_abs (reading (xs ++ x ∷ []) i) ≤ most
near_push [] x most h near zero = near
near_push [] x most h near (suc i) = omega arith
near_push (y ∷ ys) x most h near zero = h zero
near_push (y ∷ ys) x most h near (suc i) = near_push ys x most (λ j. h (suc j)) near i

each_near : (seed n i : ℕ) → unsigned_abs (reading (generated seed n) i) ≤ most_generated
each_near seed zero i = omega arith
each_near seed (suc n) i =
    near_push (generated seed n) (reading_of n (state_after seed (suc n))) most_generated (each_near seed n) (reading-near n (state_after seed n)) i

pub generated-near : (seed n : ℕ) → greatest_reading (generated seed n) ≤ most_generated
unfolding greatest_reading
generated-near seed n = most_below-le (magnitude_at (generated seed n)) (length (generated seed n)) most_generated (λ i lt. each_near seed n i)

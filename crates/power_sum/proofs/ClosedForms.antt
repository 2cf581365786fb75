-- The closed forms of the sums of powers.
use Rattle.std.proofs.Common.{◌≡◌, ℕ, zero, suc, ◌+◌, ◌*◌, ◌≤◌, ◌<◌, ◌^◌, refl, ap, arith, pow-suc, mul-le-mul_left}
use Rattle.std.proofs.Math.Nat.{pow-zero, pow-le-pow_left, one-le-pow}
use Rattle.semantics.proofs.PowerLaws.{one_is, pow-2}
use Rattle.power_sum.specs.Totals.{power_total}

-- ---- powers of the next number

expanded_2 : (n : ℕ) → suc n ^ 2 ≡ n ^ 2 + 2 * n + 1
expanded_2 n = omega (arith, pow-suc (suc n) 1, one_is (suc n), ap (λ z. z * suc n) (one_is (suc n)), pow-suc n 1, one_is n, ap (λ z. z * n) (one_is n))

expanded_3 : (n : ℕ) → suc n ^ 3 ≡ n ^ 3 + 3 * n ^ 2 + 3 * n + 1
expanded_3 n = omega (arith, pow-suc (suc n) 2, ap (λ z. z * suc n) (expanded_2 n), pow-2 n, pow-suc n 2)

expanded_4 : (n : ℕ) → suc n ^ 4 ≡ n ^ 4 + 4 * n ^ 3 + 6 * n ^ 2 + 4 * n + 1
expanded_4 n = omega (arith, pow-suc (suc n) 3, ap (λ z. z * suc n) (expanded_3 n), pow-2 n, pow-suc n 2, pow-suc n 3)

expanded_5 : (n : ℕ) → suc n ^ 5 ≡ n ^ 5 + 5 * n ^ 4 + 10 * n ^ 3 + 10 * n ^ 2 + 5 * n + 1
expanded_5 n = omega (arith, pow-suc (suc n) 4, ap (λ z. z * suc n) (expanded_4 n), pow-2 n, pow-suc n 2, pow-suc n 3, pow-suc n 4)

-- ---- the closed forms

pub power_total-0 : (m : ℕ) → power_total 0 m ≡ m
power_total-0 zero = refl
power_total-0 (suc m) = omega (arith, power_total-0 m, pow-zero m)

pub closed_1 : (n : ℕ) → 2 * power_total 1 (suc n) ≡ n ^ 2 + n
closed_1 zero = refl
closed_1 (suc n) = omega (arith, closed_1 n, one_is (suc n), expanded_2 n)

pub closed_2 : (n : ℕ) → 6 * power_total 2 (suc n) ≡ 2 * n ^ 3 + 3 * n ^ 2 + n
closed_2 zero = refl
closed_2 (suc n) = omega (arith, closed_2 n, expanded_2 n, expanded_3 n)

pub closed_3 : (n : ℕ) → 4 * power_total 3 (suc n) ≡ n ^ 4 + 2 * n ^ 3 + n ^ 2
closed_3 zero = refl
closed_3 (suc n) = omega (arith, closed_3 n, expanded_2 n, expanded_3 n, expanded_4 n)

pub closed_4 : (n : ℕ) → 30 * power_total 4 (suc n) + n ≡ 6 * n ^ 5 + 15 * n ^ 4 + 10 * n ^ 3
closed_4 zero = refl
closed_4 (suc n) = omega (arith, closed_4 n, expanded_2 n, expanded_3 n, expanded_4 n, expanded_5 n)

-- ---- what the closed forms are bounded by

pub pow_below : (n k : ℕ) → n < 2 ^ 20 → n ^ k ≤ 1048576 ^ k
pow_below n k small = pow-le-pow_left {m = 1048576} (omega arith) k

pub pow_above : (n k : ℕ) → 0 < k → n ≤ n ^ k
pow_above n zero some = absurd (omega arith)
pow_above zero (suc k) some = omega arith
pow_above (suc n) (suc k) some = let more : suc n * 1 ≤ suc n * suc n ^ k = mul-le-mul_left (suc n) (one-le-pow k (suc n) (omega arith)) in omega (arith, more, pow-suc (suc n) k)

-- what the closed form of the fourth powers needs
pub ruleset fourth_power = (closed_4, pow_below, pow_above)

-- Bounds of a curve that keeps the bound on its coefficients.
use Rattle.std.proofs.Common.{ℕ, ◌*◌, ◌^◌, ◌<◌, ◌≤◌, ℤ, List, length, unsigned_abs, arith, mul-le-mul_left, mul-le-mul}
use Rattle.semantics.proofs.SumLaws.{most_below-le}
use Rattle.segment.specs.declared.curves.Curve.{Curve}
use Rattle.segment.specs.Measure.{magnitude_at, AreReadings, IsBounded, greatest_reading}

pub greatest_reading-le : (xs : List ℤ) → AreReadings xs → greatest_reading xs ≤ 10 ^ 9
unfolding greatest_reading
greatest_reading-le xs small = most_below-le (magnitude_at xs) (length xs) (10 ^ 9) (λ i lt. small i)

-- each part of an estimate stays small
pub record IsSmall (p : Curve) (n : ℕ) : Type 0 where
  pub constant : unsigned_abs p.a ≤ 2 ^ 47
  pub linear : (i : ℕ) → i < n → unsigned_abs p.b * i ≤ 2 ^ 47
  pub square : (i : ℕ) → i < n → unsigned_abs p.c * (i * i) ≤ 2 ^ 47

pub small_from_bounded : (p : Curve) (n d : ℕ) → d ≤ 10 ^ 9 → IsBounded p n d → IsSmall p n
small_from_bounded p n d most bounded =
    record {
      constant = omega (arith, bounded.constant);
      linear = λ i lt. let m = mul-le-mul_left {m = i} {n = n} (unsigned_abs p.b) (omega arith) in omega (arith, bounded.linear, m);
      square = λ i lt.
          let q : i * i ≤ n * n = mul-le-mul (omega arith) (omega arith) in
          let m = mul-le-mul_left (unsigned_abs p.c) q in omega (arith, bounded.square, m);
    }

-- what keeps the bound over readings keeps that of the greatest ones
pub bounded-wide : (p : Curve) (n : ℕ) (xs : List ℤ) → AreReadings xs → IsBounded p n (greatest_reading xs) → IsBounded p n (10 ^ 9)
bounded-wide p n xs small bounded =
    let most = greatest_reading-le xs small in
    record { constant = omega (arith, most, bounded.constant); linear = omega (arith, most, bounded.linear); square = omega (arith, most, bounded.square) }

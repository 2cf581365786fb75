-- Estimates place by place, each from the one before by a difference.
use Rattle.std.proofs.Common.{◌≡◌, ℕ, ◌+◌, ◌*◌, ◌^◌, ◌<◌, ◌≤◌, ℤ, pos, ◌+ℤ◌, ◌*ℤ◌, unsigned_abs, ap, ◌∙◌, arith, mul-le-mul_left}
use Rattle.std.proofs.lemmas.Int.{ints, unsigned_abs-mul}
use Rattle.semantics.proofs.Ring.{*ℤ-+ℤ, abs-+ℤ}
use Rattle.segment.specs.declared.curves.Curve.{Curve}
use Rattle.segment.specs.Measure.{estimate_at, IsBounded}
use Rattle.segment.specs.Steps.{step_at}
use Rattle.segment.proofs.SanityLaws.{estimate-le}

times-one : (b : ℤ) → b *ℤ pos 1 ≡ b
times-one b = omega (arith, ints)

pub estimate-next : (p : Curve) (i : ℕ) → estimate_at p (i + 1) ≡ estimate_at p i +ℤ step_at p i
estimate-next p i =
    let b : p.b *ℤ pos (i + 1) ≡ p.b *ℤ pos i +ℤ p.b *ℤ pos 1 = *ℤ-+ℤ p.b (pos i) (pos 1) in
    let square : (i + 1) * (i + 1) ≡ i * i + (2 * i + 1) = omega arith in
    let c : p.c *ℤ pos ((i + 1) * (i + 1)) ≡ p.c *ℤ pos (i * i) +ℤ p.c *ℤ pos (2 * i + 1) =
    ap (λ n. p.c *ℤ pos n) square ∙ *ℤ-+ℤ p.c (pos (i * i)) (pos (2 * i + 1)) in
    omega (arith, ints, b, c, times-one p.b)

pub step-next : (p : Curve) (i : ℕ) → step_at p (i + 1) ≡ step_at p i +ℤ (p.c +ℤ p.c)
step-next p i =
    let place : 2 * (i + 1) + 1 ≡ 2 * i + 1 + 2 = omega arith in
    let c : p.c *ℤ pos (2 * (i + 1) + 1) ≡ p.c *ℤ pos (2 * i + 1) +ℤ p.c *ℤ pos 2 =
    ap (λ n. p.c *ℤ pos n) place ∙ *ℤ-+ℤ p.c (pos (2 * i + 1)) (pos 2) in
    let two : p.c *ℤ pos 2 ≡ p.c *ℤ pos 1 +ℤ p.c *ℤ pos 1 = *ℤ-+ℤ p.c (pos 1) (pos 1) in
    omega (arith, ints, c, two, times-one p.c)

-- what stays small on the way
pub record StepsAreSmall (p : Curve) (n : ℕ) : Type 0 where
  pub constant : unsigned_abs p.a ≤ 2 ^ 47
  pub linear : unsigned_abs p.b ≤ 2 ^ 47
  pub bend : unsigned_abs p.c ≤ 2 ^ 47
  pub bends : (i : ℕ) → i ≤ n → unsigned_abs p.c * (2 * i + 1) ≤ 2 ^ 49
  pub estimate : (i : ℕ) → i < n → unsigned_abs (estimate_at p i) ≤ 2 ^ 49
  pub step : (i : ℕ) → i ≤ n → unsigned_abs (step_at p i) ≤ 2 ^ 50

pub steps-small : (p : Curve) (n d : ℕ) → 0 < n → d ≤ 10 ^ 9 → IsBounded p n d → StepsAreSmall p n
steps-small p n d some most bounded =
    let one : 1 ≤ n = omega arith in
    let square : n * 1 ≤ n * n = mul-le-mul_left {m = 1} {n = n} n one in
    let b = mul-le-mul_left {m = 1} {n = n} (unsigned_abs p.b) one in
    let wide : 1 ≤ n * n = omega (arith, square) in
    let c = mul-le-mul_left {m = 1} {n = n * n} (unsigned_abs p.c) wide in
    let linear : unsigned_abs p.b ≤ 2 ^ 47 = omega (arith, b, bounded.linear) in
    let bends : (i : ℕ) → i ≤ n → unsigned_abs p.c * (2 * i + 1) ≤ 2 ^ 49 = λ i le.
    let few : 2 * i + 1 ≤ 3 * (n * n) = omega (arith, square) in
    let up = mul-le-mul_left {m = 2 * i + 1} {n = 3 * (n * n)} (unsigned_abs p.c) few in
    omega (arith, up, bounded.square) in
    record {
      constant = omega (arith, bounded.constant);
      linear = linear;
      bend = omega (arith, c, bounded.square);
      bends = bends;
      estimate = λ i lt. omega (arith, estimate-le p n d i bounded lt);
      step = λ i le.
          let size : unsigned_abs (p.c *ℤ pos (2 * i + 1)) ≡ unsigned_abs p.c * (2 * i + 1) = unsigned_abs-mul p.c (pos (2 * i + 1)) in
          omega (arith, abs-+ℤ p.b (p.c *ℤ pos (2 * i + 1)), size, bends i le, linear);
    }

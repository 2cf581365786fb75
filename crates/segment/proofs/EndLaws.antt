-- The greatest estimate of a line is at one of its ends.
use Rattle.std.proofs.Common.{◌≡◌, ℕ, suc, ◌-◌, ◌*◌, ◌<◌, ◌≤◌, max, ℤ, pos, negsuc, ◌+ℤ◌, ◌*ℤ◌, unsigned_abs, ap, ◌∙◌, arith, mul-le-mul_left}
use Rattle.std.specs.Prelude.{◌≤ℤ◌}
use Rattle.std.proofs.lemmas.Int.{ints}
use Rattle.semantics.proofs.SumLaws.{most_below-le, most_below-at}
use Rattle.segment.specs.declared.curves.Curve.{Curve}
use Rattle.segment.specs.Measure.{estimate_at, estimate_magnitude_at, greatest_estimate}

between : (a t u : ℤ) → pos 0 ≤ℤ t → t ≤ℤ u → unsigned_abs (a +ℤ t) ≤ max (unsigned_abs a) (unsigned_abs (a +ℤ u))
between a t u low high = omega (arith, ints)

between_down : (a t u : ℤ) → t ≤ℤ pos 0 → u ≤ℤ t → unsigned_abs (a +ℤ t) ≤ max (unsigned_abs a) (unsigned_abs (a +ℤ u))
between_down a t u high low = omega (arith, ints)

line-within : (a b : ℤ) (i m : ℕ) → i ≤ m → unsigned_abs (a +ℤ b *ℤ pos i) ≤ max (unsigned_abs a) (unsigned_abs (a +ℤ b *ℤ pos m))
line-within a (pos k) i m le = between a (pos k *ℤ pos i) (pos k *ℤ pos m) (omega (arith, ints)) (omega (arith, ints, mul-le-mul_left {m = i} {n = m} k le))
line-within a (negsuc k) i m le =
    between_down a (negsuc k *ℤ pos i) (negsuc k *ℤ pos m) (omega (arith, ints)) (omega (arith, ints, mul-le-mul_left {m = i} {n = m} (suc k) le))

-- without a bend an estimate is that of the line
estimate-line : (p : Curve) (i : ℕ) → p.c ≡ pos 0 → estimate_at p i ≡ p.a +ℤ p.b *ℤ pos i
estimate-line p i flat = ap (λ c. p.a +ℤ p.b *ℤ pos i +ℤ c *ℤ pos (i * i)) flat ∙ omega (arith, ints)

estimate-first : (p : Curve) → p.c ≡ pos 0 → estimate_at p 0 ≡ p.a
estimate-first p flat = estimate-line p 0 flat ∙ omega (arith, ints)

at-most-ends : (p : Curve) (n i : ℕ) → p.c ≡ pos 0 → i < n → estimate_magnitude_at p i ≤ max (estimate_magnitude_at p 0) (estimate_magnitude_at p (n - 1))
at-most-ends p n i flat lt =
    let here = ap unsigned_abs (estimate-line p i flat) in
    let last = ap unsigned_abs (estimate-line p (n - 1) flat) in
    let first = ap unsigned_abs (estimate-first p flat) in
    omega (arith, here, last, first, line-within p.a p.b i (n - 1) (omega arith))

pub greatest-ends : (p : Curve) (n first last : ℕ) → p.c ≡ pos 0 → 0 < n → first ≡ estimate_magnitude_at p 0 → last ≡ estimate_magnitude_at p (n - 1)
    → max first last ≡ greatest_estimate p n
unfolding greatest_estimate
greatest-ends p n first last flat some is_first is_last =
    let most = most_below-le (estimate_magnitude_at p) n (max (estimate_magnitude_at p 0) (estimate_magnitude_at p (n - 1))) (λ i lt. at-most-ends p n i flat lt) in
    let a = most_below-at (estimate_magnitude_at p) n 0 some in
    let b = most_below-at (estimate_magnitude_at p) n (n - 1) (omega arith) in
    omega (arith, most, a, b, is_first, is_last)

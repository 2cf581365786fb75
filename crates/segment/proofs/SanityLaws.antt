-- Every true segment of readings keeps the bounds of a sane one.
use Rattle.std.proofs.Common.{◌≡◌, ℕ, ◌+◌, ◌-◌, ◌*◌, ◌<◌, ◌≤◌, max, ℤ, pos, ◌+ℤ◌, ◌*ℤ◌, unsigned_abs, List, length, take, drop, get_or-take, get_or-drop, length-take, length-drop, sym, ap, ◌∙◌, subst, arith, mul-le-mul_left, mul-le-mul}
use Rattle.std.proofs.lemmas.Int.{unsigned_abs-mul}
use Rattle.semantics.specs.Readings.{reading}
use Rattle.semantics.proofs.Ring.{abs-+ℤ, abs--ℤ}
use Rattle.semantics.proofs.SumLaws.{sum_below-le, most_below-le, most_below-at}
use Rattle.segment.specs.declared.curves.Curve.{Curve}
use Rattle.segment.specs.declared.segments.Seg.{Seg}
use Rattle.segment.specs.Measure.{unit, estimate_at, miss_at, magnitude_at, estimate_magnitude_at, miss, greatest_reading, greatest_estimate, coefficient_bound, IsBounded, EveryTrueIsSane, curve_of}
use Rattle.segment.proofs.Bounds.{greatest_reading-le}

pub estimate-le : (p : Curve) (n d i : ℕ) → IsBounded p n d → i < n → unsigned_abs (estimate_at p i) ≤ 3 * coefficient_bound d
estimate-le p n d i bounded lt =
    let linear : unsigned_abs p.b * i ≤ unsigned_abs p.b * n = mul-le-mul_left (unsigned_abs p.b) (omega arith) in
    let places : i * i ≤ n * n = mul-le-mul (omega arith) (omega arith) in
    let square : unsigned_abs p.c * (i * i) ≤ unsigned_abs p.c * (n * n) = mul-le-mul_left (unsigned_abs p.c) places in
    let b : unsigned_abs (p.b *ℤ pos i) ≡ unsigned_abs p.b * i = unsigned_abs-mul p.b (pos i) in
    let c : unsigned_abs (p.c *ℤ pos (i * i)) ≡ unsigned_abs p.c * (i * i) = unsigned_abs-mul p.c (pos (i * i)) in
    let first = abs-+ℤ p.a (p.b *ℤ pos i) in
    let second = abs-+ℤ (p.a +ℤ p.b *ℤ pos i) (p.c *ℤ pos (i * i)) in
    omega (arith, bounded.constant, bounded.linear, bounded.square)

greatest_estimate-le : (p : Curve) (n d : ℕ) → IsBounded p n d → greatest_estimate p n ≤ 3 * coefficient_bound d
unfolding greatest_estimate
greatest_estimate-le p n d bounded = most_below-le (estimate_magnitude_at p) n (3 * coefficient_bound d) (λ i lt. estimate-le p n d i bounded lt)

pub magnitude-le : (xs : List ℤ) (i : ℕ) → i < length xs → magnitude_at xs i ≤ greatest_reading xs
unfolding greatest_reading
magnitude-le xs i lt = most_below-at (magnitude_at xs) (length xs) i lt

miss_at-le : (p : Curve) (xs : List ℤ) (i : ℕ) → IsBounded p (length xs) (greatest_reading xs) → i < length xs → miss_at p xs i ≤ 25 * unit * max 1 (greatest_reading xs)
miss_at-le p xs i bounded lt =
    let x : unsigned_abs (pos unit *ℤ reading xs i) ≡ unit * unsigned_abs (reading xs i) = unsigned_abs-mul (pos unit) (reading xs i) in
    let away = abs--ℤ (pos unit *ℤ reading xs i) (estimate_at p i) in
    let estimate = estimate-le p (length xs) (greatest_reading xs) i bounded lt in
    let magnitude : unsigned_abs (reading xs i) ≤ greatest_reading xs = magnitude-le xs i lt in
    omega arith

miss-le : (p : Curve) (xs : List ℤ) → IsBounded p (length xs) (greatest_reading xs) → miss p xs ≤ length xs * (25 * unit * max 1 (greatest_reading xs))
unfolding miss
miss-le p xs bounded = sum_below-le (miss_at p xs) (length xs) (25 * unit * max 1 (greatest_reading xs)) (λ i lt. miss_at-le p xs i bounded lt)

-- a part has no greater magnitude than the whole
pub greatest_reading-part : (xs : List ℤ) (from len : ℕ) → greatest_reading (take len (drop from xs)) ≤ greatest_reading xs
unfolding greatest_reading
greatest_reading-part xs from len =
    let part = take len (drop from xs) in
    let long : length part ≤ length xs - from = omega (arith, length-take len (drop from xs), length-drop from xs) in
    let short : length part ≤ len = omega (arith, length-take len (drop from xs)) in
    most_below-le (magnitude_at part) (length part) (greatest_reading xs) (λ i lt.
    let here : reading part i ≡ reading xs (from + i) = get_or-take len (drop from xs) i (pos 0) (omega arith) ∙ get_or-drop from xs i (pos 0) in
    subst (λ z. unsigned_abs z ≤ greatest_reading xs) (sym here) (magnitude-le xs (from + i) (omega arith)))

pub true-sane : EveryTrueIsSane
true-sane xs from len s small is_true =
    let part = take len (drop from xs) in
    let most : s.d ≡ greatest_reading part = ap (λ (g : Seg). g.d) is_true.measured in
    let long : s.len ≡ length part = ap (λ (g : Seg). g.len) is_true.measured in
    let misses : s.l ≡ miss (curve_of s) part = ap (λ (g : Seg). g.l) is_true.measured in
    let reaches : s.f ≡ greatest_estimate (curve_of s) (length part) = ap (λ (g : Seg). g.f) is_true.measured in
    record {
      bounded = subst (λ n. IsBounded (curve_of s) n s.d) (sym long) (subst (λ d. IsBounded (curve_of s) (length part) d) (sym most) is_true.bounded);
      below_root = omega (arith, most, greatest_reading-part xs from len);
      root = greatest_reading-le xs small;
      estimates = omega (arith, reaches, most, greatest_estimate-le (curve_of s) (length part) (greatest_reading part) is_true.bounded);
      misses = rw (misses, most, long) (omega (arith, miss-le (curve_of s) part is_true.bounded));
    }

-- Laws of the fit: sums of scaled and straightened values, and the choice among candidates.
use Rattle.std.proofs.Common.{◌≡◌, ℕ, zero, suc, ◌-◌, ◌*◌, ◌/◌, ◌^◌, ◌<◌, ◌≤◌, ℤ, pos, ◌+ℤ◌, ◌-ℤ◌, ◌*ℤ◌, unsigned_abs, List, length, Option, Some, None, Bool, true, false, cond, nat_le, nat_lt, refl, sym, ap, ap₂, ◌∙◌, arith, zero-add, mul-le-mul_left, mul-le-mul}
use Rattle.std.proofs.lemmas.Int.{unsigned_abs-mul}
use Rattle.std.proofs.lemmas.Bool.Decides.{nat_tests}
use Rattle.semantics.specs.Sums.{total_below, most_below}
use Rattle.semantics.proofs.SumLaws.{total_below-same, total_below-*ℤ, total_below--ℤ, abs-total_below, most_below-at}
use Rattle.semantics.specs.Quotients.{floor_of}
use Rattle.semantics.proofs.QuotientLaws.{abs-floor_of}
use Rattle.power_sum.proofs.Weighted.{power_total-le}
use Rattle.std.specs.Prelude.{IfSome}
use Rattle.semantics.proofs.Ring.{diff-of, differences, diff-same}
use Rattle.power_sum.specs.Totals.{power_total}
use Rattle.semantics.proofs.PowerLaws.{pow-2, pow-3}
use Rattle.segment.specs.declared.curves.Curve.{Curve}
use Rattle.semantics.specs.Readings.{reading}
use Rattle.segment.specs.Measure.{unit, coefficient_bound, magnitude_at, miss, greatest_reading, is_bounded, IsBounded, IsTrueOf}
use Rattle.segment.specs.Fit.{scaled, straightened, moment_at, in_block, kept, better, flat_of, line_of, parabola_of, with_line, with_parabola, best_curve, fit_of}

pub in_block-all : (xs : List ℤ) (n : ℕ) → total_below (in_block xs 0) n ≡ total_below (reading xs) n
in_block-all xs n = total_below-same (in_block xs 0) (reading xs) n (λ i lt. ap (reading xs) (zero-add i))

pub total-scaled : (xs : List ℤ) (n : ℕ) → total_below (scaled xs) n ≡ pos unit *ℤ total_below (reading xs) n
total-scaled xs n = total_below-*ℤ (pos unit) (reading xs) n

swap3 : (i q x : ℤ) → i *ℤ (q *ℤ x) ≡ q *ℤ (i *ℤ x)
swap3 i q x = rw (← diff-of i, ← diff-of q, ← diff-of x) (simp differences (diff-same _ _ _ _ (omega arith)))

pub moment-scaled : (xs : List ℤ) (n : ℕ) → total_below (moment_at (scaled xs)) n ≡ pos unit *ℤ total_below (moment_at (reading xs)) n
moment-scaled xs n = total_below-same (moment_at (scaled xs)) (λ i. pos unit *ℤ moment_at (reading xs) i) n (λ i lt. swap3 (pos i) (pos unit) (reading xs i)) ∙ total_below-*ℤ (pos unit) (moment_at (reading xs)) n

square_at : ℕ → ℤ
square_at i = pos (i * i)

cube_at : ℕ → ℤ
cube_at i = pos (i * (i * i))

squares_total : (n : ℕ) → total_below square_at n ≡ pos (power_total 2 n)
unfolding square_at
squares_total zero = refl
squares_total (suc n) = ap₂ ◌+ℤ◌ (squares_total n) (ap pos (sym (pow-2 n)))

cubes_total : (n : ℕ) → total_below cube_at n ≡ pos (power_total 3 n)
unfolding cube_at
cubes_total zero = refl
cubes_total (suc n) = ap₂ ◌+ℤ◌ (cubes_total n) (ap pos (sym (pow-3 n)))

bend_at : ℤ → ℕ → ℤ
bend_at c i = c *ℤ square_at i

bend_moment_at : ℤ → ℕ → ℤ
bend_moment_at c i = c *ℤ cube_at i

pub total-straightened : (xs : List ℤ) (c : ℤ) (n : ℕ) → total_below (straightened xs c) n ≡ total_below (scaled xs) n -ℤ c *ℤ pos (power_total 2 n)
unfolding square_at bend_at
total-straightened xs c n = total_below--ℤ (scaled xs) (bend_at c) n ∙ ap (λ z. total_below (scaled xs) n -ℤ z) (total_below-*ℤ c square_at n ∙ ap (λ z. c *ℤ z) (squares_total n))

expand : (i y c s : ℤ) → i *ℤ (y -ℤ c *ℤ s) ≡ i *ℤ y -ℤ c *ℤ (i *ℤ s)
expand i y c s = rw (← diff-of i, ← diff-of y, ← diff-of c, ← diff-of s) (simp differences (diff-same _ _ _ _ (omega arith)))

pub moment-straightened : (xs : List ℤ) (c : ℤ) (n : ℕ) → total_below (moment_at (straightened xs c)) n ≡ total_below (moment_at (scaled xs)) n -ℤ c *ℤ pos (power_total 3 n)
unfolding cube_at bend_moment_at
moment-straightened xs c n = total_below-same (moment_at (straightened xs c)) (λ i. moment_at (scaled xs) i -ℤ bend_moment_at c i) n (λ i lt. expand (pos i) (scaled xs i) c (pos (i * i))) ∙ total_below--ℤ (moment_at (scaled xs)) (bend_moment_at c) n ∙ ap (λ z. total_below (moment_at (scaled xs)) n -ℤ z) (total_below-*ℤ c cube_at n ∙ ap (λ z. c *ℤ z) (cubes_total n))

-- ---- the choice

pub kept-no_slope : (n d : ℕ) (p : Curve) → coefficient_bound d < unsigned_abs p.b * n → kept n d p ≡ None
kept-no_slope n d p h = grind (arith, nat_tests)

pub kept-no_level : (n d : ℕ) (p : Curve) → coefficient_bound d < unsigned_abs p.a → kept n d p ≡ None
kept-no_level n d p h = grind (arith, nat_tests)

pub kept-no_bend : (n d : ℕ) (p : Curve) → coefficient_bound d < unsigned_abs p.c * (n * n) → kept n d p ≡ None
kept-no_bend n d p h = grind (arith, nat_tests)

pub kept-some : (n d : ℕ) (p : Curve) → unsigned_abs p.a ≤ coefficient_bound d → unsigned_abs p.b * n ≤ coefficient_bound d → unsigned_abs p.c * (n * n) ≤ coefficient_bound d → kept n d p ≡ Some p
kept-some n d p f g h = grind (arith, nat_tests)

bounded_test : (n d : ℕ) (p : Curve) → is_bounded p n d ≡ true → IsBounded p n d
bounded_test n d p h = record { constant = grind (arith, nat_tests); linear = grind (arith, nat_tests); square = grind (arith, nat_tests) }

kept_cases : (b : Bool) (p q : Curve) → cond b (Some p) None ≡ Some q → (b ≡ true) × (p ≡ q)
kept_cases true p q h = (refl, cc)
kept_cases false p q h = cc

pub kept-bounded : (n d : ℕ) (p q : Curve) → kept n d p ≡ Some q → IsBounded q n d
kept-bounded n d p q h = let k = kept_cases (is_bounded p n d) p q h in rw (← k.1) (bounded_test n d p k.0)

pub kept-if : (n d : ℕ) (p : Curve) (o : Option Curve) → o ≡ kept n d p → IfSome o (λ q. IsBounded q n d)
kept-if n d p None h = tt
kept-if n d p (Some q) h = kept-bounded n d p q (sym h)

-- ---- bounds

pairs-few : (n : ℕ) → n ≤ 2 ^ 20 → n * (n - 1) / 2 ≤ n * 2 ^ 20
pairs-few n few = let wide : n * (n - 1) ≤ n * 2 ^ 20 = mul-le-mul_left n (omega arith) in omega (arith, wide)

pub pairs-le : (s n : ℕ) → n ≤ 2 ^ 20 → s * n ≤ 2 ^ 48 → s * (n * (n - 1) / 2) ≤ 2 ^ 68
pairs-le s n few h =
    let half : n * (n - 1) / 2 ≤ n * 2 ^ 20 = pairs-few n few in
    let wide = mul-le-mul_left s half in
    omega (arith, wide)

six_few : (n : ℕ) → n ≤ 2 ^ 20 → 6 * (n - 1) ≤ 6 * 2 ^ 20
six_few n few = omega arith

pub sixes-le : (n s : ℕ) → n ≤ 2 ^ 20 → s ≤ 2 ^ 68 → 6 * (n - 1) * s ≤ 2 ^ 91
sixes-le n s few h = let wide = mul-le-mul (six_few n few) h in omega (arith, wide)

pub straight-le : (b n : ℕ) → n ≤ 2 ^ 20 → b * (n * n) ≤ 2 ^ 47 → (b * power_total 2 n ≤ 2 ^ 67) × (b * power_total 3 n ≤ 2 ^ 87)
straight-le b n few h =
    let two = mul-le-mul_left b (power_total-le 2 n) in
    let three = mul-le-mul_left b (power_total-le 3 n) in
    let square = ap (λ z. b * (n * z)) (pow-2 n) in
    let cube = ap (λ z. b * (n * z)) (pow-3 n) in
    let once : b * (n * n) * n ≤ 2 ^ 47 * 2 ^ 20 = mul-le-mul h few in
    let again : b * (n * n) * n * n ≤ 2 ^ 47 * 2 ^ 20 * 2 ^ 20 = mul-le-mul once few in
    (omega (arith, two, square, once), omega (arith, three, cube, again))

pub total-le : (xs : List ℤ) (n : ℕ) → n ≤ length xs → unsigned_abs (total_below (reading xs) n) ≤ n * greatest_reading xs
unfolding greatest_reading
total-le xs n within = abs-total_below (reading xs) n (most_below (magnitude_at xs) (length xs)) (λ i lt. most_below-at (magnitude_at xs) (length xs) i (omega arith))

pub flat-le : (xs : List ℤ) → 0 < length xs → unsigned_abs (floor_of (pos unit *ℤ total_below (reading xs) (length xs)) (length xs)) ≤ unit * greatest_reading xs
flat-le xs some = abs-floor_of _ _ _ some (omega (arith, unsigned_abs-mul (pos unit) (total_below (reading xs) (length xs)), total-le xs (length xs) (omega arith)))

pub slope-fits : (s n : ℕ) → n ≤ 2 ^ 20 → s ≤ 2 ^ 93 → s * n ≤ 2 ^ 120
slope-fits s n few h = let wide = mul-le-mul h few in omega (arith, wide)

pub bend-fits : (s n : ℕ) → n ≤ 2 ^ 20 → s ≤ 2 ^ 68 → s * (n * n) ≤ 2 ^ 120
bend-fits s n few h =
    let square = mul-le-mul few few in
    let wide = mul-le-mul h square in
    omega (arith, wide)

pub square_some : (n : ℕ) → 1 ≤ n → 1 ≤ n * n
square_some n some = let square = mul-le-mul some some in omega (arith, square)

-- ---- the fit is true of its readings

flat-bounded : (xs : List ℤ) → 0 < length xs → IsBounded (flat_of xs) (length xs) (greatest_reading xs)
unfolding flat_of
flat-bounded xs some = record { constant = omega (arith, flat-le xs some); linear = omega arith; square = omega arith }

cond-bounded : (n d : ℕ) (b : Bool) (p q : Curve) → IsBounded p n d → IsBounded q n d → IsBounded (cond b q p) n d
cond-bounded n d true p q f g = g
cond-bounded n d false p q f g = f

better-if : (xs : List ℤ) (n d : ℕ) (p : Curve) (o : Option Curve) → IsBounded p n d → IfSome o (λ q. IsBounded q n d) → IsBounded (better xs p o) n d
better-if xs n d p None f g = f
better-if xs n d p (Some q) f g = cond-bounded n d (nat_lt (miss q xs) (miss p xs)) p q f g

better-bounded : (xs : List ℤ) (n d : ℕ) (p q : Curve) → IsBounded p n d → IsBounded (better xs p (kept n d q)) n d
better-bounded xs n d p q bounded = better-if xs n d p (kept n d q) bounded (kept-if n d q (kept n d q) refl)

line-bounded : (xs : List ℤ) → 0 < length xs → IsBounded (with_line xs) (length xs) (greatest_reading xs)
line-bounded xs some =
    cond-bounded (length xs) (greatest_reading xs) (nat_le 2 (length xs)) (flat_of xs) (better xs (flat_of xs) (kept (length xs) (greatest_reading xs) (line_of xs))) (flat-bounded xs some)
    (better-bounded xs (length xs) (greatest_reading xs) (flat_of xs) (line_of xs) (flat-bounded xs some))

parabola-bounded : (xs : List ℤ) → 0 < length xs → IsBounded (with_parabola xs) (length xs) (greatest_reading xs)
parabola-bounded xs some =
    cond-bounded (length xs) (greatest_reading xs) (nat_le 3 (length xs)) (with_line xs) (better xs (with_line xs) (kept (length xs) (greatest_reading xs) (parabola_of xs))) (line-bounded xs some)
    (better-bounded xs (length xs) (greatest_reading xs) (with_line xs) (parabola_of xs) (line-bounded xs some))

pub best-bounded : (degree : ℕ) (xs : List ℤ) → 0 < length xs → IsBounded (best_curve degree xs) (length xs) (greatest_reading xs)
best-bounded zero xs some = flat-bounded xs some
best-bounded (suc zero) xs some = line-bounded xs some
best-bounded (suc (suc degree)) xs some = parabola-bounded xs some

pub fit-true : (degree start : ℕ) (xs : List ℤ) → 0 < length xs → IsTrueOf xs (fit_of degree start xs)
fit-true degree start xs some = record { measured = refl; bounded = best-bounded degree xs some }

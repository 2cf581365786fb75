-- Laws of the fitted tree: its readings, its segments, its ranges, and that each segment is true.
use Rattle.std.proofs.Common.{◌≡◌, ℕ, zero, suc, ◌+◌, ◌-◌, ◌^◌, ◌<◌, ◌≤◌, ℤ, Some, List, [], ◌∷◌, ◌++◌, length, take, drop, map, refl, ap, ap₂, ◌∙◌, sym, subst, arith, inl, inr, take-append-drop, take-take, drop-drop, take_all, length-take-le, length-drop, pow_pos}
use Rattle.std.proofs.lemmas.Bool.{cases_lt}
use Rattle.std.proofs.lemmas.List.{drop-take, map-append}
use Rattle.segment.specs.Fit.{fit_of, fit_over}
use Rattle.segment.specs.Measure.{AreReadings, IsTrueOf}
use Rattle.segment.specs.Shape.{Plan, leaf, fork, room, plan, plan_below, ranges, shape}
use Rattle.segment.specs.Tree.{node, readings_of, segs_of, plan_of, AllTrue, width, fits, fitted, fitted_series, all_readings, all_segs, IsTreeOver}
use Rattle.segment.proofs.ShapeLaws.{plan_below_low, plan_below_high, room-suc, enough}
use Rattle.segment.proofs.FitLaws.{fit-true}

pub width-below : (h start len : ℕ) → width (plan_below h start len) ≡ len
unfolding plan_below
width-below zero start len = refl
width-below (suc h) start len = elim (cases_lt (room h) len) [
  | inr low ↦ ap width (plan_below_low h start len low) ∙ width-below h start len
  | inl high ↦ ap width (plan_below_high h start len high)
]

pub width-plan : (start len : ℕ) → width (plan start len) ≡ len
unfolding plan
width-plan start len = width-below len start len

pub readings_of-fits : (degree : ℕ) (p : Plan) (xs : List ℤ) → readings_of (fits degree p xs) ≡ xs
readings_of-fits degree (leaf start len) xs = refl
readings_of-fits degree (fork start len left right) xs =
    ap₂ ◌++◌ (readings_of-fits degree left (take (width left) xs)) (readings_of-fits degree right (drop (width left) xs)) ∙ take-append-drop (width left) xs

-- a fork of the fitted tree, with the width of its left part worked out
fits-high : (degree h start len : ℕ) (ys : List ℤ) → room h < len
    → fits degree (plan_below (suc h) start len) ys ≡ node (fit_of degree start ys) (fits degree (plan_below h start (room h)) (take (room h) ys)) (fits degree (plan_below h (start + room h) (len - room h)) (drop (room h) ys))
fits-high degree h start len ys high =
    let left = plan_below h start (room h) in
    let right = plan_below h (start + room h) (len - room h) in
    ap (λ p. fits degree p ys) (plan_below_high h start len high)
    ∙ ap (λ w. node (fit_of degree start ys) (fits degree left (take w ys)) (fits degree right (drop w ys))) (width-below h start (room h))

pub left_readings : (xs : List ℤ) (start len s : ℕ) → s ≤ len → take s (take len (drop start xs)) ≡ take s (drop start xs)
left_readings xs start len s le = take-take s len (drop start xs) le

pub right_readings : (xs : List ℤ) (start len s : ℕ) → s ≤ len → drop s (take len (drop start xs)) ≡ take (len - s) (drop (start + s) xs)
right_readings xs start len s le =
    let e : len ≡ s + (len - s) = omega arith in
    ap (λ n. drop s (take n (drop start xs))) e ∙ drop-take s (len - s) (drop start xs) ∙ ap (take (len - s)) (drop-drop s start xs)

segs-below : (degree h start len : ℕ) (xs : List ℤ) → len ≤ room h
    → segs_of (fits degree (plan_below h start len) (take len (drop start xs))) ≡ map (fit_over degree xs) (ranges (plan_below h start len))
unfolding plan_below
segs-below degree zero start len xs fits_in = refl
segs-below degree (suc h) start len xs fits_in = elim (cases_lt (room h) len) [
  | inr low ↦ subst (λ p. segs_of (fits degree p (take len (drop start xs))) ≡ map (fit_over degree xs) (ranges p)) (sym (plan_below_low h start len low)) (segs-below degree h start len xs low)
  | inl high ↦
      let left = plan_below h start (room h) in
      let right = plan_below h (start + room h) (len - room h) in
      let ys = take len (drop start xs) in
      let l = ap (λ zs. segs_of (fits degree left zs)) (left_readings xs start len (room h) (omega arith)) ∙ segs-below degree h start (room h) xs (omega arith) in
      let r = ap (λ zs. segs_of (fits degree right zs)) (right_readings xs start len (room h) (omega arith)) ∙ segs-below degree h (start + room h) (len - room h) xs (omega (arith, room-suc h)) in
      ap segs_of (fits-high degree h start len ys high)
      ∙ ap₂ (λ us vs. fit_of degree start ys ∷ us ++ vs) l r
      ∙ sym (ap (λ p. map (fit_over degree xs) (ranges p)) (plan_below_high h start len high) ∙ ap (λ gs. fit_of degree start ys ∷ gs) (map-append (fit_over degree xs) (ranges left) (ranges right)))
]

-- the segments of the fitted tree are the fits of all ranges of the shape
pub segs_of-fitted : (degree : ℕ) (xs : List ℤ) → segs_of (fitted degree xs) ≡ map (fit_over degree xs) (ranges (plan 0 (length xs)))
unfolding plan
segs_of-fitted degree xs =
    ap (λ ys. segs_of (fits degree (plan_below (length xs) 0 (length xs)) ys)) (sym (take_all (length xs) xs (omega arith)))
    ∙ segs-below degree (length xs) 0 (length xs) xs (omega (arith, enough (length xs)))

-- the ranges of the fitted tree are those of the shape
plan-below : (degree h start len : ℕ) (ys : List ℤ) → len ≤ room h → length ys ≡ len → plan_of (fits degree (plan_below h start len) ys) ≡ plan_below h start len
unfolding plan_below
plan-below degree zero start len ys fits_in long = ap (leaf start) long
plan-below degree (suc h) start len ys fits_in long = elim (cases_lt (room h) len) [
  | inr low ↦ subst (λ p. plan_of (fits degree p ys) ≡ p) (sym (plan_below_low h start len low)) (plan-below degree h start len ys low long)
  | inl high ↦
      let l = plan-below degree h start (room h) (take (room h) ys) (omega arith) (length-take-le (room h) ys (omega arith)) in
      let r = plan-below degree h (start + room h) (len - room h) (drop (room h) ys) (omega (arith, room-suc h)) (length-drop (room h) ys ∙ ap (λ n. n - room h) long) in
      ap plan_of (fits-high degree h start len ys high)
      ∙ ap (λ n. fork start n (plan_of (fits degree (plan_below h start (room h)) (take (room h) ys))) (plan_of (fits degree (plan_below h (start + room h) (len - room h)) (drop (room h) ys)))) long
      ∙ ap₂ (fork start len) l r
      ∙ sym (plan_below_high h start len high)
]

pub plan_of-fitted : (degree : ℕ) (xs : List ℤ) → plan_of (fitted degree xs) ≡ plan 0 (length xs)
unfolding plan
plan_of-fitted degree xs = plan-below degree (length xs) 0 (length xs) xs (omega (arith, enough (length xs))) refl

true-below : (degree h start len : ℕ) (ys : List ℤ) → 0 < len → len ≤ room h → length ys ≡ len → AllTrue (fits degree (plan_below h start len) ys)
unfolding plan_below
true-below degree zero start len ys some fits_in long = fit-true degree start ys (omega arith)
true-below degree (suc h) start len ys some fits_in long = elim (cases_lt (room h) len) [
  | inr low ↦ subst (λ p. AllTrue (fits degree p ys)) (sym (plan_below_low h start len low)) (true-below degree h start len ys some low long)
  | inl high ↦
      let left = plan_below h start (room h) in
      let right = plan_below h (start + room h) (len - room h) in
      let l = true-below degree h start (room h) (take (room h) ys) (omega (arith, pow_pos h)) (omega arith) (length-take-le (room h) ys (omega arith)) in
      let r = true-below degree h (start + room h) (len - room h) (drop (room h) ys) (omega arith) (omega (arith, room-suc h)) (length-drop (room h) ys ∙ ap (λ n. n - room h) long) in
      let whole : ys ≡ readings_of (fits degree left (take (room h) ys)) ++ readings_of (fits degree right (drop (room h) ys)) = sym (ap₂ ◌++◌ (readings_of-fits degree left (take (room h) ys)) (readings_of-fits degree right (drop (room h) ys)) ∙ take-append-drop (room h) ys) in
      subst AllTrue (sym (fits-high degree h start len ys high)) (subst (λ zs. IsTrueOf zs (fit_of degree start ys)) whole (fit-true degree start ys (omega arith)), l, r)
]

-- each segment of the fitted tree is true of its readings
pub AllTrue-fitted : (degree : ℕ) (xs : List ℤ) → 0 < length xs → AllTrue (fitted degree xs)
unfolding plan
AllTrue-fitted degree xs some = true-below degree (length xs) 0 (length xs) xs some (omega (arith, enough (length xs))) refl

-- the segments of a series' fitted tree are the fits of all ranges of its shape
pub all_segs-fitted_series : (degree : ℕ) (xs : List ℤ) → all_segs (fitted_series degree xs) ≡ map (fit_over degree xs) (shape (length xs))
all_segs-fitted_series degree [] = refl
all_segs-fitted_series degree (x ∷ xs) = segs_of-fitted degree (x ∷ xs)

pub all_readings-fitted_series : (degree : ℕ) (xs : List ℤ) → all_readings (fitted_series degree xs) ≡ xs
all_readings-fitted_series degree [] = refl
all_readings-fitted_series degree (x ∷ xs) = readings_of-fits degree (plan 0 (length (x ∷ xs))) (x ∷ xs)

pub fitted_series-some : (degree : ℕ) (xs : List ℤ) → 0 < length xs → fitted_series degree xs ≡ Some (fitted degree xs)
fitted_series-some degree [] some = absurd (omega arith)
fitted_series-some degree (x ∷ xs) some = refl

pub fitted-is : (degree : ℕ) (xs : List ℤ) → 0 < length xs → length xs ≤ 2 ^ 20 → AreReadings xs → IsTreeOver (length xs) (fitted degree xs)
fitted-is degree xs some few small =
    let same = readings_of-fits degree (plan 0 (length xs)) xs in
    record {
      some = some;
      few = few;
      shaped = plan_of-fitted degree xs;
      long = ap length same;
      small = subst AreReadings (sym same) small;
      all_true = AllTrue-fitted degree xs some;
    }

-- Sums of numbers by place, modulo a power of two.
use Rattle.std.proofs.Common.{◌≡◌, ℕ, zero, suc, ◌+◌, ◌-◌, ◌%◌, ◌<◌, ◌≤◌, inl, inr, ℤ, pos, ◌+ℤ◌, ◌-ℤ◌, List, [], ◌∷◌, length, of_z, to_z, set, replicate, refl, sym, ap, ap₂, subst, ◌∙◌, arith, get_or-set_same, get_or-set_other}
use Rattle.std.proofs.Math.Nat.{add-mod_right, mod-add-mod}
use Rattle.std.proofs.lemmas.Bool.{cases_eq, cases_lt}
use Rattle.std.proofs.lemmas.Int.{ints, int_wrap-add_left, wrapping_add_onto, wrapping_sub_is}
use Rattle.std.specs.Int.{int_wrap, w128}
use Rattle.std.specs.Prelude.{◌^◌, FitsSigned}
use Rattle.semantics.specs.Readings.{reading}
use Rattle.semantics.specs.Sums.{sum_below, total_below}
use Rattle.tops.specs.Tops.{number}
use Rattle.descent.specs.Charges.{GoUp, AreChargesOf}
use Rattle.descent.specs.Choice.{Has}

pub sum_below-none : (f : ℕ → ℕ) (n : ℕ) → ((j : ℕ) → j < n → f j ≡ 0) → sum_below f n ≡ 0
sum_below-none f zero h = refl
sum_below-none f (suc n) h = omega (arith, h n (omega arith), sum_below-none f n (λ j lt. h j (omega arith)))

total_below-none : (f : ℕ → ℤ) (n : ℕ) → ((j : ℕ) → j < n → f j ≡ pos 0) → total_below f n ≡ pos 0
total_below-none f zero h = refl
total_below-none f (suc n) h =
    let i = total_below-none f n (λ j lt. h j (omega arith)) in
    omega (arith, ints, h n (omega arith), i)

-- each part of a sum is at most the sum
pub part-le : (f : ℕ → ℕ) (n j : ℕ) → j < n → sum_below f j + f j ≤ sum_below f n
part-le f zero j lt = absurd (omega arith)
part-le f (suc n) j lt = elim (cases_lt j n) [
  | inl less ↦ omega (arith, part-le f n j less)
  | inr ge ↦ let e : j ≡ n = omega arith in rw e (omega arith)
]

-- ---- zeros

number-zeros : (n i : ℕ) → number (replicate n 0) i ≡ 0
number-zeros zero i = refl
number-zeros (suc n) zero = refl
number-zeros (suc n) (suc i) = number-zeros n i

pub sum-zeros : (xs : List ℕ) → xs ≡ replicate (length xs) 0 → sum_below (number xs) (length xs) ≡ 0
sum-zeros xs e =
    sum_below-none (number xs) (length xs) (λ j lt. ap (λ ys. number ys j) e ∙ number-zeros (length xs) j)

reading-zeros : (n i : ℕ) → reading (replicate n (pos 0)) i ≡ pos 0
reading-zeros zero i = refl
reading-zeros (suc n) zero = refl
reading-zeros (suc n) (suc i) = reading-zeros n i

pub total-zeros : (n m : ℕ) → total_below (reading (replicate n (pos 0))) m ≡ pos 0
total-zeros n m = total_below-none (reading (replicate n (pos 0))) m (λ j lt. reading-zeros n j)

-- ---- a number changes

pub sum-set : (xs : List ℕ) (at v n : ℕ) → at < length xs → at < n
    → sum_below (number (set xs at v)) n + number xs at ≡ sum_below (number xs) n + v
sum-set xs at v zero lt below = absurd (omega arith)
sum-set xs at v (suc n) lt below = elim (cases_eq n at) [
  | inl e ↦
      let here : number (set xs at v) n ≡ v = rw e (get_or-set_same xs at v 0 lt) in
      let rest : sum_below (number (set xs at v)) n ≡ sum_below (number xs) n = unchanged n (omega arith) in
      let own : number xs n ≡ number xs at = ap (number xs) e in
      omega (arith, here, rest, own)
  | inr ne ↦
      let here : number (set xs at v) n ≡ number xs n = get_or-set_other xs at n v 0 ne in
      omega (arith, here, sum-set xs at v n lt (omega arith))
]
  where
    unchanged : (m : ℕ) → m ≤ at → sum_below (number (set xs at v)) m ≡ sum_below (number xs) m
    unchanged zero le = refl
    unchanged (suc m) le =
        let ne : m ≡ at → ⊥ = λ q. omega arith in
        let here : number (set xs at v) m ≡ number xs m = get_or-set_other xs at m v 0 ne in
        omega (arith, here, unchanged m (omega arith))

pub total-set : (xs : List ℤ) (at n : ℕ) (v : ℤ) → at < length xs → at < n
    → total_below (reading (set xs at v)) n ≡ (total_below (reading xs) n -ℤ reading xs at) +ℤ v
total-set xs at zero v lt below = absurd (omega arith)
total-set xs at (suc n) v lt below = elim (cases_eq n at) [
  | inl e ↦
      let here : reading (set xs at v) n ≡ v = rw e (get_or-set_same xs at v (pos 0) lt) in
      let rest : total_below (reading (set xs at v)) n ≡ total_below (reading xs) n = unchanged n (omega arith) in
      let own : reading xs n ≡ reading xs at = ap (reading xs) e in
      omega (arith, ints, here, rest, own)
  | inr ne ↦
      let here : reading (set xs at v) n ≡ reading xs n = get_or-set_other xs at n v (pos 0) ne in
      omega (arith, ints, here, total-set xs at n v lt (omega arith))
]
  where
    unchanged : (m : ℕ) → m ≤ at → total_below (reading (set xs at v)) m ≡ total_below (reading xs) m
    unchanged zero le = refl
    unchanged (suc m) le =
        let ne : m ≡ at → ⊥ = λ q. omega arith in
        let here : reading (set xs at v) m ≡ reading xs m = get_or-set_other xs at m v (pos 0) ne in
        ap₂ (λ a b. a +ℤ b) (unchanged m (omega arith)) here

-- one number of a wrapped sum gives way to another
pub wrapped-step : (sum new old value m : ℕ) → old ≤ m → new + old ≡ sum + value
    → ((sum % m + (m - old)) % m + value) % m ≡ new % m
wrapped-step sum new old value m le e =
    let one = mod-add-mod (sum % m + (m - old)) m value in
    let two = mod-add-mod sum m (m - old + value) in
    let near : sum % m + (m - old) + value ≡ sum % m + (m - old + value) = omega arith in
    let far : sum + (m - old + value) ≡ new + m = omega arith in
    one ∙ ap (λ k. k % m) near ∙ two ∙ ap (λ k. k % m) far ∙ add-mod_right new m

pub wrapped-put : (total sum old value : ℤ) → FitsSigned w128 sum → FitsSigned w128 old → FitsSigned w128 value
    → sum ≡ int_wrap w128 total
    → to_z w128 (((of_z w128 sum + (2 ^ 128 - of_z w128 old)) % 2 ^ 128 + of_z w128 value) % 2 ^ 128)
    ≡ int_wrap w128 ((total -ℤ old) +ℤ value)
wrapped-put total sum old value f g h e =
    let m = (of_z w128 sum + (2 ^ 128 - of_z w128 old)) % 2 ^ 128 in
    let one = wrapping_add_onto w128 m value (omega arith) h in
    let two = wrapping_sub_is w128 sum old f g in
    let near : (int_wrap w128 total -ℤ old) +ℤ value ≡ int_wrap w128 total +ℤ (value -ℤ old) = omega (arith, ints) in
    let far : total +ℤ (value -ℤ old) ≡ (total -ℤ old) +ℤ value = omega (arith, ints) in
    one ∙ ap (λ z. int_wrap w128 (z +ℤ value)) two ∙ int_wrap-add_left w128 (sum -ℤ old) value
    ∙ ap (λ z. int_wrap w128 ((z -ℤ old) +ℤ value)) e
    ∙ ap (int_wrap w128) near ∙ int_wrap-add_left w128 total (value -ℤ old) ∙ ap (int_wrap w128) far

-- ---- numbers at the places of elements

abbrev from_place : List ℕ → ℕ → ℕ → ℕ
from_place xs from i = number xs (from + i)

sum_below-split : (f g : ℕ → ℕ) (m n : ℕ) → ((j : ℕ) → f (m + j) ≡ g j)
    → sum_below f (m + n) ≡ sum_below f m + sum_below g n
sum_below-split f g m zero h = let e : m + 0 ≡ m = omega arith in rw e (omega arith)
sum_below-split f g m (suc n) h =
    let e : m + suc n ≡ suc (m + n) = omega arith in
    let i = sum_below-split f g m n h in
    let k = h n in
    rw e (omega (arith, i, k))

pub up-low : {A : Type 0} → (place : A → ℕ) (from : ℕ) (xs : List A) (x : A) → GoUp place from xs → Has x xs
    → from ≤ place x
up-low place from [] x u h = absurd h
up-low place from (y ∷ xs) x u (inl e) = subst (λ k. from ≤ place k) (sym e) u.0
up-low place from (y ∷ xs) x u (inr h) =
    let i = up-low place (place y + 1) xs x u.1 h in
    let l = u.0 in
    omega arith

pub not-some : (k : ℕ) → (0 < k → ⊥) → k ≡ 0
not-some k h = elim (cases_lt 0 k) [
  | inl lt ↦ absurd (h lt)
  | inr le ↦ omega arith
]

abbrev pub sum_over : {A : Type 0} → (A → ℕ) → List A → ℕ
sum_over weight [] = 0
sum_over weight (x ∷ xs) = weight x + sum_over weight xs

places-from : {A : Type 0} → (place weight : A → ℕ) (from : ℕ) (xs : List A) (ns : List ℕ) (m : ℕ)
    → GoUp place from xs → ((x : A) → Has x xs → number ns (place x) ≡ weight x)
    → ((i : ℕ) → from ≤ i → 0 < number ns i → (x : A) × Has x xs × (place x ≡ i))
    → ((x : A) → Has x xs → place x < from + m) → sum_below (from_place ns from) m ≡ sum_over weight xs
places-from place weight from [] ns m u each others within =
    sum_below-none (from_place ns from) m (λ j lt. not-some (number ns (from + j))
    (λ some. let c = others (from + j) (omega arith) some in absurd c.1))
places-from place weight from (c ∷ cs) ns m u each others within =
    let low = u.0 in
    let high = within c (inl refl) in
    let a = place c - from in
    let rest = m - (a + 1) in
    let e : m ≡ a + (1 + rest) = omega arith in
    let front : sum_below (from_place ns from) a ≡ 0 =
    sum_below-none (from_place ns from) a (λ j lt. not-some (number ns (from + j)) (λ some.
    let d = others (from + j) (omega arith) some in
    let p = up-low place (place c) (c ∷ cs) d.0 (omega arith, u.1) d.1 in
    let q = d.2 in
    omega arith)) in
    let here : number ns (from + a) ≡ weight c =
    let p : from + a ≡ place c = omega arith in rw p (each c (inl refl)) in
    let later = places-from place weight (place c + 1) cs ns rest u.1 (λ d h. each d (inr h))
    (λ i le some. let d = others i (omega arith) some in elim d.1 [
      | inl q ↦ let p : place c ≡ i = subst (λ k. place k ≡ i) q d.2 in absurd (omega arith)
      | inr h ↦ (d.0, h, d.2)
    ])
    (λ d h. let w = within d (inr h) in omega arith) in
    let first = sum_below-split (from_place ns from) (from_place ns (from + a)) a (1 + rest)
    (λ j. ap (number ns) (omega arith)) in
    let second = sum_below-split (from_place ns (from + a)) (from_place ns (place c + 1)) 1 rest
    (λ j. ap (number ns) (omega arith)) in
    let z : from + a + 0 ≡ from + a = omega arith in
    let one : sum_below (from_place ns (from + a)) 1 ≡ weight c = rw z (omega (arith, here)) in
    rw e (omega (arith, first, second, front, one, later))

-- the sum of the numbers is that of the weights
pub places-sum : {A : Type 0} → (place weight : A → ℕ) (xs : List A) (ns : List ℕ) (n : ℕ)
    → AreChargesOf place weight xs ns → ((x : A) → Has x xs → place x < n)
    → sum_below (number ns) n ≡ sum_over weight xs
places-sum place weight xs ns n are within =
    same (number ns) (from_place ns 0) n (λ j. ap (number ns) (omega arith))
    ∙ places-from place weight 0 xs ns n are.order are.each (λ i le some. are.others i some)
    (λ x h. let w = within x h in omega arith)
  where
    same : (f g : ℕ → ℕ) (n : ℕ) → ((j : ℕ) → f j ≡ g j) → sum_below f n ≡ sum_below g n
    same f g zero h = refl
    same f g (suc n) h = omega (arith, h n, same f g n h)

-- Sums and multiples of polynomials, coefficient by coefficient.
use Rattle.std.proofs.Common.{◌≡◌, ℕ, zero, suc, ◌+◌, ◌*◌, ◌≤◌, ◌<◌, max, ℤ, pos, ◌+ℤ◌, ◌*ℤ◌, unsigned_abs, List, [], ◌∷◌, length, get_or, refl, sym, ap, ◌∙◌, arith, mul-le-mul_left}
use Rattle.std.proofs.lemmas.Int.{ints, unsigned_abs-mul}
use Rattle.std.proofs.lemmas.Bool.Decides.{nat_tests}
use Rattle.std.proofs.lemmas.List.{ext_get_or}
use Rattle.poly.specs.Terms.{value_at, norm_at, size_of}
use Rattle.semantics.proofs.Ring.{*ℤ-+ℤ, abs-+ℤ, diff-of, differences, diff-same}

-- the coefficients of the sum
abbrev plus_terms : List ℤ → List ℤ → List ℤ
plus_terms [] qs = qs
plus_terms (a ∷ ps) [] = a ∷ ps
plus_terms (a ∷ ps) (b ∷ qs) = (a +ℤ b) ∷ plus_terms ps qs

pub get_or-plus_terms : (ps qs : List ℤ) (j : ℕ) → get_or (plus_terms ps qs) j (pos 0) ≡ get_or ps j (pos 0) +ℤ get_or qs j (pos 0)
get_or-plus_terms [] qs j = omega (arith, ints)
get_or-plus_terms (p ∷ ps) [] j = omega (arith, ints)
get_or-plus_terms (p ∷ ps) (q ∷ qs) zero = refl
get_or-plus_terms (p ∷ ps) (q ∷ qs) (suc j) = get_or-plus_terms ps qs j

pub length-plus_terms : (ps qs : List ℤ) → length (plus_terms ps qs) ≡ max (length ps) (length qs)
length-plus_terms [] qs = omega arith
length-plus_terms (p ∷ ps) [] = omega arith
length-plus_terms (p ∷ ps) (q ∷ qs) = omega (arith, length-plus_terms ps qs)

pub value_at-plus : (ps qs : List ℤ) (x : ℤ) → value_at (plus_terms ps qs) x ≡ value_at ps x +ℤ value_at qs x
value_at-plus [] qs x = omega (arith, ints)
value_at-plus (a ∷ ps) [] x = omega (arith, ints)
value_at-plus (a ∷ ps) (b ∷ qs) x = omega (arith, ints, ap (λ z. x *ℤ z) (value_at-plus ps qs x), *ℤ-+ℤ x (value_at ps x) (value_at qs x))

pub norm_at-plus : (ps qs : List ℤ) (m : ℕ) → norm_at (plus_terms ps qs) m ≤ norm_at ps m + norm_at qs m
norm_at-plus [] qs m = omega arith
norm_at-plus (a ∷ ps) [] m = omega arith
norm_at-plus (a ∷ ps) (b ∷ qs) m = omega (arith, abs-+ℤ a b, mul-le-mul_left m (norm_at-plus ps qs m))

pub size_of-plus : (ps qs : List ℤ) → size_of (plus_terms ps qs) ≤ max (size_of ps) (size_of qs)
size_of-plus [] qs = omega arith
size_of-plus (a ∷ ps) [] = omega arith
size_of-plus (a ∷ ps) (b ∷ qs) = let s = size_of-plus ps qs in let t = abs-+ℤ a b in grind (arith, nat_tests)

-- what is known of a list that is the sum of two at each place
pub record IsSum (ps qs rs : List ℤ) : Type 0 where
  pub value : (x : ℤ) → value_at rs x ≡ value_at ps x +ℤ value_at qs x
  pub norm : (m : ℕ) → norm_at rs m ≤ norm_at ps m + norm_at qs m
  pub size : size_of rs ≤ max (size_of ps) (size_of qs)

pub sum_is : (ps qs rs : List ℤ) → length ps ≡ length rs → length qs ≡ length rs → ((j : ℕ) → j < length rs → get_or rs j (pos 0) ≡ get_or ps j (pos 0) +ℤ get_or qs j (pos 0)) → IsSum ps qs rs
sum_is ps qs rs left right h =
    let e : rs ≡ plus_terms ps qs = ext_get_or (pos 0) rs (plus_terms ps qs) (omega (arith, length-plus_terms ps qs)) (λ j lt. h j lt ∙ sym (get_or-plus_terms ps qs j)) in
    record { value = λ x. rw e (value_at-plus ps qs x); norm = λ m. rw e (norm_at-plus ps qs m); size = rw e (size_of-plus ps qs) }

-- the coefficients of the k-fold
abbrev scaled_terms : ℤ → List ℤ → List ℤ
scaled_terms k [] = []
scaled_terms k (a ∷ ps) = (k *ℤ a) ∷ scaled_terms k ps

pub get_or-scaled_terms : (k : ℤ) (ps : List ℤ) (j : ℕ) → get_or (scaled_terms k ps) j (pos 0) ≡ k *ℤ get_or ps j (pos 0)
get_or-scaled_terms k [] j = omega (arith, ints)
get_or-scaled_terms k (p ∷ ps) zero = refl
get_or-scaled_terms k (p ∷ ps) (suc j) = get_or-scaled_terms k ps j

pub length-scaled_terms : (k : ℤ) (ps : List ℤ) → length (scaled_terms k ps) ≡ length ps
length-scaled_terms k [] = refl
length-scaled_terms k (p ∷ ps) = ap suc (length-scaled_terms k ps)

swapped : (k a x v : ℤ) → k *ℤ a +ℤ x *ℤ (k *ℤ v) ≡ k *ℤ (a +ℤ x *ℤ v)
swapped k a x v = rw (← diff-of k, ← diff-of a, ← diff-of x, ← diff-of v) (simp differences (diff-same _ _ _ _ (omega arith)))

pub value_at-scaled : (k : ℤ) (ps : List ℤ) (x : ℤ) → value_at (scaled_terms k ps) x ≡ k *ℤ value_at ps x
value_at-scaled k [] x = omega (arith, ints)
value_at-scaled k (a ∷ ps) x = ap (λ z. k *ℤ a +ℤ x *ℤ z) (value_at-scaled k ps x) ∙ swapped k a x (value_at ps x)

pub norm_at-scaled : (k : ℤ) (ps : List ℤ) (m : ℕ) → norm_at (scaled_terms k ps) m ≡ unsigned_abs k * norm_at ps m
norm_at-scaled k [] m = omega arith
norm_at-scaled k (a ∷ ps) m = omega (arith, unsigned_abs-mul k a, ap (λ n. m * n) (norm_at-scaled k ps m))

pub size_of-scaled : (k : ℤ) (ps : List ℤ) → size_of (scaled_terms k ps) ≤ size_of ps
size_of-scaled k [] = omega arith
size_of-scaled k (a ∷ ps) = let s = size_of-scaled k ps in let t = unsigned_abs-mul k a in grind (arith, nat_tests)

-- the 0-fold has no term
pub size_of-none : (ps : List ℤ) → size_of (scaled_terms (pos 0) ps) ≡ 0
size_of-none [] = refl
size_of-none (p ∷ ps) = let s = size_of-none ps in let t = unsigned_abs-mul (pos 0) p in grind (arith, nat_tests)

-- what is known of a list that is the k-fold of one at each place
pub record IsMultiple (k : ℤ) (ps rs : List ℤ) : Type 0 where
  pub value : (x : ℤ) → value_at rs x ≡ k *ℤ value_at ps x
  pub norm : (m : ℕ) → norm_at rs m ≡ unsigned_abs k * norm_at ps m
  pub size : size_of rs ≤ size_of ps
  pub none : k ≡ pos 0 → size_of rs ≡ 0

pub multiple_is : (k : ℤ) (ps rs : List ℤ) → length ps ≡ length rs → ((j : ℕ) → j < length rs → get_or rs j (pos 0) ≡ k *ℤ get_or ps j (pos 0)) → IsMultiple k ps rs
multiple_is k ps rs same h =
    let e : rs ≡ scaled_terms k ps = ext_get_or (pos 0) rs (scaled_terms k ps) (omega (arith, length-scaled_terms k ps)) (λ j lt. h j lt ∙ sym (get_or-scaled_terms k ps j)) in
    record { value = λ x. rw e (value_at-scaled k ps x); norm = λ m. rw e (norm_at-scaled k ps m); size = rw e (size_of-scaled k ps); none = λ none. rw (e, none) (size_of-none ps) }

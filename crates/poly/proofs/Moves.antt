-- A polynomial of three terms, moved.
use Rattle.std.proofs.Common.{◌≡◌, ℕ, ◌+◌, ◌*◌, ◌≤◌, ℤ, pos, ◌+ℤ◌, ◌*ℤ◌, unsigned_abs, List, [], ◌∷◌, get_or, refl, sym, ◌∙◌, arith, mul-le-mul_left}
use Rattle.poly.specs.Terms.{value_at, norm_at, size_of}
use Rattle.semantics.proofs.Ring.{diff-of, differences, diff-same}
use Rattle.poly.proofs.TermLaws.{value_at-none, norm_at-none, size_of-tail, times_zero, plus_zero}

size_of-tail3 : (a b c : ℤ) (ps : List ℤ) → size_of (a ∷ b ∷ c ∷ ps) ≤ 3 → size_of ps ≡ 0
size_of-tail3 a b c ps h = let f = size_of-tail a (b ∷ c ∷ ps) 2 h in let g = size_of-tail b (c ∷ ps) 1 f in let k = size_of-tail c ps 0 g in omega arith

pub three_terms : (ps : List ℤ) (x : ℤ) → size_of ps ≤ 3 → value_at ps x ≡ get_or ps 0 (pos 0) +ℤ x *ℤ (get_or ps 1 (pos 0) +ℤ x *ℤ get_or ps 2 (pos 0))
three_terms [] x h = simp times_zero refl
three_terms (a ∷ []) x h = simp times_zero refl
three_terms (a ∷ b ∷ []) x h = simp (times_zero, plus_zero) refl
three_terms (a ∷ b ∷ c ∷ ps) x h = rw (value_at-none ps x (size_of-tail3 a b c ps h), times_zero, plus_zero) refl

pub three_norms : (ps : List ℤ) (m : ℕ) → size_of ps ≤ 3 → norm_at ps m ≡ unsigned_abs (get_or ps 0 (pos 0)) + m * (unsigned_abs (get_or ps 1 (pos 0)) + m * unsigned_abs (get_or ps 2 (pos 0)))
three_norms [] m h = omega arith
three_norms (a ∷ []) m h = omega arith
three_norms (a ∷ b ∷ []) m h = omega arith
three_norms (a ∷ b ∷ c ∷ ps) m h = rw (norm_at-none ps m (size_of-tail3 a b c ps h)) (omega arith)

-- the terms of a moved one, by its steps
moved_terms : (a b c x k : ℤ) → (a +ℤ k *ℤ (b +ℤ k *ℤ c)) +ℤ x *ℤ (((b +ℤ k *ℤ c) +ℤ k *ℤ c) +ℤ x *ℤ c) ≡ a +ℤ (x +ℤ k) *ℤ (b +ℤ (x +ℤ k) *ℤ c)
moved_terms a b c x k = rw (← diff-of a, ← diff-of b, ← diff-of c, ← diff-of x, ← diff-of k) (simp differences (diff-same _ _ _ _ (omega arith)))

pub value_at-moved : (ps : List ℤ) (k : ℕ) (steeper level linear x : ℤ) → size_of ps ≤ 3
    → steeper ≡ get_or ps 1 (pos 0) +ℤ pos k *ℤ get_or ps 2 (pos 0)
    → level ≡ get_or ps 0 (pos 0) +ℤ pos k *ℤ steeper
    → linear ≡ steeper +ℤ pos k *ℤ get_or ps 2 (pos 0)
    → level +ℤ x *ℤ (linear +ℤ x *ℤ get_or ps 2 (pos 0)) ≡ value_at ps (x +ℤ pos k)
value_at-moved ps k steeper level linear x small e f g =
    rw (f, g, e) (moved_terms (get_or ps 0 (pos 0)) (get_or ps 1 (pos 0)) (get_or ps 2 (pos 0)) x (pos k)) ∙ sym (three_terms ps (x +ℤ pos k) small)

-- what the steps keep to, over the magnitudes of the terms
pub record AreMoved (a b c k m n : ℕ) : Type 0 where
  pub linear : b + 2 * (k * c) ≤ n
  pub level : a + k * (b + k * c) ≤ n
  pub norm : (a + k * (b + k * c)) + m * ((b + k * c) + k * c + m * c) ≤ n

pub moved : (ps : List ℤ) (k m : ℕ) → 1 ≤ m → size_of ps ≤ 3 → AreMoved (unsigned_abs (get_or ps 0 (pos 0))) (unsigned_abs (get_or ps 1 (pos 0))) (unsigned_abs (get_or ps 2 (pos 0))) k m (norm_at ps (k + m))
moved ps k m some small =
    let norm = three_norms ps (k + m) small in
    let slope = mul-le-mul_left (k * unsigned_abs (get_or ps 2 (pos 0))) some in
    let level = mul-le-mul_left (unsigned_abs (get_or ps 1 (pos 0))) some in
    record { linear = omega (arith, norm, slope, level); level = omega (arith, norm, slope, level); norm = omega (arith, norm, slope, level) }

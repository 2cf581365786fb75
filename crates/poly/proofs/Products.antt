-- A product of polynomials, by the last coefficient of its left factor first.
use Rattle.std.proofs.Common.{◌≡◌, ℕ, zero, suc, ◌+◌, ◌-◌, ◌*◌, ◌≤◌, ◌<◌, max, ℤ, pos, ◌+ℤ◌, ◌*ℤ◌, unsigned_abs, List, [], ◌∷◌, length, get_or, take, drop, refl, sym, ap, ap₂, ◌∙◌, arith, length-take-le, get_or-take, inl, inr, ◌==◌, if◌then◌else◌, mul-le-mul_left, mul-le-mul, sub-one}
use Rattle.std.proofs.lemmas.Int.{ints}
use Rattle.std.proofs.lemmas.Bool.Decides.{nat_tests}
use Rattle.std.proofs.lemmas.Bool.{cases_eq}
use Rattle.std.proofs.lemmas.List.{ext_get_or}
use Rattle.poly.specs.Terms.{value_at, norm_at, size_of, degree_of}
use Rattle.poly.specs.Raised.{IsRaised}
use Rattle.semantics.proofs.Ring.{diff-of, differences, diff-same}
use Rattle.poly.proofs.TermLaws.{value_at-none, norm_at-none, value_at-take, norm_at-take, size_of-take, size_of-drop, norm_at-before, norm_at-drop, plus_zero}

-- the item before, in a list with one more in front
pub get_or-behind : (p : ℤ) (ps : List ℤ) (k : ℕ) → 0 < k → get_or (p ∷ ps) k (pos 0) ≡ get_or ps (k - 1) (pos 0)
get_or-behind p ps zero some = absurd (omega arith)
get_or-behind p ps (suc k) some = rw sub-one refl

size_of-raised : (ps : List ℤ) → size_of (pos 0 ∷ ps) ≤ suc (size_of ps)
size_of-raised ps = grind (arith, nat_tests)

size_of-raised_none : (ps : List ℤ) → size_of ps ≡ 0 → size_of (pos 0 ∷ ps) ≡ 0
size_of-raised_none ps h = grind (arith, nat_tests)

pub raised : (ps : List ℤ) (n : ℕ) → size_of ps ≤ n → IsRaised ps (pos 0 ∷ take n ps)
raised ps n small = record {
  value = λ x. rw (value_at-take ps n x small) (omega (arith, ints));
  norm = λ m. rw (norm_at-take ps n m small) (omega arith);
  size = omega (arith, size_of-raised (take n ps), size_of-take ps n);
  none = λ h. size_of-raised_none (take n ps) (omega (arith, size_of-take ps n));
}

pub raised_is : (ps rs : List ℤ) (n : ℕ) → length rs ≡ suc n → length ps ≡ suc n → ((j : ℕ) → j < suc n → get_or rs j (pos 0) ≡ get_or (pos 0 ∷ ps) j (pos 0)) → rs ≡ pos 0 ∷ take n ps
raised_is ps [] n long same h = absurd (omega arith)
raised_is ps (r ∷ rs) n long same h = ap₂ (λ x l. x ∷ l) (h zero (omega arith)) (ext_get_or (pos 0) rs (take n ps) (omega (arith, length-take-le n ps)) (λ j lt. h (suc j) (omega arith) ∙ sym (get_or-take n ps j (pos 0) (omega arith))))

pub record IsProduct (ps qs rs : List ℤ) : Type 0 where
  pub value : (x : ℤ) → value_at rs x ≡ value_at ps x *ℤ value_at qs x
  pub norm : (m : ℕ) → norm_at rs m ≤ norm_at ps m * norm_at qs m
  pub left : size_of ps ≡ 0 → size_of rs ≡ 0
  pub right : size_of qs ≡ 0 → size_of rs ≡ 0
  pub both : size_of rs ≤ size_of ps + size_of qs - 1

zero_times : (x : ℤ) → pos 0 *ℤ x ≡ pos 0
zero_times x = omega (arith, ints)

none_abs : (p : ℤ) → unsigned_abs p ≡ 0 → p ≡ pos 0
none_abs p h = omega (arith, ints)

step_left : (p : ℤ) (s r u v w : ℕ) → (if s + unsigned_abs p == 0 then 0 else suc s) ≡ 0 → (s ≡ 0 → r ≡ 0) → (r ≡ 0 → u ≡ 0) → (p ≡ pos 0 → v ≡ 0) → w ≤ max u v → w ≡ 0
step_left p s r u v w h product up scaled size =
    let a : s ≡ 0 = grind (arith, nat_tests) in
    let b : unsigned_abs p ≡ 0 = grind (arith, nat_tests) in
    let d = up (product a) in
    let e = scaled (none_abs p b) in
    omega arith

step_both : (s t r u v w p : ℕ) → (s ≡ 0 → r ≡ 0) → (t ≡ 0 → r ≡ 0) → r ≤ s + t - 1 → u ≤ suc r → (r ≡ 0 → u ≡ 0) → v ≤ t → (p ≡ 0 → v ≡ 0) → w ≤ max u v → w ≤ (if s + p == 0 then 0 else suc s) + t - 1
step_both s t r u v w p left right both up up_none scaled scaled_none size = grind (arith, nat_tests)

pub product_none : (qs rs : List ℤ) → size_of rs ≡ 0 → IsProduct [] qs rs
product_none qs rs none = record {
  value = λ x. value_at-none rs x none ∙ sym (zero_times (value_at qs x));
  norm = λ m. omega (arith, norm_at-none rs m none);
  left = λ h. none;
  right = λ h. none;
  both = omega arith;
}

step_value : (p x u v : ℤ) → x *ℤ (u *ℤ v) +ℤ p *ℤ v ≡ (p +ℤ x *ℤ u) *ℤ v
step_value p x u v = rw (← diff-of p, ← diff-of x, ← diff-of u, ← diff-of v) (simp differences (diff-same _ _ _ _ (omega arith)))

-- us is x times the product, vs is p times the right factor, rs is their sum
pub product_step : (p : ℤ) (ps qs rs us vs ws : List ℤ) → IsProduct ps qs rs → IsRaised rs us
    → ((x : ℤ) → value_at vs x ≡ p *ℤ value_at qs x) → ((m : ℕ) → norm_at vs m ≡ unsigned_abs p * norm_at qs m) → size_of vs ≤ size_of qs → (p ≡ pos 0 → size_of vs ≡ 0)
    → ((x : ℤ) → value_at ws x ≡ value_at us x +ℤ value_at vs x) → ((m : ℕ) → norm_at ws m ≤ norm_at us m + norm_at vs m) → size_of ws ≤ max (size_of us) (size_of vs)
    → IsProduct (p ∷ ps) qs ws
product_step p ps qs rs us vs ws product up v_value v_norm v_size v_none value norm size = record {
  value = λ x. value x ∙ rw (up.value x, v_value x, product.value x) (step_value p x (value_at ps x) (value_at qs x));
  norm = λ m. let n = mul-le-mul_left m (product.norm m) in omega (arith, norm m, up.norm m, v_norm m, n);
  left = λ h. step_left p (size_of ps) (size_of rs) (size_of us) (size_of vs) (size_of ws) h product.left up.none v_none size;
  right = λ h. let a = product.right h in let b = up.none a in omega (arith, size, v_size);
  both = step_both (size_of ps) (size_of qs) (size_of rs) (size_of us) (size_of vs) (size_of ws) (unsigned_abs p) product.left product.right product.both up.size up.none v_size (λ h. v_none (none_abs p h)) size;
}

-- a coefficient that is 0 adds nothing
pub product_step_none : (p : ℤ) (ps qs rs us : List ℤ) → p ≡ pos 0 → IsProduct ps qs rs → IsRaised rs us → IsProduct (p ∷ ps) qs us
product_step_none p ps qs rs us none product up = product_step p ps qs rs us [] us product up
    (λ x. rw none (sym (zero_times (value_at qs x)))) (λ m. rw none (omega arith)) (omega arith) (λ h. refl)
    (λ x. sym (plus_zero (value_at us x))) (λ m. omega arith) (omega arith)

-- the part that is raised leaves room for one more term
pub product_room : (ps qs rs : List ℤ) (k n : ℕ) → 0 < k → IsProduct (drop k ps) qs rs → degree_of ps + degree_of qs < n → size_of rs < n
product_room ps qs rs k n some product small =
    let s = size_of-drop ps k in
    elim (cases_eq (size_of (drop k ps)) 0) [
      | inl none ↦ omega (arith, product.left none)
      | inr left ↦ elim (cases_eq (size_of qs) 0) [
        | inl none ↦ omega (arith, product.right none)
        | inr right ↦ omega (arith, product.both)
      ]
    ]

-- the parts of a step keep to the product of the norms
pub record AreParts (ps qs rs : List ℤ) (k m n : ℕ) : Type 0 where
  pub part : unsigned_abs (get_or ps (k - 1) (pos 0)) * norm_at qs m ≤ n
  pub raised : m * norm_at rs m ≤ n

pub product_parts : (ps qs rs : List ℤ) (k m n : ℕ) → 0 < k → k ≤ length ps → 1 ≤ m → IsProduct (drop k ps) qs rs → norm_at ps m * norm_at qs m ≤ n → AreParts ps qs rs k m n
product_parts ps qs rs k m n some le place product small =
    let before = norm_at-before ps k m some le in
    let whole = norm_at-drop ps (k - 1) m place in
    let all : norm_at (drop (k - 1) ps) m * norm_at qs m ≤ norm_at ps m * norm_at qs m = mul-le-mul whole (omega arith) in
    let cut = ap (λ z. z * norm_at qs m) before in
    let up = mul-le-mul_left m (product.norm m) in
    record { part = omega (arith, all, cut); raised = omega (arith, all, cut, up) }

pub product_degree : (ps qs rs : List ℤ) → IsProduct ps qs rs → degree_of rs ≤ degree_of ps + degree_of qs
product_degree ps qs rs product = elim (cases_eq (size_of ps) 0) [
  | inl none ↦ omega (arith, product.left none)
  | inr left ↦ elim (cases_eq (size_of qs) 0) [
    | inl none ↦ omega (arith, product.right none)
    | inr right ↦ omega (arith, product.both)
  ]
]

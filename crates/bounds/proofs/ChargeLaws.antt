-- The sum of all charges, by occurrences.
use Rattle.std.proofs.Common.{◌≡◌, ℕ, ◌+◌, ◌*◌, ◌≤◌, ℤ, List, [], ◌∷◌, Bool, true, false, cond, refl, sym, ap, subst, ◌∙◌, arith}
use Rattle.std.specs.List.{sum_by}
use Rattle.std.proofs.Math.Path.{fun_ext}
use Rattle.std.proofs.lemmas.List.Sums.{sum_by-cons}
use Rattle.std.proofs.lemmas.Slice.Eq.{bytes_eq-Decides}
use Rattle.semantics.specs.Measures.{names_in}
use Rattle.semantics.specs.Names.{same_name}
use Rattle.semantics.specs.Sums.{sum_below}
use Rattle.semantics.specs.Term.{Term}
use Rattle.segment.specs.declared.segments.Seg.{Seg}
use Rattle.bounds.specs.Cut.{Entry, segs_of, occurrence_at, error_by, IsNew, AreDistinct}
use Rattle.bounds.proofs.Sums.{sum_below-add, sum_below-mono, sum_below-zero}

pub sum_by-swap : {A : Type 0} (f : A → ℕ → ℕ) (k : ℕ) (xs : List A) → sum_by (λ x. sum_below (f x) k) xs ≡ sum_below (λ o. sum_by (λ x. f x o) xs) k
sum_by-swap f k [] = sym (sum_below-zero k)
sum_by-swap {A} f k (x ∷ xs) =
    let e : sum_below (λ o. sum_by (λ x. f x o) (x ∷ xs)) k ≡ sum_below (λ o. f x o + sum_by (λ x. f x o) xs) k = ap (λ h. sum_below h k) (fun_ext (λ o. sum_by-cons (λ x. f x o) x xs)) in
    sum_by-cons (λ x. sum_below (f x) k) x xs ∙ ap (λ s. sum_below (f x) k + s) (sum_by-swap f k xs) ∙ sym (sum_below-add (f x) (λ o. sum_by (λ x. f x o) xs) k) ∙ sym e

-- the part of an entry in the charges for a name
abbrev pub part_of : (Seg → ℕ) → List ℕ → Entry → ℕ
part_of c name e = sum_by (λ g. cond (same_name e.name name) (c g) 0) e.segs

-- the segments that a name finds cost no more than all of that name
found_le : (c : Seg → ℕ) (name : List ℕ) (ds : List Entry) → sum_by c (segs_of ds name) ≤ sum_by (part_of c name) ds
found_le c name [] = omega arith
found_le c name (e ∷ ds) =
    let f : Entry → ℕ = part_of c name in
    let b : sum_by c (cond (same_name e.name name) e.segs (segs_of ds name)) ≤ sum_by (λ (g : Seg). cond (same_name e.name name) (c g) 0) e.segs + sum_by f ds = at_head (same_name e.name name) (sum_by f ds) (found_le c name ds) in
    omega (arith, b, sum_by-cons f e ds)
  where
    at_head : (b : Bool) (r : ℕ) → sum_by c (segs_of ds name) ≤ r → sum_by c (cond b e.segs (segs_of ds name)) ≤ sum_by (λ (g : Seg). cond b (c g) 0) e.segs + r
    at_head true r h = omega arith
    at_head false r h = omega arith

-- what an occurrence is charged for a segment
abbrev pub charge_in : (ℕ → ℤ → Seg → ℕ) → Term → ℤ → ℕ → Seg → ℕ
charge_in weight t l o g = g.l * weight o (occurrence_at t l o).at g

-- the sum of all charges, occurrence by occurrence
pub by_occurrences : (weight : ℕ → ℤ → Seg → ℕ) (es : List Entry) (t : Term) (l : ℤ)
    → error_by weight es t l ≡ sum_below (λ o. sum_by (part_of (charge_in weight t l o) (occurrence_at t l o).name) es) (names_in t)
by_occurrences weight es t l =
    ap (λ (f : Entry → ℕ). sum_by f es) (fun_ext (λ e. sum_by-swap (λ (g : Seg) o. cond (same_name e.name (occurrence_at t l o).name) (charge_in weight t l o g) 0) (names_in t) e.segs))
    ∙ sum_by-swap (λ (e : Entry) o. part_of (charge_in weight t l o) (occurrence_at t l o).name e) (names_in t) es

-- the charges of the segments that each occurrence reads are at most all charges
pub found_within : (weight : ℕ → ℤ → Seg → ℕ) (es : List Entry) (t : Term) (l : ℤ)
    → sum_below (λ o. sum_by (charge_in weight t l o) (segs_of es (occurrence_at t l o).name)) (names_in t) ≤ error_by weight es t l
found_within weight es t l =
    let all = sum_below-mono (λ o. sum_by (charge_in weight t l o) (segs_of es (occurrence_at t l o).name)) (λ o. sum_by (part_of (charge_in weight t l o) (occurrence_at t l o).name) es) (names_in t)
    (λ o _. found_le (charge_in weight t l o) (occurrence_at t l o).name es) in
    omega (arith, all, by_occurrences weight es t l)

-- ---- distinct names

-- names that are told the same are the same
pub same_is : (xs ys : List ℕ) → same_name xs ys ≡ true → xs ≡ ys
same_is xs ys h = (bytes_eq-Decides xs ys).0 h

part_is : (b : Bool) (c : Seg → ℕ) (gs : List Seg) → sum_by (λ g. cond b (c g) 0) gs ≡ cond b (sum_by c gs) 0
part_is true c gs = refl
part_is false c [] = refl
part_is false c (g ∷ gs) = omega (arith, sum_by-cons (λ (g : Seg). cond false (c g) 0) g gs, part_is false c gs)

-- entries of other names have no part
no_parts : (c : Seg → ℕ) (name : List ℕ) (es : List Entry) → IsNew name es → sum_by (part_of c name) es ≡ 0
no_parts c name [] h = refl
no_parts c name (e ∷ es) h =
    let p : part_of c name e ≡ cond (same_name e.name name) (sum_by c e.segs) 0 = part_is (same_name e.name name) c e.segs in
    let q : cond (same_name e.name name) (sum_by c e.segs) 0 ≡ 0 = ap (λ b. cond b (sum_by c e.segs) 0) h.0 in
    omega (arith, sum_by-cons (part_of c name) e es, p, q, no_parts c name es h.1)

-- where names are distinct the charges for a name are those of its segments
pub parts_are : (c : Seg → ℕ) (name : List ℕ) (es : List Entry) → AreDistinct es → sum_by (part_of c name) es ≡ sum_by c (segs_of es name)
parts_are c name [] h = refl
parts_are c name (e ∷ es) h =
    let p : part_of c name e ≡ cond (same_name e.name name) (sum_by c e.segs) 0 = part_is (same_name e.name name) c e.segs in
    let r : sum_by (part_of c name) (e ∷ es) ≡ part_of c name e + sum_by (part_of c name) es = sum_by-cons (part_of c name) e es in
    let s : cond (same_name e.name name) (sum_by c e.segs) 0 + sum_by (part_of c name) es ≡ sum_by c (cond (same_name e.name name) e.segs (segs_of es name)) =
    at_head (same_name e.name name) (λ t. subst (λ n. sum_by (part_of c n) es ≡ 0) (same_is e.name name t) (no_parts c e.name es h.0)) (parts_are c name es h.1) in
    r ∙ ap (λ n. n + sum_by (part_of c name) es) p ∙ s
  where
    at_head : (b : Bool) → (b ≡ true → sum_by (part_of c name) es ≡ 0) → sum_by (part_of c name) es ≡ sum_by c (segs_of es name)
        → cond b (sum_by c e.segs) 0 + sum_by (part_of c name) es ≡ sum_by c (cond b e.segs (segs_of es name))
    at_head true none rest = omega (arith, none refl)
    at_head false none rest = omega (arith, rest)

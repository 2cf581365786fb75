-- Laws of a tree to which readings are added.
use Rattle.std.proofs.Common.{◌≡◌, ℕ, zero, suc, ◌+◌, ◌-◌, ◌*◌, ◌/◌, ◌^◌, ◌<◌, ◌≤◌, true, false, ℤ, List, [], ◌∷◌, ◌++◌, length, take, drop, map, Some, refl, ap, ap₂, ◌∙◌, sym, subst, arith, inl, inr, take-append-drop, eq-eqb, ne_eqb, pow_pos, if◌then◌else◌, length-take-le, length-drop, take_all, take-take}
use Rattle.std.specs.Prelude.{nat_lt}
use Rattle.std.specs.List.{Contains}
use Rattle.std.proofs.lemmas.Bool.{cases_lt, cases_eq, cases_Bool, cond-true, cond-false, lt-ltb, le-ltb}
use Rattle.std.proofs.lemmas.List.{map-append, take-append-le, drop-take}
use Rattle.std.proofs.lemmas.Option.{same_Some}
use Rattle.std.proofs.Math.Seq.{drop-append_seam}
use Rattle.std.proofs.lemmas.List.Elements.{Contains-append_left, Contains-append_right, Contains-append_cases}
use Rattle.segment.specs.declared.segments.Seg.{Seg}
use Rattle.segment.specs.Fit.{fit_over, readings_in}
use Rattle.segment.specs.Growth.{kept_or_fit, same_range, is_among, lacking, made, tree_by, behind, FewAreMade, NoneAreMade}
use Rattle.segment.specs.Nodes.{find_seg}
use Rattle.segment.specs.Shape.{Range, Plan, leaf, fork, room, plan_below, plan, IsSplit, ranges, shape, count, node_count}
use Rattle.segment.specs.Tree.{SegTree, tip, node, readings_of, segs_of, root_of, plan_of, width, IsPartOf, AllTrue, fits, IsTreeOver}
use Rattle.segment.specs.Measure.{AreReadings, IsTrueOf}
use Rattle.segment.proofs.AlignedRanges.{shape-aligned}
use Rattle.segment.proofs.FitLaws.{fit-true}
use Rattle.segment.proofs.PartLaws.{part_left, part_right, root-true, AllTrue-part, range_of, beyond-none, part-found, part-readings}
use Rattle.segment.proofs.ShapeLaws.{room-suc, plan_below_low, plan_below_high, enough, plan_is, plan-leaf, plan-fork, count-below, count-plan, shape-plan}
use Rattle.segment.proofs.TreeLaws.{width-below, left_readings, right_readings}

-- ---- trees by the segments of their ranges

pub segs-tree_by : (f : Range → Seg) (p : Plan) (xs : List ℤ) → segs_of (tree_by f p xs) ≡ map f (ranges p)
segs-tree_by f (leaf start len) xs = refl
segs-tree_by f (fork start len l r) xs =
    ap₂ (λ a b. f (record { start = start; len = len }) ∷ a ++ b) (segs-tree_by f l (take (width l) xs)) (segs-tree_by f r (drop (width l) xs))
    ∙ ap (λ gs. f (record { start = start; len = len }) ∷ gs) (sym (map-append f (ranges l) (ranges r)))

pub readings-tree_by : (f : Range → Seg) (p : Plan) (xs : List ℤ) → readings_of (tree_by f p xs) ≡ xs
readings-tree_by f (leaf start len) xs = refl
readings-tree_by f (fork start len l r) xs =
    ap₂ ◌++◌ (readings-tree_by f l (take (width l) xs)) (readings-tree_by f r (drop (width l) xs)) ∙ take-append-drop (width l) xs

-- f tells the segments of a tree
pub record Tells (f : Range → Seg) (t : SegTree) : Type 0 where
  pub tells : (r : Range) (g : Seg) → find_seg (segs_of t) r ≡ Some g → f r ≡ g

tree_front : (xs ys : List ℤ) (n : ℕ) → n ≡ length xs → take n (xs ++ ys) ≡ xs
tree_front xs ys n e = take-append-le n xs ys (omega arith) ∙ take_all n xs (omega arith)

tree_back : (xs ys : List ℤ) (n : ℕ) → n ≡ length xs → drop n (xs ++ ys) ≡ ys
tree_back xs ys n e = ap (λ k. drop k (xs ++ ys)) e ∙ drop-append_seam xs ys

width-part : (t : SegTree) → AllTrue t → width (plan_of t) ≡ length (readings_of t)
width-part (tip g xs) h = ap (λ (s : Seg). s.len) h.measured
width-part (node g l r) h = ap (λ (s : Seg). s.len) h.0.measured

-- a part of a tree is told by the tree's segments
pub tree_by-part : (f : Range → Seg) (n : ℕ) (t part : SegTree) → IsTreeOver n t → Tells f t → IsPartOf part t → tree_by f (plan_of part) (readings_of part) ≡ part
tree_by-part f n t (tip g xs) over told is = ap (λ x. tip x xs) (told.tells (range_of (tip g xs)) g (part-found n t (tip g xs) over is))
tree_by-part f n t (node g l r) over told is =
    let all_true = AllTrue-part t (node g l r) over.all_true is in
    let long = width-part l all_true.1 in
    let root = told.tells (range_of (node g l r)) g (part-found n t (node g l r) over is) in
    let front = tree_front (readings_of l) (readings_of r) (width (plan_of l)) long in
    let back = tree_back (readings_of l) (readings_of r) (width (plan_of l)) long in
    rw (root, front, back) (ap₂ (node g) (tree_by-part f n t l over told (part_left t g l r is)) (tree_by-part f n t r over told (part_right t g l r is)))

-- ---- ranges that end behind the old readings are fitted

-- f fits each range that ends behind n
abbrev pub FitsBehind : ℕ → ℕ → List ℤ → (Range → Seg) → Type 0
FitsBehind degree n xs f = (r : Range) → n < r.start + r.len → f r ≡ fit_over degree xs r

pub told-behind : (degree n : ℕ) (t : SegTree) (xs : List ℤ) → IsTreeOver n t → FitsBehind degree n xs (kept_or_fit degree xs (segs_of t))
told-behind degree n t xs over r past = rw (beyond-none n t r over past) refl

pub told-kept : (degree : ℕ) (t : SegTree) (xs : List ℤ) → Tells (kept_or_fit degree xs (segs_of t)) t
told-kept degree t xs = record { tells = λ r g e. rw e refl }

fits-behind-below : (degree n : ℕ) (xs : List ℤ) (f : Range → Seg) → FitsBehind degree n xs f → (h start len : ℕ) → n ≤ start → 0 < len → len ≤ room h
    → tree_by f (plan_below h start len) (take len (drop start xs)) ≡ fits degree (plan_below h start len) (take len (drop start xs))
unfolding plan_below
fits-behind-below degree n xs f behind zero start len past some fits_in = ap (λ g. tip g (take len (drop start xs))) (behind (record { start = start; len = len }) (omega arith))
fits-behind-below degree n xs f behind (suc h) start len past some fits_in = elim (cases_lt (room h) len) [
  | inr low ↦ subst (λ p. tree_by f p (take len (drop start xs)) ≡ fits degree p (take len (drop start xs))) (sym (plan_below_low h start len low)) (fits-behind-below degree n xs f behind h start len past some low)
  | inl high ↦
      let left = plan_below h start (room h) in
      let right = plan_below h (start + room h) (len - room h) in
      let ys = take len (drop start xs) in
      let w = width-below h start (room h) in
      let front : take (width left) ys ≡ take (room h) (drop start xs) = ap (λ k. take k ys) w ∙ left_readings xs start len (room h) (omega arith) in
      let back : drop (width left) ys ≡ take (len - room h) (drop (start + room h) xs) = ap (λ k. drop k ys) w ∙ right_readings xs start len (room h) (omega arith) in
      let root = behind (record { start = start; len = len }) (omega arith) in
      let l = fits-behind-below degree n xs f behind h start (room h) past (omega (arith, pow_pos h)) (omega arith) in
      let r = fits-behind-below degree n xs f behind h (start + room h) (len - room h) (omega arith) (omega arith) (omega (arith, room-suc h)) in
      subst (λ p. tree_by f p ys ≡ fits degree p ys) (sym (plan_below_high h start len high)) (rw (front, back, root, l, r) refl)
]

-- a tree behind the old readings is the fitted one
pub fits-behind : (degree n : ℕ) (xs : List ℤ) (f : Range → Seg) (start len : ℕ) → FitsBehind degree n xs f → n ≤ start → 0 < len
    → tree_by f (plan start len) (take len (drop start xs)) ≡ fits degree (plan start len) (take len (drop start xs))
unfolding plan
fits-behind degree n xs f start len behind past some = fits-behind-below degree n xs f behind len start len past some (omega (arith, enough len))

-- ---- how many ranges end behind the old readings

behind-append : (n : ℕ) (xs ys : List Range) → behind n (xs ++ ys) ≡ behind n xs + behind n ys
behind-append n [] ys = omega arith
behind-append n (x ∷ xs) ys = omega (arith, behind-append n xs ys)

ends_before : (n e : ℕ) → e ≤ n → ◌≡◌ {A = ℕ} (if nat_lt n e then 1 else 0) 0
ends_before n e le = cond-false {A = ℕ} (nat_lt n e) 1 0 (le-ltb n e le)

ends_behind : (n e : ℕ) → n < e → ◌≡◌ {A = ℕ} (if nat_lt n e then 1 else 0) 1
ends_behind n e lt = cond-true {A = ℕ} (nat_lt n e) 1 0 (lt-ltb n e lt)

behind_fork : (n h start len : ℕ) → room h < len
    → behind n (ranges (plan_below (suc h) start len)) ≡ (if nat_lt n (start + len) then 1 else 0) + behind n (ranges (plan_below h start (room h))) + behind n (ranges (plan_below h (start + room h) (len - room h)))
behind_fork n h start len high =
    ap (λ p. behind n (ranges p)) (plan_below_high h start len high)
    ∙ omega (arith, behind-append n (ranges (plan_below h start (room h))) (ranges (plan_below h (start + room h) (len - room h))))

behind_none-below : (n h start len : ℕ) → start + len ≤ n → len ≤ room h → behind n (ranges (plan_below h start len)) ≡ 0
unfolding plan_below
behind_none-below n zero start len before fits_in = omega (arith, ends_before n (start + len) before)
behind_none-below n (suc h) start len before fits_in = elim (cases_lt (room h) len) [
  | inr low ↦ ap (λ p. behind n (ranges p)) (plan_below_low h start len low) ∙ behind_none-below n h start len before low
  | inl high ↦
      let l = behind_none-below n h start (room h) (omega arith) (omega arith) in
      let r = behind_none-below n h (start + room h) (len - room h) (omega arith) (omega (arith, room-suc h)) in
      omega (arith, behind_fork n h start len high, ends_before n (start + len) before, l, r)
]

behind_all-below : (n h start len : ℕ) → n ≤ start → 0 < len → len ≤ room h → behind n (ranges (plan_below h start len)) ≡ count (plan_below h start len)
unfolding plan_below
behind_all-below n zero start len past some fits_in = omega (arith, ends_behind n (start + len) (omega arith))
behind_all-below n (suc h) start len past some fits_in = elim (cases_lt (room h) len) [
  | inr low ↦ ap (λ p. behind n (ranges p)) (plan_below_low h start len low) ∙ behind_all-below n h start len past some low ∙ sym (ap count (plan_below_low h start len low))
  | inl high ↦
      let l = behind_all-below n h start (room h) past (omega (arith, pow_pos h)) (omega arith) in
      let r = behind_all-below n h (start + room h) (len - room h) (omega arith) (omega arith) (omega (arith, room-suc h)) in
      omega (arith, behind_fork n h start len high, ends_behind n (start + len) (omega arith), l, r, ap count (plan_below_high h start len high))
]

-- two for each block that is begun, and one for each level
behind-le : (n h start len : ℕ) → start ≤ n → n < start + len → len ≤ room h → behind n (ranges (plan_below h start len)) ≤ 2 * ((len + 15) / 16 - (n - start) / 16) + h
unfolding plan_below
behind-le n zero start len from to fits_in = omega (arith, ends_behind n (start + len) to)
behind-le n (suc h) start len from to fits_in = elim (cases_lt (room h) len) [
  | inr low ↦ omega (arith, ap (λ p. behind n (ranges p)) (plan_below_low h start len low), behind-le n h start len from to low)
  | inl high ↦ elim (cases_lt n (start + room h)) [
    | inl under ↦
        let l = behind-le n h start (room h) from under (omega arith) in
        let r = behind_all-below n h (start + room h) (len - room h) (omega arith) (omega arith) (omega (arith, room-suc h)) in
        let c = count-below h (start + room h) (len - room h) (omega arith) (omega (arith, room-suc h)) in
        omega (arith, behind_fork n h start len high, ends_behind n (start + len) to, l, r, c)
    | inr over ↦
        let l = behind_none-below n h start (room h) over (omega arith) in
        let r = behind-le n h (start + room h) (len - room h) over (omega arith) (omega (arith, room-suc h)) in
        omega (arith, behind_fork n h start len high, ends_behind n (start + len) to, l, r)
  ]
]

pub behind_none : (n start len : ℕ) → start + len ≤ n → behind n (ranges (plan start len)) ≡ 0
unfolding plan
behind_none n start len before = behind_none-below n len start len before (omega (arith, enough len))

pub behind_all : (n start len : ℕ) → n ≤ start → 0 < len → behind n (ranges (plan start len)) ≡ count (plan start len)
unfolding plan
behind_all n start len past some = behind_all-below n len start len past some (omega (arith, enough len))

pub behind_leaf : (n start len : ℕ) → n < start + len → len ≤ 16 → behind n (ranges (plan start len)) ≡ 1
behind_leaf n start len past short = ap (λ p. behind n (ranges p)) (plan-leaf start len short) ∙ omega (arith, ends_behind n (start + len) past)

pub behind_parts : (n start len s : ℕ) → n < start + len → IsSplit len s
    → behind n (ranges (plan start len)) ≡ 1 + behind n (ranges (plan start s)) + behind n (ranges (plan (start + s) (len - s)))
behind_parts n start len s past split =
    ap (λ p. behind n (ranges p)) (plan-fork start len s split)
    ∙ omega (arith, ends_behind n (start + len) past, behind-append n (ranges (plan start s)) (ranges (plan (start + s) (len - s))))

-- ---- these are the ranges that the old tree lacks

-- what a test of two ranges says
record SameOr (q r : Range) : Type 0 where
  same : (q ≡ r) → same_range q r ≡ true
  only : same_range q r ≡ true → q ≡ r

same_or : (q r : Range) → SameOr q r
same_or q r = record {
  same = λ e. rw (e, eq-eqb r.start r.start refl, eq-eqb r.len r.len refl) refl;
  only = λ h. elim (cases_eq q.start r.start) [
    | inl a ↦ elim (cases_eq q.len r.len) [
      | inl b ↦ ap₂ (λ s l. let x : Range = record { start = s; len = l } in x) a b
      | inr ne ↦ absurd (let f = ne_eqb q.len r.len ne in let g : false ≡ true = rw (eq-eqb q.start r.start a, f) at h in cc)
    ]
    | inr ne ↦ absurd (let f = ne_eqb q.start r.start ne in let g : false ≡ true = rw f at h in cc)
  ];
}

among-contains : (qs : List Range) (r : Range) → is_among qs r ≡ true → Contains qs r
among-contains [] r h = cc
among-contains (q ∷ qs) r h = elim (cases_Bool (same_range q r)) [
  | inl hit ↦ (0, omega arith, (same_or q r).only hit)
  | inr miss ↦ Contains-append_right (q ∷ []) qs r (among-contains qs r (rw miss at h))
]

contains-among : (qs : List Range) (r : Range) → Contains qs r → is_among qs r ≡ true
contains-among [] r h = absurd (omega (arith, h.1))
contains-among (q ∷ qs) r h = elim (cases_Bool (same_range q r)) [
  | inl hit ↦ rw hit refl
  | inr miss ↦ elim (Contains-append_cases (q ∷ []) qs r h) [
    | inl (zero, within, here) ↦ let both = (same_or q r).same here in cc
    | inl (suc k, within, here) ↦ absurd (omega arith)
    | inr later ↦ rw miss (contains-among qs r later)
  ]
]

-- a range of the new shape is an old one where it ends within the old readings
pub stays : (n m : ℕ) (r : Range) → n ≤ m → Contains (shape m) r → r.start + r.len ≤ n → Contains (shape n) r
stays n m r le has ends =
    let a = (shape-aligned m r).0 has in
    let wide : 0 < room a.level = omega (arith, pow_pos a.level) in
    (shape-aligned n r).1 (record { level = a.level; row = a.row; starts = a.starts; within = omega (arith, a.within, a.spans); spans = omega (arith, a.within, a.spans) })

old-ends : (n : ℕ) (r : Range) → Contains (shape n) r → r.start + r.len ≤ n
old-ends n r has = let a = (shape-aligned n r).0 has in omega (arith, a.within, a.spans)

lacking-behind : (n m : ℕ) (rs : List Range) → n ≤ m → ((r : Range) → Contains rs r → Contains (shape m) r) → lacking (shape n) rs ≡ behind n rs
lacking-behind n m [] le all = refl
lacking-behind n m (r ∷ rs) le all =
    let rest = lacking-behind n m rs le (λ q h. all q (Contains-append_right (r ∷ []) rs q h)) in
    let here = all r (0, omega arith, refl) in
    elim (cases_lt n (r.start + r.len)) [
      | inl past ↦ elim (cases_Bool (is_among (shape n) r)) [
        | inl old ↦ absurd (omega (arith, past, old-ends n r (among-contains (shape n) r old)))
        | inr new ↦ let one = ends_behind n (r.start + r.len) past in rw new (omega (arith, one, rest))
      ]
      | inr before ↦
          let old = contains-among (shape n) r (stays n m r le here before) in
          let none = ends_before n (r.start + r.len) before in rw old (omega (arith, none, rest))
    ]

pub made-behind : (n m : ℕ) → n ≤ m → made n m ≡ behind n (shape m)
made-behind n m le = lacking-behind n m (shape m) le (λ r h. h)

pub made-self : NoneAreMade
made-self zero = refl
made-self (suc n) = made-behind (suc n) (suc n) (omega arith) ∙ behind_none (suc n) 0 (suc n) (omega arith)

few_behind : (n m : ℕ) → n < m → m ≤ 2 ^ 20 → behind n (ranges (plan 0 m)) ≤ 2 * ((m + 15) / 16 - n / 16) + 16
few_behind n m lt few = omega (arith, ap (λ p. behind n (ranges p)) (plan_is 16 0 m (omega arith)), behind-le n 16 0 m (omega arith) (omega arith) (omega arith))

pub few-made : FewAreMade
few-made n zero few = omega (arith, ap (made n) (let e : n + 0 ≡ n = omega arith in e), made-self n)
few-made n (suc k) few =
    let some : 0 < n + suc k = omega arith in
    omega (arith, made-behind n (n + suc k) (omega arith), ap (behind n) (shape-plan (n + suc k) some), few_behind n (n + suc k) (omega arith) few)

-- the tree of a series that had no readings is made whole
pub made-whole : (m : ℕ) → made 0 m ≡ node_count m
made-whole zero = refl
made-whole (suc m) = made-behind 0 (suc m) (omega arith) ∙ behind_all 0 0 (suc m) (omega arith) (omega arith) ∙ count-plan 0 (suc m) (omega arith)

-- ---- the grown tree is a tree

found-range : (gs : List Seg) (r : Range) (g : Seg) → find_seg gs r ≡ Some g → (g.start ≡ r.start) × (g.len ≡ r.len)
found-range [] r g e = cc
found-range (x ∷ gs) r g e = elim (cases_eq x.start r.start) [
  | inl a ↦ elim (cases_eq x.len r.len) [
    | inl b ↦
        let both : Some x ≡ Some g = rw (eq-eqb x.start r.start a, eq-eqb x.len r.len b) at e in
        let same = same_Some x g both in
        (ap (λ (y : Seg). y.start) (sym same) ∙ a, ap (λ (y : Seg). y.len) (sym same) ∙ b)
    | inr ne ↦ found-range gs r g (rw (eq-eqb x.start r.start a, ne_eqb x.len r.len ne) at e)
  ]
  | inr ne ↦ found-range gs r g (rw (ne_eqb x.start r.start ne) at e)
]

-- each range of a tree is that of a part
record HasPart (t : SegTree) (r : Range) : Type 0 where
  part : SegTree
  is_part : IsPartOf part t
  at : range_of part ≡ r

part-of-range : (t : SegTree) (r : Range) → Contains (ranges (plan_of t)) r → HasPart t r
part-of-range (tip g xs) r (zero, within, here) = record { part = tip g xs; is_part = refl; at = here }
part-of-range (tip g xs) r (suc k, within, here) = absurd (omega arith)
part-of-range (node g left right) r has = elim (Contains-append_cases (range_of (node g left right) ∷ []) (ranges (plan_of left) ++ ranges (plan_of right)) r has) [
  | inl (zero, within, here) ↦ record { part = node g left right; is_part = inl refl; at = here }
  | inl (suc k, within, here) ↦ absurd (omega arith)
  | inr more ↦ elim (Contains-append_cases (ranges (plan_of left)) (ranges (plan_of right)) r more) [
    | inl a ↦ let p = part-of-range left r a in record { part = p.part; is_part = inr (inl p.is_part); at = p.at }
    | inr b ↦ let p = part-of-range right r b in record { part = p.part; is_part = inr (inr p.is_part); at = p.at }
  ]
]

pub front_readings : (xs : List ℤ) (start len old : ℕ) → start + len ≤ old → take len (drop start (take old xs)) ≡ take len (drop start xs)
front_readings xs start len old le =
    let e : old ≡ start + (old - start) = omega arith in
    ap (λ n. take len (drop start (take n xs))) e ∙ ap (take len) (drop-take start (old - start) xs) ∙ take-take len (old - start) (drop start xs) (omega arith)

-- f tells a true segment of a range
record IsToldTrue (f : Range → Seg) (xs : List ℤ) (r : Range) : Type 0 where
  starts : (f r).start ≡ r.start
  spans : (f r).len ≡ r.len
  is_true : IsTrueOf (readings_in xs r) (f r)

range-some : (m : ℕ) (r : Range) → Contains (shape m) r → 0 < r.len
range-some m r has = let a = (shape-aligned m r).0 has in omega (arith, a.within, a.spans, pow_pos a.level)

long-in : (xs : List ℤ) (r : Range) → r.start + r.len ≤ length xs → length (readings_in xs r) ≡ r.len
long-in xs r le = length-take-le r.len (drop r.start xs) (omega (arith, length-drop r.start xs))

told-true : (degree n : ℕ) (t : SegTree) (xs : List ℤ) (r : Range) → IsTreeOver n t → take n xs ≡ readings_of t → n ≤ length xs → Contains (shape (length xs)) r → IsToldTrue (kept_or_fit degree xs (segs_of t)) xs r
told-true degree n t xs r over front le has = elim (cases_lt n (r.start + r.len)) [
  | inl past ↦
      let is : kept_or_fit degree xs (segs_of t) r ≡ fit_over degree xs r = told-behind degree n t xs over r past in
      let long = long-in xs r (old-ends (length xs) r has) in
      record {
        starts = ap (λ (g : Seg). g.start) is;
        spans = ap (λ (g : Seg). g.len) is ∙ long;
        is_true = subst (IsTrueOf (readings_in xs r)) (sym is) (fit-true degree r.start (readings_in xs r) (omega (arith, long, range-some (length xs) r has)));
      }
  | inr before ↦
      let old = stays n (length xs) r le has before in
      let p = part-of-range t r (subst (λ rs. Contains rs r) (shape-plan n over.some ∙ ap ranges (sym over.shaped)) old) in
      let found : find_seg (segs_of t) r ≡ Some (root_of p.part) = subst (λ q. find_seg (segs_of t) q ≡ Some (root_of p.part)) p.at (part-found n t p.part over p.is_part) in
      let is : kept_or_fit degree xs (segs_of t) r ≡ root_of p.part = rw found refl in
      let readings : readings_of p.part ≡ readings_in xs r =
      sym (part-readings n t p.part over p.is_part)
      ∙ ap (λ (q : Range). take q.len (drop q.start (readings_of t))) p.at
      ∙ ap (λ ys. take r.len (drop r.start ys)) (sym front)
      ∙ front_readings xs r.start r.len n before in
      let both = found-range (segs_of t) r (root_of p.part) found in
      record {
        starts = ap (λ (g : Seg). g.start) is ∙ both.0;
        spans = ap (λ (g : Seg). g.len) is ∙ both.1;
        is_true = subst (IsTrueOf (readings_in xs r)) (sym is) (subst (λ ys. IsTrueOf ys (root_of p.part)) readings (root-true p.part (AllTrue-part t p.part over.all_true p.is_part)));
      }
]

-- a tree that is told truly
record IsTold (p : Plan) (t : SegTree) : Type 0 where
  shaped : plan_of t ≡ p
  all_true : AllTrue t

told-below : (f : Range → Seg) (xs : List ℤ) (h start len : ℕ) → ((r : Range) → Contains (ranges (plan_below h start len)) r → IsToldTrue f xs r) → 0 < len → len ≤ room h
    → IsTold (plan_below h start len) (tree_by f (plan_below h start len) (take len (drop start xs)))
unfolding plan_below
told-below f xs zero start len all some fits_in =
    let root = all (record { start = start; len = len }) (0, omega arith, refl) in
    record { shaped = ap₂ leaf root.starts root.spans; all_true = root.is_true }
told-below f xs (suc h) start len all some fits_in = elim (cases_lt (room h) len) [
  | inr low ↦
      let e = plan_below_low h start len low in
      subst (λ p. IsTold p (tree_by f p (take len (drop start xs)))) (sym e) (told-below f xs h start len (λ r has. all r (subst (λ p. Contains (ranges p) r) (sym e) has)) some low)
  | inl high ↦
      let e = plan_below_high h start len high in
      let left = plan_below h start (room h) in
      let right = plan_below h (start + room h) (len - room h) in
      let own : Range = record { start = start; len = len } in
      let up : (r : Range) → Contains (own ∷ ranges left ++ ranges right) r → IsToldTrue f xs r = λ r has. all r (subst (λ p. Contains (ranges p) r) (sym e) has) in
      let ys = take len (drop start xs) in
      let root = up own (0, omega arith, refl) in
      let l = told-below f xs h start (room h) (λ r has. up r (Contains-append_right (own ∷ []) (ranges left ++ ranges right) r (Contains-append_left (ranges left) (ranges right) r has))) (omega (arith, pow_pos h)) (omega arith) in
      let r = told-below f xs h (start + room h) (len - room h) (λ r has. up r (Contains-append_right (own ∷ []) (ranges left ++ ranges right) r (Contains-append_right (ranges left) (ranges right) r has))) (omega arith) (omega (arith, room-suc h)) in
      let w = width-below h start (room h) in
      let front : take (width left) ys ≡ take (room h) (drop start xs) = ap (λ k. take k ys) w ∙ left_readings xs start len (room h) (omega arith) in
      let back : drop (width left) ys ≡ take (len - room h) (drop (start + room h) xs) = ap (λ k. drop k ys) w ∙ right_readings xs start len (room h) (omega arith) in
      let lt : IsTold left (tree_by f left (take (width left) ys)) = rw front l in
      let rt : IsTold right (tree_by f right (drop (width left) ys)) = rw back r in
      let whole : ys ≡ readings_of (tree_by f left (take (width left) ys)) ++ readings_of (tree_by f right (drop (width left) ys)) =
      sym (ap₂ ◌++◌ (readings-tree_by f left (take (width left) ys)) (readings-tree_by f right (drop (width left) ys)) ∙ take-append-drop (width left) ys) in
      subst (λ p. IsTold p (tree_by f p ys)) (sym e) (record {
        shaped = ap₂ (λ s n. fork s n (plan_of (tree_by f left (take (width left) ys))) (plan_of (tree_by f right (drop (width left) ys)))) root.starts root.spans ∙ ap₂ (fork start len) lt.shaped rt.shaped;
        all_true = (subst (λ zs. IsTrueOf zs (f own)) whole root.is_true, lt.all_true, rt.all_true);
      })
]

-- the tree that keeps what was there and fits the rest
pub grown-over : (degree n : ℕ) (t : SegTree) (xs : List ℤ) → IsTreeOver n t → take n xs ≡ readings_of t → n ≤ length xs → length xs ≤ 2 ^ 20 → AreReadings xs
    → IsTreeOver (length xs) (tree_by (kept_or_fit degree xs (segs_of t)) (plan 0 (length xs)) xs)
unfolding plan
grown-over degree n t xs over front le few small =
    let f : Range → Seg = kept_or_fit degree xs (segs_of t) in
    let some : 0 < length xs = omega (arith, over.some) in
    let readings = readings-tree_by f (plan 0 (length xs)) xs in
    let told : IsTold (plan 0 (length xs)) (tree_by f (plan 0 (length xs)) (take (length xs) xs)) =
    told-below f xs (length xs) 0 (length xs) (λ r has. told-true degree n t xs r over front le (subst (λ rs. Contains rs r) (sym (shape-plan (length xs) some)) has)) some (omega (arith, enough (length xs))) in
    let same = subst (λ ys. IsTold (plan 0 (length xs)) (tree_by f (plan 0 (length xs)) ys)) (take_all (length xs) xs (omega arith)) told in
    record {
      some = some;
      few = few;
      shaped = same.shaped;
      long = ap length readings;
      small = subst AreReadings (sym readings) small;
      all_true = same.all_true;
    }

-- Where the record of a node stands in the bytes of a tree.
use Rattle.std.proofs.Common.{◌≡◌, ℕ, zero, suc, ◌+◌, ◌-◌, ◌^◌, ◌<◌, ◌≤◌, ◌↔◌, ◌&&◌, ◌⊎◌, Bool, true, false, if◌then◌else◌, List, [], ◌∷◌, ◌++◌, length, take, drop, Option, Some, None, refl, sym, ap, ap₂, subst, ◌∙◌, inl, inr, arith, eq-eqb, length-take, length-drop, true≢false}
use Rattle.std.specs.Prelude.{◌==◌, IsSome, IfSome}
use Rattle.std.specs.List.{Contains}
use Rattle.std.proofs.Math.Seq.{drop-append-le, drop-append-add, take-append-le}
use Rattle.std.proofs.lemmas.Bool.{cases_Bool}
use Rattle.std.proofs.lemmas.Bool.Decides.{Decides-eqb}
use Rattle.std.proofs.lemmas.List.Elements.{Contains-append_left, Contains-append_right, Contains-append_cases}
use Rattle.segment.specs.declared.segments.Seg.{Seg}
use Rattle.segment.specs.Nodes.{find_seg}
use Rattle.segment.specs.Shape.{Range, Plan, leaf, fork, plan, ranges, shape, IsSplit}
use Rattle.segment.specs.Tree.{SegTree, tip, node, segs_of, plan_of, width}
use Rattle.segment.proofs.ShapeLaws.{plan-leaf, plan-fork}
use Rattle.tree_file.specs.Image.{words, image, size, tree_size}
use Rattle.tree_file.specs.Laws.{RecordStands}
use Rattle.tree_file.specs.Offsets.{range, is_range, moved, first_of, offset_in, record_offset}
use Rattle.tree_file.specs.Record.{record_of}
use Rattle.tree_file.proofs.ImageLaws.{Fits, size-image, take_front}
use Rattle.tree_file.proofs.PlanLaws.{Covers, covers-plan, size-plan, size-tree_size, split_some}
use Rattle.tree_file.proofs.RecordLaws.{length-record_of}
use Rattle.tree_file.proofs.TrueTrees.{Fits-tree}

both : (a b : Bool) → a && b ≡ true → (a ≡ true) × (b ≡ true)
both true b e = (refl, e)
both false b e = cc

range-is : (start len : ℕ) (r : Range) → is_range start len r ≡ true → range start len ≡ r
range-is start len r e =
    let (starts, spans) = both (start == r.start) (len == r.len) e in
    ap₂ range ((Decides-eqb start r.start).0 starts) ((Decides-eqb len r.len).0 spans)

is-range : (start len : ℕ) (r : Range) → range start len ≡ r → is_range start len r ≡ true
is-range start len r e = subst (λ q. is_range start len q ≡ true) e (rw (eq-eqb start start refl, eq-eqb len len refl) refl)

-- ---- there is an offset exactly where the shape has the range

some_of : (o : Option ℕ) → IsSome o → (k : ℕ) × (o ≡ Some k)
some_of None h = absurd (true≢false (sym h))
some_of (Some k) h = (k, refl)

none_of : (o : Option ℕ) → ((k : ℕ) → o ≡ Some k → ⊥) → o ≡ None
none_of None h = refl
none_of (Some k) h = absurd (h k refl)

IsSome-of : (o : Option ℕ) (k : ℕ) → o ≡ Some k → IsSome o
IsSome-of None k e = cc
IsSome-of (Some j) k e = refl

moved-some : (by : ℕ) (o : Option ℕ) (k : ℕ) → moved by o ≡ Some k → (j : ℕ) × (o ≡ Some j) × (k ≡ j + by)
moved-some by None k e = cc
moved-some by (Some j) k e = (j, refl, cc)

first-some : (o p : Option ℕ) (k : ℕ) → first_of o p ≡ Some k → (o ≡ Some k) ⊎ (p ≡ Some k)
first-some None p k e = inr e
first-some (Some j) p k e = inl e

chosen : (b : Bool) (o : Option ℕ) (k : ℕ) → (if b then Some 0 else o) ≡ Some k → (b ≡ true) ⊎ (o ≡ Some k)
chosen true o k e = inl refl
chosen false o k e = inr e

in_front : (start len : ℕ) (r : Range) (rs : List Range) → is_range start len r ≡ true → Contains (range start len ∷ rs) r
in_front start len r rs e = (0, omega arith, range-is start len r e)

behind : (q r : Range) (rs : List Range) → Contains rs r → Contains (q ∷ rs) r
behind q r rs h = Contains-append_right (q ∷ []) rs r h

Contains-offset : (p : Plan) (r : Range) (k : ℕ) → offset_in p r ≡ Some k → Contains (ranges p) r
Contains-offset (leaf start len) r k e = elim (chosen (is_range start len r) None k e) [
  | inl same ↦ in_front start len r [] same
  | inr none ↦ cc
]
Contains-offset (fork start len left right) r k e = elim (chosen (is_range start len r) _ k e) [
  | inl same ↦ in_front start len r (ranges left ++ ranges right) same
  | inr part ↦ elim (first-some (moved 56 (offset_in left r)) (moved (56 + size left) (offset_in right r)) k part) [
    | inl l ↦
        let (j, at, _) = moved-some 56 (offset_in left r) k l in
        behind (range start len) r (ranges left ++ ranges right) (Contains-append_left (ranges left) (ranges right) r (Contains-offset left r j at))
    | inr l ↦
        let (j, at, _) = moved-some (56 + size left) (offset_in right r) k l in
        behind (range start len) r (ranges left ++ ranges right) (Contains-append_right (ranges left) (ranges right) r (Contains-offset right r j at))
  ]
]

-- there is one
abbrev HasOffset : Option ℕ → Type 0
HasOffset o = (k : ℕ) × (o ≡ Some k)

if-has : (b : Bool) (o : Option ℕ) → (b ≡ false → HasOffset o) → HasOffset (if b then Some 0 else o)
if-has true o h = (0, refl)
if-has false o h = h refl

first-has : (o p : Option ℕ) → HasOffset p → HasOffset (first_of o p)
first-has None p h = h
first-has (Some k) p h = (k, refl)

first-left : (by : ℕ) (o p : Option ℕ) → HasOffset o → HasOffset (first_of (moved by o) p)
first-left by None p h = absurd (let e = h.1 in cc)
first-left by (Some k) p h = (k + by, refl)

moved-has : (by : ℕ) (o : Option ℕ) → HasOffset o → HasOffset (moved by o)
moved-has by o h = (h.0 + by, ap (moved by) h.1)

Contains-cons : (q r : Range) (rs : List Range) → Contains (q ∷ rs) r → (q ≡ r) ⊎ Contains rs r
Contains-cons q r rs (zero, lt, e) = inl e
Contains-cons q r rs (suc k, lt, e) = inr (k, omega (arith, lt), e)

isnt : (start len : ℕ) (r : Range) → range start len ≡ r → is_range start len r ≡ false → ⊥
isnt start len r e f = let t = is-range start len r e in cc

offset-Contains : (p : Plan) (r : Range) → Contains (ranges p) r → HasOffset (offset_in p r)
offset-Contains (leaf start len) r h = if-has (is_range start len r) None (λ f. elim (Contains-cons (range start len) r [] h) [
  | inl e ↦ absurd (isnt start len r e f)
  | inr rest ↦ absurd (let lt = rest.1 in omega (arith, lt))
])
offset-Contains (fork start len left right) r h = if-has (is_range start len r) _ (λ f. elim (Contains-cons (range start len) r (ranges left ++ ranges right) h) [
  | inl e ↦ absurd (isnt start len r e f)
  | inr rest ↦ elim (Contains-append_cases (ranges left) (ranges right) r rest) [
    | inl l ↦ first-left 56 (offset_in left r) _ (offset-Contains left r l)
    | inr l ↦ first-has (moved 56 (offset_in left r)) _ (moved-has (56 + size left) (offset_in right r) (offset-Contains right r l))
  ]
])

pub found-offset : (n : ℕ) (r : Range) → IsSome (record_offset n r) ↔ Contains (shape n) r
found-offset zero r = (λ h. absurd (true≢false (sym h)), λ h. absurd (let lt = h.1 in omega (arith, lt)))
found-offset (suc n) r = (
  λ h. let (k, e) = some_of (offset_in (plan 0 (suc n)) r) h in Contains-offset (plan 0 (suc n)) r k e,
  λ h. let (k, e) = offset-Contains (plan 0 (suc n)) r h in IsSome-of (offset_in (plan 0 (suc n)) r) k e,
)

-- ---- the offset leads to the record

-- a segment and its record's offset in these bytes, or neither
abbrev Finds : List ℕ → Option Seg → Option ℕ → Type 0
Finds bytes None None = Unit {0}
Finds bytes None (Some k) = ⊥
Finds bytes (Some g) None = ⊥
Finds bytes (Some g) (Some k) = take 56 (drop k bytes) ≡ record_of g

finds-first : (b : Bool) (g : Seg) (rest : List ℕ) (o : Option Seg) (p : Option ℕ) → Finds (record_of g ++ rest) o p → Finds (record_of g ++ rest) (if b then Some g else o) (if b then Some 0 else p)
finds-first true g rest o p h = take_front (record_of g) rest 56 (length-record_of g)
finds-first false g rest o p h = h

part-record : (k : ℕ) (bytes more : List ℕ) (g : Seg) → take 56 (drop k bytes) ≡ record_of g → take 56 (drop k (bytes ++ more)) ≡ record_of g
part-record k bytes more g h =
    let long : length (take 56 (drop k bytes)) ≡ 56 = ap length h ∙ length-record_of g in
    let room : k + 56 ≤ length bytes = omega (arith, long, length-take 56 (drop k bytes), length-drop k bytes) in
    ap (take 56) (drop-append-le k bytes more (omega arith)) ∙ take-append-le 56 (drop k bytes) more (omega (arith, length-drop k bytes)) ∙ h

past-record : (k n : ℕ) (front bytes : List ℕ) (g : Seg) → length front ≡ n → take 56 (drop k bytes) ≡ record_of g → take 56 (drop (k + n) (front ++ bytes)) ≡ record_of g
past-record k n front bytes g long h =
    let e : k + n ≡ length front + k = omega (arith, long) in
    ap (λ j. take 56 (drop j (front ++ bytes))) e ∙ ap (take 56) (drop-append-add front bytes k) ∙ h

finds-both : (head left right : List ℕ) (n : ℕ) (o1 o2 : Option Seg) (p1 p2 : Option ℕ) → length head ≡ 56 → length left ≡ n → Finds left o1 p1 → Finds right o2 p2
    → Finds (head ++ (left ++ right)) (first_of o1 o2) (first_of (moved 56 p1) (moved (56 + n) p2))
finds-both head left right n None None None None h l f1 f2 = tt
finds-both head left right n None (Some g) None None h l f1 f2 = absurd f2
finds-both head left right n None None None (Some k) h l f1 f2 = absurd f2
finds-both head left right n None (Some g) None (Some k) h l f1 f2 =
    let e : k + (56 + n) ≡ (k + n) + 56 = omega arith in
    ap (λ j. take 56 (drop j (head ++ (left ++ right)))) e ∙ past-record (k + n) 56 head (left ++ right) g h (past-record k n left right g l f2)
finds-both head left right n None o2 (Some k) p2 h l f1 f2 = absurd f1
finds-both head left right n (Some g) o2 None p2 h l f1 f2 = absurd f1
finds-both head left right n (Some g) o2 (Some k) p2 h l f1 f2 = past-record k 56 head (left ++ right) g h (part-record k left right g f1)

either : (b : Bool) (x : Seg) (o p : Option Seg) → (if b then Some x else first_of o p) ≡ first_of (if b then Some x else o) p
either true x o p = refl
either false x o p = refl

find-append : (xs ys : List Seg) (r : Range) → find_seg (xs ++ ys) r ≡ first_of (find_seg xs r) (find_seg ys r)
find-append [] ys r = refl
find-append (g ∷ gs) ys r =
    ap (λ o. if is_range g.start g.len r then Some g else o) (find-append gs ys r) ∙ either (is_range g.start g.len r) g (find_seg gs r) (find_seg ys r)

finds : (t : SegTree) (r : Range) → Fits t → Finds (image t) (find_seg (segs_of t) r) (offset_in (plan_of t) r)
finds (tip g xs) r fits = finds-first (is_range g.start g.len r) g (words xs) None None tt
finds (node g left right) r fits =
    let parts = finds-both (record_of g) (image left) (image right) (size (plan_of left)) (find_seg (segs_of left) r) (find_seg (segs_of right) r) (offset_in (plan_of left) r) (offset_in (plan_of right) r)
    (length-record_of g) (size-image left fits.1) (finds left r fits.1) (finds right r fits.2) in
    finds-first (is_range g.start g.len r) g (image left ++ image right) (find_seg (segs_of left ++ segs_of right) r)
    (first_of (moved 56 (offset_in (plan_of left) r)) (moved (56 + size (plan_of left)) (offset_in (plan_of right) r)))
    (subst (λ o. Finds (image (node g left right)) o (first_of (moved 56 (offset_in (plan_of left) r)) (moved (56 + size (plan_of left)) (offset_in (plan_of right) r)))) (sym (find-append (segs_of left) (segs_of right) r)) parts)

shaped-offset : (n k : ℕ) (r : Range) → record_offset n r ≡ Some k → offset_in (plan 0 n) r ≡ Some k
shaped-offset zero k r e = cc
shaped-offset (suc n) k r e = e

pub record-stands : RecordStands
record-stands n k t r g over found at =
    let here : offset_in (plan_of t) r ≡ Some k = ap (λ p. offset_in p r) over.shaped ∙ shaped-offset n k r at in
    let f = finds t r (Fits-tree n t over) in
    let q : Finds (image t) (Some g) (offset_in (plan_of t) r) = subst (λ o. Finds (image t) o (offset_in (plan_of t) r)) found f in
    subst (Finds (image t) (Some g)) here q

-- ---- one way down

-- a range of the plan lies where the plan does, and its record within the bytes
pub record Within (s n bytes k : ℕ) (r : Range) : Type 0 where
  pub from : s ≤ r.start
  pub to : r.start < s + n
  pub room : k + 56 ≤ bytes

within : (p : Plan) (s n k : ℕ) (r : Range) → Covers s n p → offset_in p r ≡ Some k → Within s n (size p) k r
within (leaf start len) s n k r covers e = elim (chosen (is_range start len r) None k e) [
  | inr none ↦ cc
  | inl same ↦
      let starts : start ≡ r.start = ap (λ (q : Range). q.start) (range-is start len r same) in
      let first : Some 0 ≡ Some k = sym (ap (λ b. if b then Some 0 else None) same) ∙ e in
      let none : k ≡ 0 = cc in
      record { from = omega (arith, covers.0, starts); to = omega (arith, covers.0, covers.2, starts); room = omega (arith, none) }
]
within (fork start len left right) s n k r covers e = elim (cases_Bool (is_range start len r)) [
  | inl same ↦
      let starts : start ≡ r.start = ap (λ (q : Range). q.start) (range-is start len r same) in
      let first : Some 0 ≡ Some k = sym (ap (λ b. if b then Some 0 else first_of (moved 56 (offset_in left r)) (moved (56 + size left) (offset_in right r))) same) ∙ e in
      let none : k ≡ 0 = cc in
      record { from = omega (arith, covers.0, starts); to = omega (arith, covers.0, covers.2, starts); room = omega (arith, none) }
  | inr other ↦
      let part : first_of (moved 56 (offset_in left r)) (moved (56 + size left) (offset_in right r)) ≡ Some k = sym (ap (λ b. if b then Some 0 else first_of (moved 56 (offset_in left r)) (moved (56 + size left) (offset_in right r))) other) ∙ e in
      elim (first-some (moved 56 (offset_in left r)) (moved (56 + size left) (offset_in right r)) k part) [
        | inl l ↦
            let (j, at, is) = moved-some 56 (offset_in left r) k l in
            let w = within left s (width left) j r covers.3 at in
            record { from = w.from; to = omega (arith, w.to, covers.2); room = omega (arith, w.room, is) }
        | inr l ↦
            let (j, at, is) = moved-some (56 + size left) (offset_in right r) k l in
            let w = within right (s + width left) (n - width left) j r covers.4 at in
            record { from = omega (arith, w.from); to = omega (arith, w.to, covers.2); room = omega (arith, w.room, is) }
      ]
]

top-test : (p : Plan) (s n : ℕ) (r : Range) → Covers s n p → is_range s n r ≡ true → offset_in p r ≡ Some 0
top-test (leaf start len) s n r h same = ap (λ b. if b then Some 0 else None) (ap₂ (λ a b. is_range a b r) h.0 h.1 ∙ same)
top-test (fork start len left right) s n r h same =
    ap (λ b. if b then Some 0 else first_of (moved 56 (offset_in left r)) (moved (56 + size left) (offset_in right r))) (ap₂ (λ a b. is_range a b r) h.0 h.1 ∙ same)

pub offset-root : (s n : ℕ) (r : Range) → 0 < n → is_range s n r ≡ true → offset_in (plan s n) r ≡ Some 0
offset-root s n r some same = top-test (plan s n) s n r (covers-plan s n some) same

pub offset-leaf : (s n : ℕ) (r : Range) → n ≤ 16 → is_range s n r ≡ false → offset_in (plan s n) r ≡ None
offset-leaf s n r short other = ap (λ p. offset_in p r) (plan-leaf s n short) ∙ ap (λ b. if b then Some 0 else None) other

offset-fork : (s n k : ℕ) (r : Range) → IsSplit n k → is_range s n r ≡ false
    → offset_in (plan s n) r ≡ first_of (moved 56 (offset_in (plan s k) r)) (moved (56 + tree_size k) (offset_in (plan (s + k) (n - k)) r))
offset-fork s n k r split other =
    let left = offset_in (plan s k) r in
    let right = offset_in (plan (s + k) (n - k)) r in
    ap (λ p. offset_in p r) (plan-fork s n k split)
    ∙ ap (λ b. if b then Some 0 else first_of (moved 56 left) (moved (56 + size (plan s k)) right)) other
    ∙ ap (λ z. first_of (moved 56 left) (moved (56 + z) right)) (size-tree_size s k (split_some n k split))

first-none : (o : Option ℕ) → first_of o None ≡ o
first-none None = refl
first-none (Some k) = refl

pub offset-left : (s n k : ℕ) (r : Range) → IsSplit n k → is_range s n r ≡ false → r.start < s + k → offset_in (plan s n) r ≡ moved 56 (offset_in (plan s k) r)
offset-left s n k r split other lt =
    let none : offset_in (plan (s + k) (n - k)) r ≡ None =
    none_of (offset_in (plan (s + k) (n - k)) r) (λ j e. let w = within (plan (s + k) (n - k)) (s + k) (n - k) j r (covers-plan (s + k) (n - k) (omega (arith, split.below))) e in omega (arith, w.from)) in
    offset-fork s n k r split other
    ∙ ap (λ o. first_of (moved 56 (offset_in (plan s k) r)) (moved (56 + tree_size k) o)) none
    ∙ first-none (moved 56 (offset_in (plan s k) r))

pub offset-right : (s n k : ℕ) (r : Range) → IsSplit n k → is_range s n r ≡ false → s + k ≤ r.start → offset_in (plan s n) r ≡ moved (56 + tree_size k) (offset_in (plan (s + k) (n - k)) r)
offset-right s n k r split other le =
    let none : offset_in (plan s k) r ≡ None =
    none_of (offset_in (plan s k) r) (λ j e. let w = within (plan s k) s k j r (covers-plan s k (split_some n k split)) e in omega (arith, w.to)) in
    offset-fork s n k r split other
    ∙ ap (λ o. first_of (moved 56 o) (moved (56 + tree_size k) (offset_in (plan (s + k) (n - k)) r))) none

pub offset-small : (s n : ℕ) (r : Range) (o : Option ℕ) → 0 < n → n ≤ 2 ^ 20 → o ≡ offset_in (plan s n) r → IfSome o (λ k. k ≤ 2 ^ 24)
offset-small s n r None some few e = tt
offset-small s n r (Some k) some few e =
    let w = within (plan s n) s n k r (covers-plan s n some) (sym e) in
    omega (arith, w.room, size-plan s n some)

pub offset-whole : (n : ℕ) (r : Range) → 0 < n → offset_in (plan 0 n) r ≡ record_offset n r
offset-whole zero r some = absurd (omega arith)
offset-whole (suc n) r some = refl

-- From a row to its node.
use Rattle.std.proofs.Common.{◌≡◌, ℕ, ◌+◌, ◌-◌, ◌<◌, ◌≤◌, ◌⊎◌, ◌&&◌, cond, Bool, true, false, inl, inr, ℤ, List, take, drop, Some, None, refl, sym, ap, ap₂, subst, ◌∙◌}
use Rattle.std.specs.Prelude.{◌==◌}
use Rattle.std.proofs.Math.Dec.{ltb}
use Rattle.std.specs.Option.{option_and_then}
use Rattle.std.proofs.lemmas.Bool.{cases_Bool, cases_lt, eqb-true, lt-ltb, le-ltb}
use Rattle.segment.specs.declared.segments.Seg.{Seg}
use Rattle.segment.specs.Measure.{AreReadings}
use Rattle.segment.specs.Shape.{leaf, fork, plan, IsSplit}
use Rattle.segment.specs.Tree.{SegTree, tip, node, readings_of, root_of, plan_of, IsPartOf, IsTreeOver}
use Rattle.segment.proofs.PartLaws.{part-readings, start-plan, span-plan}
use Rattle.segment.proofs.ReadingLaws.{AreReadings-drop, AreReadings-take}
use Rattle.segment.proofs.ShapeLaws.{plan-leaf, plan-fork, split_exists}
use Rattle.seg_tree.specs.Linked.{Places, node_at, kept, left_child, right_child}
use Rattle.seg_tree.proofs.Extended.{fork_at, leaf_at}
use Rattle.descent.specs.Descents.{opened, row_of}
use Rattle.descent.specs.Rows.{segs_given, segs_of_row, units}
use Rattle.answer_check.specs.Certificate.{Triple}
use Rattle.answer_check.specs.Verdict.{as_node, has_range, node_for, part_with}
use Rattle.answer_check.specs.Walked.{tree_over, node_over, IsOver}

-- ---- ranges

both-true : (a b : Bool) → (a && b) ≡ true → (a ≡ true) × (b ≡ true)
both-true true b h = (refl, h)
both-true false b h = cc

pub same-range : (a b c d : ℕ) → ((a == c) && (b == d)) ≡ true → (a ≡ c) × (b ≡ d)
same-range a b c d h = let t = both-true (a == c) (b == d) h in (eqb-true a c t.0, eqb-true b d t.1)

range-of : (start len : ℕ) (t : SegTree) (row : Triple) → plan_of t ≡ plan start len → has_range (root_of t) row ≡ ((start == row.0) && (len == row.1))
range-of start len t row shaped = ap₂ (λ a b. (a == row.0) && (b == row.1)) (start-plan start len t shaped) (span-plan start len t shaped)

-- ---- the part with a range

pub part-here : (row : Triple) (t : SegTree) → has_range (root_of t) row ≡ true → part_with row t ≡ Some t
part-here row (tip g xs) h = rw h refl
part-here row (node g l r) h = rw h refl

pub part-tip : (row : Triple) (g : Seg) (xs : List ℤ) → has_range g row ≡ false → part_with row (tip g xs) ≡ None
part-tip row g xs h = rw h refl

pub part-node : (row : Triple) (g : Seg) (l r : SegTree) → has_range g row ≡ false
    → part_with row (node g l r) ≡ cond (ltb row.0 (root_of r).start) (part_with row l) (part_with row r)
part-node row g l r h = rw h refl

-- it is a part
pub part-is : (row : Triple) (t part : SegTree) → part_with row t ≡ Some part → IsPartOf part t
part-is row (tip g xs) part e = elim (cases_Bool (has_range g row)) [
  | inl t ↦ let same : Some (tip g xs) ≡ Some part = rw t at e in cc
  | inr f ↦ let none : None ≡ Some part = rw f at e in cc
]
part-is row (node g l r) part e = elim (cases_Bool (has_range g row)) [
  | inl t ↦ let same : Some (node g l r) ≡ Some part = rw t at e in let q : part ≡ node g l r = cc in inl q
  | inr f ↦ below (ltb row.0 (root_of r).start) (λ q. part-is row l part q) (λ q. part-is row r part q) (sym (part-node row g l r f) ∙ e)
]
  where
    below : (b : Bool) → (part_with row l ≡ Some part → IsPartOf part l) → (part_with row r ≡ Some part → IsPartOf part r) → cond b (part_with row l) (part_with row r) ≡ Some part → IsPartOf part (node g l r)
    below true left right q = inr (inl (left q))
    below false left right q = inr (inr (right q))

-- the plans of the children
pub record ArePlans (start len : ℕ) (g : Seg) (l r : SegTree) : Type 0 where
  pub s : ℕ
  pub split : IsSplit len s
  pub left : plan_of l ≡ plan start s
  pub right : plan_of r ≡ plan (start + s) (len - s)

pub plans-below : (start len : ℕ) (g : Seg) (l r : SegTree) → plan_of (node g l r) ≡ plan start len → ArePlans start len g l r
plans-below start len g l r e = elim (cases_lt 16 len) [
  | inr low ↦ let bad : fork g.start g.len (plan_of l) (plan_of r) ≡ leaf start len = e ∙ plan-leaf start len low in cc
  | inl high ↦
      let k = split_exists len high in
      let f : fork g.start g.len (plan_of l) (plan_of r) ≡ fork start len (plan start k.0) (plan (start + k.0) (len - k.0)) = e ∙ plan-fork start len k.0 k.1 in
      let lp : plan_of l ≡ plan start k.0 = cc in
      let rp : plan_of r ≡ plan (start + k.0) (len - k.0) = cc in
      record { s = k.0; split = k.1; left = lp; right = rp }
]

-- and has the range
pub part-shaped : (row : Triple) (start len : ℕ) (t part : SegTree) → plan_of t ≡ plan start len → part_with row t ≡ Some part → plan_of part ≡ plan row.0 row.1
part-shaped row start len (tip g xs) part shaped e = elim (cases_Bool (has_range g row)) [
  | inl t ↦
      let same : Some (tip g xs) ≡ Some part = rw t at e in
      let q : part ≡ tip g xs = cc in
      let at = same-range start len row.0 row.1 (sym (range-of start len (tip g xs) row shaped) ∙ t) in
      ap plan_of q ∙ shaped ∙ ap₂ plan at.0 at.1
  | inr f ↦ let none : None ≡ Some part = rw f at e in cc
]
part-shaped row start len (node g l r) part shaped e = elim (cases_Bool (has_range g row)) [
  | inl t ↦
      let same : Some (node g l r) ≡ Some part = rw t at e in
      let q : part ≡ node g l r = cc in
      let at = same-range start len row.0 row.1 (sym (range-of start len (node g l r) row shaped) ∙ t) in
      ap plan_of q ∙ shaped ∙ ap₂ plan at.0 at.1
  | inr f ↦
      let p = plans-below start len g l r shaped in
      below (ltb row.0 (root_of r).start) (λ q. part-shaped row start p.s l part p.left q) (λ q. part-shaped row (start + p.s) (len - p.s) r part p.right q) (sym (part-node row g l r f) ∙ e)
]
  where
    below : (b : Bool) → (part_with row l ≡ Some part → plan_of part ≡ plan row.0 row.1) → (part_with row r ≡ Some part → plan_of part ≡ plan row.0 row.1) → cond b (part_with row l) (part_with row r) ≡ Some part
        → plan_of part ≡ plan row.0 row.1
    below true left right q = left q
    below false left right q = right q

-- ---- the walk

pub walk-here : (nodes : Places) (p start len : ℕ) (row : Triple) → IsOver nodes p start len → ((start == row.0) && (len == row.1)) ≡ true
    → part_with row (tree_over nodes p start len) ≡ Some (tree_over nodes p row.0 row.1)
walk-here nodes p start len row over h =
    let t = tree_over nodes p start len in
    let at = same-range start len row.0 row.1 h in
    part-here row t (range-of start len t row over.shaped ∙ h) ∙ ap₂ (λ a b. Some (tree_over nodes p a b)) at.0 at.1

pub over-here : (nodes : Places) (p start len : ℕ) (row : Triple) → IsOver nodes p start len → ((start == row.0) && (len == row.1)) ≡ true → IsOver nodes p row.0 row.1
over-here nodes p start len row over h =
    let at = same-range start len row.0 row.1 h in
    subst (λ a. IsOver nodes p a row.1) at.0 (subst (IsOver nodes p start) at.1 over)

pub walk-leaf : (nodes : Places) (p start len : ℕ) (row : Triple) → IsOver nodes p start len → len ≤ 16 → ((start == row.0) && (len == row.1)) ≡ false
    → part_with row (tree_over nodes p start len) ≡ None
walk-leaf nodes p start len row over short h =
    let at = leaf_at nodes p start len short over.linked in
    let g = (node_at nodes p).seg in
    let miss = range-of start len (tree_over nodes p start len) row over.shaped ∙ h in
    let here : has_range g row ≡ false = subst (λ t. has_range (root_of t) row ≡ false) at.content miss in
    ap (part_with row) at.content ∙ part-tip row g (take len (kept (node_at nodes p).below)) here

-- the children's places are over the children
pub record AreOver (nodes : Places) (p start len s : ℕ) : Type 0 where
  pub left : IsOver nodes (left_child (node_at nodes p).below) start s
  pub right : IsOver nodes (right_child (node_at nodes p).below) (start + s) (len - s)
  pub content : tree_over nodes p start len ≡ node (node_at nodes p).seg (tree_over nodes (left_child (node_at nodes p).below) start s) (tree_over nodes (right_child (node_at nodes p).below) (start + s) (len - s))

pub children-over : (nodes : Places) (p start len s : ℕ) → IsOver nodes p start len → IsSplit len s → AreOver nodes p start len s
children-over nodes p start len s over split =
    let at = fork_at nodes p start len s split over.linked in
    let g = (node_at nodes p).seg in
    let l : SegTree = tree_over nodes (left_child (node_at nodes p).below) start s in
    let r : SegTree = tree_over nodes (right_child (node_at nodes p).below) (start + s) (len - s) in
    let plans : fork g.start g.len (plan_of l) (plan_of r) ≡ fork start len (plan start s) (plan (start + s) (len - s)) =
    ap plan_of (sym at.content) ∙ over.shaped ∙ plan-fork start len s split in
    let lp : plan_of l ≡ plan start s = cc in
    let rp : plan_of r ≡ plan (start + s) (len - s) = cc in
    record {
      left = record { linked = at.left; shaped = lp };
      right = record { linked = at.right; shaped = rp };
      content = at.content;
    }

walk-below : (nodes : Places) (p start len s : ℕ) (row : Triple) → IsOver nodes p start len → IsSplit len s → ((start == row.0) && (len == row.1)) ≡ false
    → part_with row (tree_over nodes p start len) ≡ cond (ltb row.0 (start + s))
    (part_with row (tree_over nodes (left_child (node_at nodes p).below) start s)) (part_with row (tree_over nodes (right_child (node_at nodes p).below) (start + s) (len - s)))
walk-below nodes p start len s row over split h =
    let at = children-over nodes p start len s over split in
    let g = (node_at nodes p).seg in
    let l : SegTree = tree_over nodes (left_child (node_at nodes p).below) start s in
    let r : SegTree = tree_over nodes (right_child (node_at nodes p).below) (start + s) (len - s) in
    let miss = range-of start len (tree_over nodes p start len) row over.shaped ∙ h in
    let here : has_range g row ≡ false = subst (λ t. has_range (root_of t) row ≡ false) at.content miss in
    let starts : (root_of r).start ≡ start + s = start-plan (start + s) (len - s) r at.right.shaped in
    ap (part_with row) at.content ∙ part-node row g l r here ∙ ap (λ n. cond (ltb row.0 n) (part_with row l) (part_with row r)) starts

pub walk-left : (nodes : Places) (p start len s left : ℕ) (row : Triple) → IsOver nodes p start len → IsSplit len s → ((start == row.0) && (len == row.1)) ≡ false
    → left ≡ left_child (node_at nodes p).below → row.0 < start + s → part_with row (tree_over nodes p start len) ≡ part_with row (tree_over nodes left start s)
walk-left nodes p start len s left row over split h is lt = rw is (walk-below nodes p start len s row over split h ∙ rw (lt-ltb row.0 (start + s) lt) refl)

pub walk-right : (nodes : Places) (p start len s right : ℕ) (row : Triple) → IsOver nodes p start len → IsSplit len s → ((start == row.0) && (len == row.1)) ≡ false
    → right ≡ right_child (node_at nodes p).below → start + s ≤ row.0 → part_with row (tree_over nodes p start len) ≡ part_with row (tree_over nodes right (start + s) (len - s))
walk-right nodes p start len s right row over split h is le = rw is (walk-below nodes p start len s row over split h ∙ rw (le-ltb row.0 (start + s) le) refl)

-- ---- the node of a row

-- a leaf or a fork, by its length
tip-short : (nodes : Places) (p start len : ℕ) (row : Triple) → IsOver nodes p start len → len ≤ 16 → as_node true (tree_over nodes p start len) ≡ Some (opened (tree_over nodes p start len))
tip-short nodes p start len row over short =
    let at = leaf_at nodes p start len short over.linked in
    rw at.content refl

fork-long : (nodes : Places) (p start len : ℕ) → IsOver nodes p start len → 16 < len → as_node true (tree_over nodes p start len) ≡ None
fork-long nodes p start len over long =
    let k = split_exists len long in
    let at = children-over nodes p start len k.0 over k.1 in
    rw at.content refl

pub node-found : (nodes : Places) (t : SegTree) (row : Triple) (p : ℕ) → part_with row t ≡ Some (tree_over nodes p row.0 row.1) → IsOver nodes p row.0 row.1 → (row.2 ≡ true → row.1 ≤ 16)
    → node_for t row ≡ Some (node_over nodes row p)
node-found nodes t row p e over short = ap (option_and_then (as_node row.2)) e ∙ by row.2 short
  where
    by : (b : Bool) → (b ≡ true → row.1 ≤ 16) → as_node b (tree_over nodes p row.0 row.1) ≡ Some (record { tree = tree_over nodes p row.0 row.1; opened = b })
    by true s = tip-short nodes p row.0 row.1 row over (s refl)
    by false s = refl

pub node-long : (nodes : Places) (t : SegTree) (row : Triple) (p : ℕ) → part_with row t ≡ Some (tree_over nodes p row.0 row.1) → IsOver nodes p row.0 row.1 → row.2 ≡ true → 16 < row.1
    → node_for t row ≡ None
node-long nodes t row p e over is long = ap (option_and_then (as_node row.2)) e ∙ ap (λ b. as_node b (tree_over nodes p row.0 row.1)) is ∙ fork-long nodes p row.0 row.1 over long

pub node-none : (t : SegTree) (row : Triple) → part_with row t ≡ None → node_for t row ≡ None
node-none t row e = ap (option_and_then (as_node row.2)) e

pub short-if : (b : Bool) (n : ℕ) → ((b ≡ true) × (n ≤ 16)) ⊎ (b ≡ false) → b ≡ true → n ≤ 16
short-if b n (inl h) e = h.1
short-if b n (inr f) e = let bad : true ≡ false = sym e ∙ f in cc

-- the segments of an opened row
pub row-opened : (nodes : Places) (row : Triple) (p : ℕ) (xs : List ℤ) → IsOver nodes p row.0 row.1 → row.2 ≡ true → xs ≡ readings_of (tree_over nodes p row.0 row.1) → segs_of_row (row_of (node_over nodes row p)) ≡ units row.0 xs
row-opened nodes row p xs over open_row e =
    let t = tree_over nodes p row.0 row.1 in
    ap (λ b. segs_given (root_of t) (cond b (Some (readings_of t)) None)) open_row
    ∙ ap₂ units (start-plan row.0 row.1 t over.shaped) (sym e)

-- the readings that a leaf keeps
pub leaf-reads : (nodes : Places) (p start len : ℕ) → IsOver nodes p start len → len ≤ 16 → readings_of (tree_over nodes p start len) ≡ take len (kept (node_at nodes p).below)
leaf-reads nodes p start len over short = ap readings_of (leaf_at nodes p start len short over.linked).content

-- the readings of a part are readings
pub part-small : (n : ℕ) (t part : SegTree) → IsTreeOver n t → IsPartOf part t → AreReadings (readings_of part)
part-small n t part over is = subst AreReadings (part-readings n t part over is) (AreReadings-take (drop (root_of part).start (readings_of t)) (root_of part).len (AreReadings-drop (readings_of t) (root_of part).start over.small))

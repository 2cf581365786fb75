-- What a step of growing adds.
use Rattle.std.proofs.Common.{◌≡◌, ℕ, ◌+◌, ◌-◌, ◌<◌, ◌≤◌, ℤ, List, length, take, drop, ap, ap₂, ◌∙◌, sym, subst, arith, take-take, length-take-le, length-drop, take_all, ◌^◌, Option, Some, None}
use Rattle.std.proofs.lemmas.List.{drop-take}
use Rattle.segment.specs.declared.segments.Seg.{Seg}
use Rattle.segment.specs.Fit.{readings_in, fit_of, fit_over}
use Rattle.segment.specs.Growth.{kept_or_fit, tree_by}
use Rattle.segment.specs.Shape.{Range, leaf, fork, plan, count, IsSplit}
use Rattle.segment.specs.Tree.{SegTree, tip, node, readings_of, segs_of, plan_of, IsPartOf, fits, all_readings, IsTreeOver}
use Rattle.segment.specs.Measure.{AreReadings}
use Rattle.seg_tree.specs.declared.arena.Tree.{Tree}
use Rattle.seg_tree.specs.Trees.{IsTreeAt, IsTreeOf, value_at, value_of}
use Rattle.segment.proofs.GrowthLaws.{tree_by-part, told-kept, told-behind, fits-behind}
use Rattle.segment.proofs.PartLaws.{part_self, part_left, part_right, part-over}
use Rattle.segment.proofs.ShapeLaws.{plan-leaf, plan-fork}
use Rattle.segment.proofs.TreeLaws.{width-plan, left_readings, right_readings}
use Rattle.seg_tree.specs.declared.nodes.Node.{Node}
use Rattle.seg_tree.specs.Grown.{IsOldPart}
use Rattle.seg_tree.specs.Linked.{Places, node_at, IsPut, IsLeaf, IsFork, kept, left_child, right_child, IsLinked, tree_at, Holds, Extends}
use Rattle.seg_tree.specs.Reached.{StandsIn}
use Rattle.seg_tree.proofs.Extended.{leaf_holds, fork_holds, fork_at, Holds-Extends}

abbrev pub range : ℕ → ℕ → Range
range start len = record { start = start; len = len }

-- ---- the children of a node of the old tree

pub record PartsStand (nodes : Places) (t : SegTree) (p start len s : ℕ) : Type 0 where
  pub left : StandsIn nodes t (left_child (node_at nodes p).below) (range start s)
  pub right : StandsIn nodes t (right_child (node_at nodes p).below) (range (start + s) (len - s))

pub parts_stand : (nodes : Places) (t : SegTree) (p start len s : ℕ) → StandsIn nodes t p (range start len) → IsSplit len s → PartsStand nodes t p start len s
parts_stand nodes t p start len s h split =
    let at = fork_at nodes p start len s split h.linked in
    let g = (node_at nodes p).seg in
    let l : SegTree = tree_at nodes (left_child (node_at nodes p).below) (plan start s) in
    let r : SegTree = tree_at nodes (right_child (node_at nodes p).below) (plan (start + s) (len - s)) in
    let plans : fork g.start g.len (plan_of l) (plan_of r) ≡ fork start len (plan start s) (plan (start + s) (len - s)) = ap plan_of (sym at.content) ∙ h.shaped ∙ plan-fork start len s split in
    let whole = subst (λ u. IsPartOf u t) at.content h.part in
    let lp : plan_of l ≡ plan start s = cc in
    let rp : plan_of r ≡ plan (start + s) (len - s) = cc in
    record {
      left = record { linked = at.left; shaped = lp; part = part_left t g l r whole };
      right = record { linked = at.right; shaped = rp; part = part_right t g l r whole };
    }

-- the old tree is split where the new one is, as far as it goes there
pub old_split : (len m s : ℕ) → IsSplit len s → s < m → m ≤ len → IsSplit m s
old_split len m s split over le = record { power = split.power; below = over; greatest = omega (arith, split.greatest) }

-- what the right child is to the rest of the old tree
pub old_left : (nodes : Places) (p start old len s : ℕ) (xs : List ℤ) (t : SegTree) → IsOldPart nodes p start old xs t → IsSplit len s → start + s < old → old ≤ start + len
    → StandsIn nodes t (left_child (node_at nodes p).below) (range start s)
old_left nodes p start old len s xs t h split over le = (parts_stand nodes t p start (old - start) s h.at (old_split len (old - start) s split (omega arith) (omega arith))).left

pub old_right : (nodes : Places) (p start old len s : ℕ) (xs : List ℤ) (t : SegTree) → IsOldPart nodes p start old xs t → IsSplit len s → start + s < old → old ≤ start + len
    → IsOldPart nodes (right_child (node_at nodes p).below) (start + s) old xs t
old_right nodes p start old len s xs t h split over le =
    let parts = parts_stand nodes t p start (old - start) s h.at (old_split len (old - start) s split (omega arith) (omega arith)) in
    let e : old - start - s ≡ old - (start + s) = omega arith in
    record { over = h.over; front = h.front; at = subst (λ n. StandsIn nodes t (right_child (node_at nodes p).below) (range (start + s) n)) e parts.right }

-- ---- what stays

front_readings : (xs : List ℤ) (start len old : ℕ) → start + len ≤ old → take len (drop start (take old xs)) ≡ take len (drop start xs)
front_readings xs start len old le =
    let e : old ≡ start + (old - start) = omega arith in
    ap (λ n. take len (drop start (take n xs))) e ∙ ap (take len) (drop-take start (old - start) xs) ∙ take-take len (old - start) (drop start xs) (omega arith)

-- a node of the old tree is that of the new one
pub old_holds : (degree : ℕ) (nodes : Places) (p start len old : ℕ) (xs : List ℤ) (t : SegTree) → IsTreeOver old t → take old xs ≡ readings_of t → start + len ≤ old
    → StandsIn nodes t p (range start len) → Holds nodes p (plan start len) (tree_by (kept_or_fit degree xs (segs_of t)) (plan start len) (readings_in xs (range start len)))
old_holds degree nodes p start len old xs t over front le h =
    let part : SegTree = tree_at nodes p (plan start len) in
    let f : Range → Seg = kept_or_fit degree xs (segs_of t) in
    let known = part-over old t part (range start len) over h.part h.shaped in
    let readings : readings_of part ≡ readings_in xs (range start len) = sym known.readings ∙ ap (λ ys. take len (drop start ys)) (sym front) ∙ front_readings xs start len old le in
    record {
      linked = h.linked;
      content = sym (tree_by-part f old t part over (told-kept degree t xs) h.part) ∙ ap₂ (tree_by f) h.shaped readings;
    }

pub whole_holds : (degree : ℕ) (nodes : Places) (p start len old : ℕ) (xs : List ℤ) (t : SegTree) → start < old → start + len ≡ old → IsOldPart nodes p start old xs t
    → Holds nodes p (plan start len) (tree_by (kept_or_fit degree xs (segs_of t)) (plan start len) (readings_in xs (range start len)))
whole_holds degree nodes p start len old xs t from same h =
    let e : old - start ≡ len = omega arith in
    old_holds degree nodes p start len old xs t h.over h.front (omega arith) (subst (λ n. StandsIn nodes t p (range start n)) e h.at)

-- ---- what is new

-- the segment of a range that ends behind the old readings is its fit
pub new_seg : (degree : ℕ) (start len old : ℕ) (xs : List ℤ) (t : SegTree) → IsTreeOver old t → old < start + len → kept_or_fit degree xs (segs_of t) (range start len) ≡ fit_over degree xs (range start len)
new_seg degree start len old xs t over past = told-behind degree old t xs over (range start len) past

pub grown_leaf : (f : Range → Seg) (old new : Places) (p start len : ℕ) (xs : List ℤ) (x : Node) → len ≤ 16 → IsPut old new p x
    → x.seg ≡ f (range start len) → IsLeaf len x.below → take len (kept x.below) ≡ readings_in xs (range start len)
    → Holds new p (plan start len) (tree_by f (plan start len) (readings_in xs (range start len)))
grown_leaf f old new p start len xs x short put seg at_end holds =
    let made = leaf_holds old new p x start len put at_end in
    rw (plan-leaf start len short) (subst (λ t. Holds new p (leaf start len) t) (ap₂ tip seg holds) made)

pub grown_fork : (f : Range → Seg) (a b old new : Places) (p start len s : ℕ) (xs : List ℤ) (x : Node) → IsSplit len s
    → Holds a (left_child x.below) (plan start s) (tree_by f (plan start s) (readings_in xs (range start s)))
    → Holds b (right_child x.below) (plan (start + s) (len - s)) (tree_by f (plan (start + s) (len - s)) (readings_in xs (range (start + s) (len - s))))
    → Extends a old → Extends b old → IsPut old new p x → x.seg ≡ f (range start len) → IsFork x.below
    → Holds new p (plan start len) (tree_by f (plan start len) (readings_in xs (range start len)))
grown_fork f a b old new p start len s xs x split l r ea eb put seg forks =
    let left = plan start s in
    let right = plan (start + s) (len - s) in
    let lt = Holds-Extends a old (left_child x.below) left _ ea l in
    let rt = Holds-Extends b old (right_child x.below) right _ eb r in
    let made = fork_holds old new p x start len left right _ _ put forks lt rt in
    let front = left_readings xs start len s (omega (arith, split.below)) in
    let back = right_readings xs start len s (omega (arith, split.below)) in
    rw (plan-fork start len s split, width-plan start s, front, back)
    (subst (λ g. Holds new p (fork start len left right) (node g (tree_by f left (readings_in xs (range start s))) (tree_by f right (readings_in xs (range (start + s) (len - s)))))) seg made)

-- a tree of new readings alone
pub new_holds : (degree : ℕ) (nodes : Places) (p start len old : ℕ) (xs ys : List ℤ) (t : SegTree) → IsTreeOver old t → old ≤ start → 0 < len → ys ≡ take len (drop start xs) → length ys ≡ len
    → Holds nodes p (plan start (length ys)) (fits degree (plan start (length ys)) ys) → Holds nodes p (plan start len) (tree_by (kept_or_fit degree xs (segs_of t)) (plan start len) (readings_in xs (range start len)))
new_holds degree nodes p start len old xs ys t over past some same long h =
    let f : Range → Seg = kept_or_fit degree xs (segs_of t) in
    let at = subst (λ n. Holds nodes p (plan start n) (fits degree (plan start n) ys)) long h in
    record { linked = at.linked; content = at.content ∙ ap (fits degree (plan start len)) same ∙ sym (fits-behind degree old xs f start len (told-behind degree old t xs over) past some) }

-- ---- the readings that a step looks at

-- a slice by its ends
pub slice_is : (xs : List ℤ) (start len end : ℕ) → start + len ≡ end → take (end - start) (drop start xs) ≡ readings_in xs (range start len)
slice_is xs start len end e = let n : end - start ≡ len = omega arith in ap (λ k. take k (drop start xs)) n

pub slice_long : (xs : List ℤ) (start len end : ℕ) → start + len ≡ end → end ≤ length xs → length (take (end - start) (drop start xs)) ≡ len
slice_long xs start len end e inside = ap length (slice_is xs start len end e) ∙ length-take-le len (drop start xs) (omega (arith, length-drop start xs))

pub seg_is : (degree start len end old : ℕ) (xs : List ℤ) (t : SegTree) (g : Seg) → IsTreeOver old t → old < start + len → start + len ≡ end → g ≡ fit_of degree start (take (end - start) (drop start xs)) → g ≡ kept_or_fit degree xs (segs_of t) (range start len)
seg_is degree start len end old xs t g over past e is = is ∙ ap (fit_of degree start) (slice_is xs start len end e) ∙ sym (new_seg degree start len old xs t over past)

pub count_slice : (xs : List ℤ) (start len end : ℕ) → start + len ≡ end → end ≤ length xs → count (plan start (length (take (end - start) (drop start xs)))) ≡ count (plan start len)
count_slice xs start len end e inside = ap (λ n. count (plan start n)) (slice_long xs start len end e inside)

-- ---- the whole tree

-- what is known of the old tree
pub old_whole : (nodes : Places) (root old : ℕ) (xs : List ℤ) → IsTreeAt nodes (Some root) old → take old xs ≡ all_readings (value_at nodes (Some root) old)
    → IsOldPart nodes root 0 old xs (tree_at nodes root (plan 0 old))
old_whole nodes root old xs h front =
    let e : old ≡ old - 0 = omega arith in
    record {
      over = h.1;
      front = front;
      at = subst (λ n. StandsIn nodes (tree_at nodes root (plan 0 old)) root (range 0 n)) e (record { linked = h.0; shaped = h.1.shaped; part = part_self (tree_at nodes root (plan 0 old)) });
    }

-- the tree that was grown, as the whole of its readings
pub record IsWholeGrown (degree : ℕ) (nodes : Places) (p : ℕ) (xs : List ℤ) (t : SegTree) : Type 0 where
  pub linked : IsLinked nodes p (plan 0 (length xs))
  pub content : tree_at nodes p (plan 0 (length xs)) ≡ tree_by (kept_or_fit degree xs (segs_of t)) (plan 0 (length xs)) xs

pub whole_grown : (degree : ℕ) (nodes : Places) (p : ℕ) (xs : List ℤ) (t : SegTree) → Holds nodes p (plan 0 (length xs)) (tree_by (kept_or_fit degree xs (segs_of t)) (plan 0 (length xs)) (readings_in xs (range 0 (length xs))))
    → IsWholeGrown degree nodes p xs t
whole_grown degree nodes p xs t h = record {
  linked = h.linked;
  content = h.content ∙ ap (tree_by (kept_or_fit degree xs (segs_of t)) (plan 0 (length xs))) (take_all (length xs) xs (omega arith));
}

tree_few : (nodes : Places) (root : Option ℕ) (n : ℕ) → IsTreeAt nodes root n → n ≤ 2 ^ 20
tree_few nodes None n h = omega (arith, h)
tree_few nodes (Some p) n h = h.1.few

pub tree-few : (nodes : Places) (t : Tree) → IsTreeOf nodes t → t.n ≤ 2 ^ 20
tree-few nodes t h = tree_few nodes t.root t.n h

tree_long : (nodes : Places) (root : Option ℕ) (n : ℕ) → IsTreeAt nodes root n → length (all_readings (value_at nodes root n)) ≡ n
tree_long nodes None n h = sym h
tree_long nodes (Some p) n h = h.1.long

pub tree-long : (nodes : Places) (t : Tree) → IsTreeOf nodes t → length (all_readings (value_of nodes t)) ≡ t.n
tree-long nodes t h = tree_long nodes t.root t.n h

-- a tree whose root is told
pub rooted : (nodes : Places) (t : Tree) (root : ℕ) → t.root ≡ Some root → IsTreeOf nodes t → IsTreeAt nodes (Some root) t.n
rooted nodes t root e h = subst (λ o. IsTreeAt nodes o t.n) e h

tree_small : (nodes : Places) (root : Option ℕ) (n : ℕ) → IsTreeAt nodes root n → AreReadings (all_readings (value_at nodes root n))
tree_small nodes None n h = λ i. omega arith
tree_small nodes (Some p) n h = h.1.small

pub tree-small : (nodes : Places) (t : Tree) → IsTreeOf nodes t → AreReadings (all_readings (value_of nodes t))
tree-small nodes t h = tree_small nodes t.root t.n h

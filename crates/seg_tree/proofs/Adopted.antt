-- Trees by their segments and their readings.
use Rattle.std.proofs.Common.{◌≡◌, ℕ, zero, suc, ◌+◌, ◌-◌, ◌^◌, ◌<◌, ◌≤◌, ℤ, List, [], ◌++◌, length, take, drop, Option, Some, None, refl, sym, ap, ap₂, ◌∙◌, subst, arith, length-append, length-drop, take_all}
use Rattle.std.proofs.lemmas.List.{take-append-le}
use Rattle.std.proofs.Math.Seq.{drop-append_seam}
use Rattle.segment.specs.declared.segments.Seg.{Seg}
use Rattle.segment.specs.Nodes.{IsSeriesTree}
use Rattle.segment.specs.Shape.{leaf, fork, plan, count, node_count, IsSplit}
use Rattle.segment.specs.Tree.{SegTree, tip, node, segs_of, readings_of, plan_of, width, AllTrue, IsTreeOver, all_segs, all_readings}
use Rattle.segment.proofs.ShapeLaws.{plan-leaf, plan-fork, count-plan}
use Rattle.segment.proofs.TreeLaws.{width-plan}
use Rattle.seg_tree.specs.declared.arena.Tree.{Tree}
use Rattle.seg_tree.specs.declared.nodes.Node.{Node}
use Rattle.seg_tree.specs.Adopted.{HaveTree, IsTreeWith, first_seg, rebuilt, rebuilt_series, TreesDiffer}
use Rattle.seg_tree.specs.Trees.{IsTreeAt, IsTreeOf, value_at, value_of}
use Rattle.seg_tree.specs.Linked.{Places, IsPut, IsLeaf, IsFork, kept, left_child, right_child, IsLinked, tree_at, Holds, Extends}
use Rattle.seg_tree.proofs.Extended.{leaf_holds, fork_holds, Holds-Extends}

few_of : (n : ℕ) (t : Option SegTree) → IsSeriesTree n t → n ≤ 2 ^ 20
few_of n None h = omega (arith, h)
few_of n (Some t) h = h.few

-- what has a tree is not too long
pub few : (segs : List Seg) (xs : List ℤ) → HaveTree segs xs → length xs ≤ 2 ^ 20
few segs xs h = few_of (length xs) h.0 h.1.over

-- ---- a tree is what its segments and its readings make

length-readings : (t : SegTree) → AllTrue t → length (readings_of t) ≡ width (plan_of t)
length-readings (tip g xs) h = sym (ap (λ (s : Seg). s.len) h.measured)
length-readings (node g l r) h = sym (ap (λ (s : Seg). s.len) h.0.measured)

length-segs : (t : SegTree) → length (segs_of t) ≡ count (plan_of t)
length-segs (tip g xs) = refl
length-segs (node g l r) = omega (arith, length-append (segs_of l) (segs_of r), length-segs l, length-segs r)

take_front : {A : Type 0} (xs ys : List A) (n : ℕ) → length xs ≡ n → take n (xs ++ ys) ≡ xs
take_front xs ys n e = take-append-le n xs ys (omega arith) ∙ take_all n xs (omega arith)

drop_front : {A : Type 0} (xs ys : List A) (n : ℕ) → length xs ≡ n → drop n (xs ++ ys) ≡ ys
drop_front xs ys n e = ap (λ k. drop k (xs ++ ys)) (sym e) ∙ drop-append_seam xs ys

rebuilt-parts : (t : SegTree) → AllTrue t → rebuilt (plan_of t) (segs_of t) (readings_of t) ≡ t
rebuilt-parts (tip g xs) h = refl
rebuilt-parts (node g l r) h =
    let left = take_front (segs_of l) (segs_of r) (count (plan_of l)) (length-segs l) in
    let right = drop_front (segs_of l) (segs_of r) (count (plan_of l)) (length-segs l) in
    let front = take_front (readings_of l) (readings_of r) (width (plan_of l)) (length-readings l h.1) in
    let back = drop_front (readings_of l) (readings_of r) (width (plan_of l)) (length-readings l h.1) in
    rw (left, right, front, back) (ap₂ (node g) (rebuilt-parts l h.1) (rebuilt-parts r h.2))

rebuilt_some : (n : ℕ) (segs : List Seg) (xs : List ℤ) → 0 < n → rebuilt_series n segs xs ≡ Some (rebuilt (plan 0 n) segs xs)
rebuilt_some zero segs xs some = absurd (omega arith)
rebuilt_some (suc n) segs xs some = refl

rebuilt_none : (n : ℕ) (segs : List Seg) (xs : List ℤ) → n ≡ 0 → rebuilt_series n segs xs ≡ None
rebuilt_none n segs xs e = ap (λ k. rebuilt_series k segs xs) e

rebuilt_series-parts : (n : ℕ) (t : Option SegTree) → IsSeriesTree n t → rebuilt_series n (all_segs t) (all_readings t) ≡ t
rebuilt_series-parts n None h = rebuilt_none n [] [] h
rebuilt_series-parts n (Some t) h =
    rebuilt_some n (segs_of t) (readings_of t) h.some
    ∙ ap Some (ap (λ p. rebuilt p (segs_of t) (readings_of t)) (sym h.shaped) ∙ rebuilt-parts t h.all_true)

-- the tree with these segments and these readings
pub tree-rebuilt : (segs : List Seg) (xs : List ℤ) (t : Option SegTree) → IsTreeWith segs xs t → rebuilt_series (length xs) segs xs ≡ t
tree-rebuilt segs xs t h =
    sym (ap₂ (rebuilt_series (length xs)) h.segments h.readings) ∙ rebuilt_series-parts (length xs) t h.over

pub trees-differ : TreesDiffer
trees-differ segs xs s t h k = sym (tree-rebuilt segs xs s h) ∙ tree-rebuilt segs xs t k

length-all_segs : (n : ℕ) (t : Option SegTree) → IsSeriesTree n t → 0 < n → length (all_segs t) ≡ node_count n
length-all_segs n None h some = absurd (omega (arith, h, some))
length-all_segs n (Some t) h some = length-segs t ∙ ap count h.shaped ∙ count-plan 0 n some

-- a tree has as many segments as nodes
pub length-nodes : (segs : List Seg) (xs : List ℤ) → HaveTree segs xs → 0 < length xs → length segs ≡ node_count (length xs)
length-nodes segs xs h some = sym (ap length h.1.segments) ∙ length-all_segs (length xs) h.0 h.1.over some

-- ---- what a step of adopting adds

-- a leaf that was put is the tree of its segment and its readings
pub adopted_leaf : (old new : Places) (p start : ℕ) (segs : List Seg) (xs : List ℤ) (x : Node) → length xs ≤ 16 → IsPut old new p x
    → x.seg ≡ first_seg segs → IsLeaf (length xs) x.below → take (length xs) (kept x.below) ≡ xs
    → Holds new p (plan start (length xs)) (rebuilt (plan start (length xs)) segs xs)
adopted_leaf old new p start segs xs x short put seg at_end holds =
    let made = leaf_holds old new p x start (length xs) put at_end in
    rw (plan-leaf start (length xs) short) (subst (λ t. Holds new p (leaf start (length xs)) t) (ap₂ tip seg holds) made)

-- a fork that was put over the trees of both parts is the tree of the whole
pub adopted_fork : (a b old new : Places) (p start s : ℕ) (segs : List Seg) (xs : List ℤ) (x : Node) → IsSplit (length xs) s → 0 < s
    → Holds a (left_child x.below) (plan start s) (rebuilt (plan start s) (take (node_count s) (drop 1 segs)) (take s xs))
    → Holds b (right_child x.below) (plan (start + s) (length xs - s)) (rebuilt (plan (start + s) (length xs - s)) (drop (node_count s) (drop 1 segs)) (drop s xs))
    → Extends a old → Extends b old → IsPut old new p x → x.seg ≡ first_seg segs → IsFork x.below
    → Holds new p (plan start (length xs)) (rebuilt (plan start (length xs)) segs xs)
adopted_fork a b old new p start s segs xs x split some l r ea eb put seg forks =
    let left = plan start s in
    let right = plan (start + s) (length xs - s) in
    let below = drop 1 segs in
    let lt = Holds-Extends a old (left_child x.below) left (rebuilt left (take (node_count s) below) (take s xs)) ea l in
    let rt = Holds-Extends b old (right_child x.below) right (rebuilt right (drop (node_count s) below) (drop s xs)) eb r in
    let made = fork_holds old new p x start (length xs) left right _ _ put forks lt rt in
    rw (plan-fork start (length xs) s split, width-plan start s, count-plan start s some)
    (subst (λ g. Holds new p (fork start (length xs) left right) (node g (rebuilt left (take (node_count s) below) (take s xs)) (rebuilt right (drop (node_count s) below) (drop s xs)))) seg made)

pub all_behind : (segs : List Seg) → take (length segs - 1) (drop 1 segs) ≡ drop 1 segs
all_behind segs = take_all (length segs - 1) (drop 1 segs) (omega (arith, length-drop 1 segs))

-- a part that was added, told by its range
pub adopted_part : (nodes : Places) (p start n : ℕ) (gs hs : List Seg) (ys zs : List ℤ) → gs ≡ hs → ys ≡ zs → length ys ≡ n
    → Holds nodes p (plan start (length ys)) (rebuilt (plan start (length ys)) gs ys) → Holds nodes p (plan start n) (rebuilt (plan start n) hs zs)
adopted_part nodes p start n gs hs ys zs same_segs same len t =
    subst (λ ws. Holds nodes p (plan start n) (rebuilt (plan start n) hs ws)) same
    (subst (λ us. Holds nodes p (plan start n) (rebuilt (plan start n) us ys)) same_segs
    (subst (λ k. Holds nodes p (plan start k) (rebuilt (plan start k) gs ys)) len t))

-- ---- the whole tree that was added

-- the tree that was added at a place is the one tree with these segments and these readings
pub adopted-value : (nodes : Places) (p : ℕ) (segs : List Seg) (xs : List ℤ) (t : Option SegTree) → 0 < length xs
    → Holds nodes p (plan 0 (length xs)) (rebuilt (plan 0 (length xs)) segs xs) → IsTreeWith segs xs t → Some (tree_at nodes p (plan 0 (length xs))) ≡ t
adopted-value nodes p segs xs t some holds h = ap Some holds.content ∙ sym (rebuilt_some (length xs) segs xs some) ∙ tree-rebuilt segs xs t h

over_some : (n : ℕ) (s : SegTree) (t : Option SegTree) → Some s ≡ t → IsSeriesTree n t → IsTreeOver n s
over_some n s t e h = subst (IsSeriesTree n) (sym e) h

-- and it is a tree of these nodes
pub adopted-tree : (nodes : Places) (p : ℕ) (segs : List Seg) (xs : List ℤ) → 0 < length xs
    → Holds nodes p (plan 0 (length xs)) (rebuilt (plan 0 (length xs)) segs xs) → HaveTree segs xs
    → IsLinked nodes p (plan 0 (length xs)) × IsTreeOver (length xs) (tree_at nodes p (plan 0 (length xs)))
adopted-tree nodes p segs xs some holds h =
    (holds.linked, over_some (length xs) _ h.0 (adopted-value nodes p segs xs h.0 some holds h.1) h.1.over)

series_of : (nodes : Places) (root : Option ℕ) (n : ℕ) → IsTreeAt nodes root n → IsSeriesTree (length (all_readings (value_at nodes root n))) (value_at nodes root n)
series_of nodes None n h = refl
series_of nodes (Some p) n h = subst (λ k. IsTreeOver k (tree_at nodes p (plan 0 n))) (sym h.1.long) h.1

-- the segments and the readings of a tree of an arena have a tree
pub told_tree : (nodes : Places) (t : Tree) → IsTreeOf nodes t → HaveTree (all_segs (value_of nodes t)) (all_readings (value_of nodes t))
told_tree nodes t h = (value_of nodes t, record { over = series_of nodes t.root t.n h; segments = refl; readings = refl })

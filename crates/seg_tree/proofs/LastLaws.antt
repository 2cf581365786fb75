-- The last reading of a tree.
use Rattle.std.proofs.Common.{◌≡◌, ◌∙◌, ◌+◌, ◌-◌, ◌^◌, ◌<◌, ◌≤◌, ℕ, ℤ, pos, List, [], ◌∷◌, ◌++◌, length, take, get_or, Option, Some, None, refl, sym, ap, arith}
use Rattle.std.proofs.lemmas.List.{length-take-le}
use Rattle.std.specs.Prelude.{unsigned_abs}
use Rattle.std.specs.List.{last_or}
use Rattle.segment.specs.Shape.{plan}
use Rattle.segment.specs.Tree.{readings_of}
use Rattle.seg_tree.specs.declared.nodes.Below.{Below}
use Rattle.seg_tree.specs.declared.nodes.Below.TheVariants.{Readings, Children}
use Rattle.seg_tree.specs.Linked.{Places, IsLeaf, kept, left_child, node_at, right_child, tree_at}
use Rattle.seg_tree.specs.Trees.{IsTreeAt}
use Rattle.seg_tree.proofs.Extended.{IsForkAt, IsLeafAt}

last-at : (x : ℤ) (xs : List ℤ) → last_or (Some x) xs ≡ Some (get_or (x ∷ xs) (length xs) (pos 0))
last-at x [] = refl
last-at x (y ∷ ys) = last-at y ys

last-indexed : (before : Option ℤ) (xs : List ℤ) → 0 < length xs → last_or before xs ≡ Some (get_or xs (length xs - 1) (pos 0))
last-indexed before [] some = absurd (omega arith)
last-indexed before (x ∷ xs) some =
    let e : length (x ∷ xs) - 1 ≡ length xs = omega arith in
    rw e (last-at x xs)

last-append : (before : Option ℤ) (xs ys : List ℤ) → last_or before (xs ++ ys) ≡ last_or (last_or before xs) ys
last-append before [] ys = refl
last-append before (x ∷ xs) ys = last-append (Some x) xs ys

-- a leaf has as many readings as it covers
pub leaf-long : (len : ℕ) (below : Below) → IsLeaf len below → length (take len (kept below)) ≡ len
leaf-long len (Readings xs) leaf = length-take-le len xs leaf
leaf-long len (Children left right) leaf = absurd leaf

pub last-leaf : (nodes : Places) (p start len : ℕ) (xs : List ℤ) (before : Option ℤ) → IsLeafAt nodes p start len → xs ≡ take len (kept (node_at nodes p).below) → 0 < len
    → last_or before (readings_of (tree_at nodes p (plan start len))) ≡ Some (get_or xs (len - 1) (pos 0))
last-leaf nodes p start len xs before at is some =
    let tree : readings_of (tree_at nodes p (plan start len)) ≡ xs = ap readings_of at.content ∙ sym is in
    let long : length xs ≡ len = ap length is ∙ leaf-long len (node_at nodes p).below at.at_end in
    let last = last-indexed before xs (omega (arith, long, some)) in
    rw tree (last ∙ ap (λ n. Some (get_or xs (n - 1) (pos 0))) long)

pub last-fork : (nodes : Places) (p start len s right : ℕ) (x : ℤ) (before : Option ℤ) → IsForkAt nodes p start len s → right ≡ right_child (node_at nodes p).below
    → ((o : Option ℤ) → last_or o (readings_of (tree_at nodes right (plan (start + s) (len - s)))) ≡ Some x)
    → last_or before (readings_of (tree_at nodes p (plan start len))) ≡ Some x
last-fork nodes p start len s right x before at is last =
    let left = readings_of (tree_at nodes (left_child (node_at nodes p).below) (plan start s)) in
    let behind = readings_of (tree_at nodes right (plan (start + s) (len - s))) in
    rw (at.content, ← is) (last-append before left behind ∙ last (last_or before left))

pub last-small : (nodes : Places) (p n : ℕ) (x : ℤ) → IsTreeAt nodes (Some p) n → ((o : Option ℤ) → last_or o (readings_of (tree_at nodes p (plan 0 n))) ≡ Some x) → unsigned_abs x ≤ 10 ^ 9
last-small nodes p n x tree last =
    let readings = readings_of (tree_at nodes p (plan 0 n)) in
    let there : Some (get_or readings (length readings - 1) (pos 0)) ≡ Some x = sym (last-indexed None readings (omega (arith, tree.1.long, tree.1.some))) ∙ last None in
    let same : get_or readings (length readings - 1) (pos 0) ≡ x = cc in
    rw (← same) (tree.1.small (length readings - 1))

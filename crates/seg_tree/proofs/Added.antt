-- What a step of building adds.
use Rattle.std.proofs.Common.{◌≡◌, ℕ, ◌+◌, ◌-◌, ◌≤◌, ℤ, List, length, take, drop, ap₂, subst}
use Rattle.segment.specs.Fit.{fit_of}
use Rattle.segment.specs.Shape.{leaf, fork, plan, IsSplit}
use Rattle.segment.specs.Tree.{tip, node, fits}
use Rattle.segment.proofs.ShapeLaws.{plan-leaf, plan-fork}
use Rattle.segment.proofs.TreeLaws.{width-plan}
use Rattle.seg_tree.specs.declared.nodes.Node.{Node}
use Rattle.seg_tree.specs.Linked.{Places, IsPut, IsLeaf, IsFork, kept, left_child, right_child, Holds, Extends}
use Rattle.seg_tree.proofs.Extended.{leaf_holds, fork_holds, Holds-Extends}

-- a leaf that was put is the fitted tree of its readings
pub added_leaf : (degree : ℕ) (old new : Places) (p start : ℕ) (xs : List ℤ) (x : Node) → length xs ≤ 16 → IsPut old new p x
    → x.seg ≡ fit_of degree start xs → IsLeaf (length xs) x.below → take (length xs) (kept x.below) ≡ xs
    → Holds new p (plan start (length xs)) (fits degree (plan start (length xs)) xs)
added_leaf degree old new p start xs x short put seg at_end holds =
    let made = leaf_holds old new p x start (length xs) put at_end in
    rw (plan-leaf start (length xs) short) (subst (λ t. Holds new p (leaf start (length xs)) t) (ap₂ tip seg holds) made)

-- a fork that was put over the fitted trees of both parts is the fitted tree of the whole
pub added_fork : (degree : ℕ) (a b old new : Places) (p start s : ℕ) (xs : List ℤ) (x : Node) → IsSplit (length xs) s
    → Holds a (left_child x.below) (plan start s) (fits degree (plan start s) (take s xs))
    → Holds b (right_child x.below) (plan (start + s) (length xs - s)) (fits degree (plan (start + s) (length xs - s)) (drop s xs))
    → Extends a old → Extends b old → IsPut old new p x → x.seg ≡ fit_of degree start xs → IsFork x.below
    → Holds new p (plan start (length xs)) (fits degree (plan start (length xs)) xs)
added_fork degree a b old new p start s xs x split l r ea eb put seg forks =
    let left = plan start s in
    let right = plan (start + s) (length xs - s) in
    let lt = Holds-Extends a old (left_child x.below) left (fits degree left (take s xs)) ea l in
    let rt = Holds-Extends b old (right_child x.below) right (fits degree right (drop s xs)) eb r in
    let made = fork_holds old new p x start (length xs) left right _ _ put forks lt rt in
    rw (plan-fork start (length xs) s split, width-plan start s)
    (subst (λ g. Holds new p (fork start (length xs) left right) (node g (fits degree left (take s xs)) (fits degree right (drop s xs)))) seg made)

-- a part that was added, told by its range
pub added_part : (degree : ℕ) (nodes : Places) (p start n : ℕ) (ys zs : List ℤ) → ys ≡ zs → length ys ≡ n
    → Holds nodes p (plan start (length ys)) (fits degree (plan start (length ys)) ys) → Holds nodes p (plan start n) (fits degree (plan start n) zs)
added_part degree nodes p start n ys zs same len t =
    subst (λ ws. Holds nodes p (plan start n) (fits degree (plan start n) ws)) same (subst (λ k. Holds nodes p (plan start k) (fits degree (plan start k) ys)) len t)

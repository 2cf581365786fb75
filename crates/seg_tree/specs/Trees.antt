-- A tree of an arena, by its root's place and its length.
use Rattle.std.specs.Prelude.{◌≡◌, ◌⊎◌, ℕ, List, [], ◌∷◌, Option, Some, None}
use Rattle.segment.specs.Shape.{plan}
use Rattle.segment.specs.Tree.{SegTree, IsTreeOver}
use Rattle.seg_tree.specs.declared.arena.Tree.{Tree}
use Rattle.seg_tree.specs.Linked.{Places, Reaches, IsLinked, tree_at}

abbrev pub value_at : Places → Option ℕ → ℕ → Option SegTree
value_at nodes None n = None
value_at nodes (Some p) n = Some (tree_at nodes p (plan 0 n))

-- the value of a tree, where it has readings
abbrev pub value_of : Places → Tree → Option SegTree
value_of nodes t = value_at nodes t.root t.n

abbrev pub IsTreeAt : Places → Option ℕ → ℕ → Type 0
IsTreeAt nodes None n = n ≡ 0
IsTreeAt nodes (Some p) n = IsLinked nodes p (plan 0 n) × IsTreeOver n (tree_at nodes p (plan 0 n))

-- the tree is one of these nodes
abbrev pub IsTreeOf : Places → Tree → Type 0
IsTreeOf nodes t = IsTreeAt nodes t.root t.n

abbrev pub ReachesAt : Places → Option ℕ → ℕ → ℕ → Type 0
ReachesAt nodes None n q = ⊥
ReachesAt nodes (Some p) n q = Reaches nodes p (plan 0 n) q

-- one of the trees reaches the place
abbrev pub IsReached : Places → List Tree → ℕ → Type 0
IsReached nodes [] q = ⊥
IsReached nodes (t ∷ ts) q = ReachesAt nodes t.root t.n q ⊎ IsReached nodes ts q

-- Trees as linked nodes.
use Rattle.std.specs.Prelude.{◌≡◌, ℕ, ◌+◌, ◌≤◌, ◌≢◌, ◌⊎◌, ℤ, pos, List, [], ◌∷◌, length, get_or, take, Option, Some, None, unwrap_or}
use Rattle.segment.specs.Shape.{Plan, leaf, fork}
use Rattle.segment.specs.Tree.{SegTree, tip, node}
use Rattle.seg_tree.specs.declared.nodes.Node.{Node}
use Rattle.seg_tree.specs.declared.nodes.Below.{Below}
use Rattle.seg_tree.specs.declared.nodes.Below.TheVariants.{Readings, Children}

-- what stands at a place where there is no node
abbrev pub no_node : Node
no_node = record {
  seg = record { start = 0; len = 0; a = pos 0; b = pos 0; c = pos 0; l = 0; d = 0; f = 0 };
  below = Readings [];
}

-- the nodes of an arena by their places: each place is used or vacant, and all behind the list are vacant
abbrev pub Places : Type 0
Places = List (Option Node)

abbrev pub held_at : Places → ℕ → Option Node
held_at nodes p = get_or nodes p None

abbrev pub node_at : Places → ℕ → Node
node_at nodes p = unwrap_or (held_at nodes p) no_node

-- a node stands at the place
abbrev pub IsUsed : Places → ℕ → Type 0
IsUsed nodes p = held_at nodes p ≡ Some (node_at nodes p)

-- how many places are used
abbrev pub used : Places → ℕ
used [] = 0
used (None ∷ ps) = used ps
used (Some x ∷ ps) = 1 + used ps

-- every used place keeps its node
abbrev pub Extends : Places → Places → Type 0
Extends old new = (p : ℕ) → IsUsed old p → held_at new p ≡ held_at old p

-- a node was put at a vacant place, and nothing else changed
pub record IsPut (old new : Places) (p : ℕ) (x : Node) : Type 0 where
  pub vacant : held_at old p ≡ None
  pub here : held_at new p ≡ Some x
  pub others : (q : ℕ) → q ≢ p → held_at new q ≡ held_at old q
  pub one_more : used new ≡ used old + 1

-- it has a leaf's n readings
abbrev pub IsLeaf : ℕ → Below → Type 0
IsLeaf n (Readings xs) = n ≤ length xs
IsLeaf n (Children left right) = ⊥

abbrev pub IsFork : Below → Type 0
IsFork (Readings xs) = ⊥
IsFork (Children left right) = Unit {0}

abbrev pub kept : Below → List ℤ
kept (Readings xs) = xs
kept (Children left right) = []

abbrev pub left_child : Below → ℕ
left_child (Readings xs) = 0
left_child (Children left right) = left

abbrev pub right_child : Below → ℕ
right_child (Readings xs) = 0
right_child (Children left right) = right

-- from a place on the links lead to nodes as the ranges have them
abbrev pub IsLinked : Places → ℕ → Plan → Type 0
IsLinked nodes p (leaf start len) = IsUsed nodes p × IsLeaf len (node_at nodes p).below
IsLinked nodes p (fork start len l r) = IsUsed nodes p × IsFork (node_at nodes p).below
    × IsLinked nodes (left_child (node_at nodes p).below) l × IsLinked nodes (right_child (node_at nodes p).below) r

-- the tree of the nodes from a place on
abbrev pub tree_at : Places → ℕ → Plan → SegTree
tree_at nodes p (leaf start len) = tip (node_at nodes p).seg (take len (kept (node_at nodes p).below))
tree_at nodes p (fork start len l r) = node (node_at nodes p).seg (tree_at nodes (left_child (node_at nodes p).below) l)
    (tree_at nodes (right_child (node_at nodes p).below) r)

-- the nodes from a place on are this tree
pub record Holds (nodes : Places) (p : ℕ) (plan : Plan) (t : SegTree) : Type 0 where
  pub linked : IsLinked nodes p plan
  pub content : tree_at nodes p plan ≡ t

-- the place is one of those of the nodes from p on
abbrev pub Reaches : Places → ℕ → Plan → ℕ → Type 0
Reaches nodes p (leaf start len) q = q ≡ p
Reaches nodes p (fork start len l r) q = (q ≡ p)
    ⊎ (Reaches nodes (left_child (node_at nodes p).below) l q
    ⊎ Reaches nodes (right_child (node_at nodes p).below) r q)

-- The nodes of an arena that the trees of several series reach.
use Rattle.std.specs.Prelude.{◌≡◌, ℕ, List, Option, Some, map}
use Rattle.std.specs.List.{All}
use Rattle.std.specs.Option.{option_map}
use Rattle.segment.specs.declared.segments.Seg.{Seg}
use Rattle.segment.specs.Nodes.{Forest, Place, tree_in}
use Rattle.segment.specs.Shape.{Range, plan}
use Rattle.segment.specs.Tree.{SegTree, IsPartOf, plan_of, root_of}
use Rattle.seg_tree.specs.declared.arena.Tree.{Tree}
use Rattle.seg_tree.specs.Linked.{Places, IsLinked, Reaches, tree_at}
use Rattle.seg_tree.specs.Trees.{IsReached, IsTreeOf, value_of}

-- the nodes of an arena, and the trees of the series
pub record Reached : Type 0 where
  pub nodes : Places
  pub trees : List Tree

abbrev pub forest_of : Reached → Forest
forest_of s = map (value_of s.nodes) s.trees

abbrev pub len_of : Tree → ℕ
len_of t = t.n

abbrev pub lengths_of : Reached → List ℕ
lengths_of s = map len_of s.trees

-- all roots are known
abbrev pub roots_of : Reached → List (Option Seg)
roots_of s = map (option_map root_of) (forest_of s)

-- the trees are of the arena, and they are these
pub record Means (s : Reached) (forest : Forest) : Type 0 where
  pub trees : All (IsTreeOf s.nodes) s.trees
  pub same : forest ≡ forest_of s

-- a place of the arena has the node of a range of the tree
pub record StandsIn (nodes : Places) (t : SegTree) (id : ℕ) (r : Range) : Type 0 where
  pub linked : IsLinked nodes id (plan r.start r.len)
  pub shaped : plan_of (tree_at nodes id (plan r.start r.len)) ≡ plan r.start r.len
  pub part : IsPartOf (tree_at nodes id (plan r.start r.len)) t

-- a place of the arena stands for the node at it, in each series whose tree has it; the trees reach it, and all that is
-- below it
pub record Stands (s : Reached) (id : ℕ) (p : Place) : Type 0 where
  pub trees : All (IsTreeOf s.nodes) s.trees
  pub tree : SegTree
  pub found : tree_in (forest_of s) p.series ≡ Some tree
  pub at : StandsIn s.nodes tree id p.range
  pub reached : (q : ℕ) → Reaches s.nodes id (plan p.range.start p.range.len) q → IsReached s.nodes s.trees q

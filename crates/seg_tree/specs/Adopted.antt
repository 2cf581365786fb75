-- A tree by its segments and its readings.
use Rattle.std.specs.Prelude.{◌≡◌, ℕ, zero, suc, ℤ, List, length, take, drop, get_or, Option, Some, None}
use Rattle.segment.specs.declared.segments.Seg.{Seg}
use Rattle.segment.specs.Nodes.{IsSeriesTree}
use Rattle.segment.specs.Shape.{Plan, leaf, fork, plan, count}
use Rattle.segment.specs.Tree.{SegTree, tip, node, width, all_readings, all_segs}
use Rattle.seg_tree.specs.Linked.{no_node}

-- it is the tree of these readings, and it has these segments in preorder
pub record IsTreeWith (segs : List Seg) (xs : List ℤ) (t : Option SegTree) : Type 0 where
  pub over : IsSeriesTree (length xs) t
  pub segments : all_segs t ≡ segs
  pub readings : all_readings t ≡ xs

-- they are the segments and the readings of a tree
abbrev pub HaveTree : List Seg → List ℤ → Type 0
HaveTree segs xs = (t : Option SegTree) × IsTreeWith segs xs t

abbrev pub first_seg : List Seg → Seg
first_seg segs = get_or segs 0 no_node.seg

-- the tree with these ranges that has these segments in preorder and these readings
abbrev pub rebuilt : Plan → List Seg → List ℤ → SegTree
rebuilt (leaf start len) segs xs = tip (first_seg segs) xs
rebuilt (fork start len l r) segs xs =
    node (first_seg segs) (rebuilt l (take (count l) (drop 1 segs)) (take (width l) xs))
    (rebuilt r (drop (count l) (drop 1 segs)) (drop (width l) xs))

-- the tree over n readings that has these segments and these readings
abbrev pub rebuilt_series : ℕ → List Seg → List ℤ → Option SegTree
rebuilt_series zero segs xs = None
rebuilt_series (suc n) segs xs = Some (rebuilt (plan 0 (suc n)) segs xs)

-- there is one tree with these segments and these readings
abbrev pub TreesDiffer : Type 0
TreesDiffer = (segs : List Seg) (xs : List ℤ) (s t : Option SegTree) → IsTreeWith segs xs s
    → IsTreeWith segs xs t → s ≡ t

-- A tree to which readings are added.
use Rattle.std.specs.Prelude.{◌≡◌, ℕ, ◌-◌, ◌≤◌, ◌^◌, ◌++◌, ℤ, List, [], ◌∷◌, length, take, Option, Some, None}
use Rattle.segment.specs.declared.segments.Seg.{Seg}
use Rattle.segment.specs.Growth.{kept_or_fit, tree_by}
use Rattle.segment.specs.Measure.{AreReadings}
use Rattle.segment.specs.Nodes.{IsSeriesTree}
use Rattle.segment.specs.Shape.{Range, plan}
use Rattle.segment.specs.Tree.{SegTree, readings_of, all_readings, all_segs, fitted_series, IsTreeOver}
use Rattle.seg_tree.specs.Linked.{Places}
use Rattle.seg_tree.specs.Reached.{StandsIn}

-- the tree over readings in which each range has the segment that f tells; there is none over no readings
abbrev pub told_series : (Range → Seg) → List ℤ → Option SegTree
told_series f [] = None
told_series f (x ∷ xs) = Some (tree_by f (plan 0 (length (x ∷ xs))) (x ∷ xs))

-- the tree with more readings behind its own: a range that was there keeps its segment, each other has the fit of its
-- readings
abbrev pub grown_tree : ℕ → Option SegTree → List ℤ → Option SegTree
grown_tree degree t more =
    told_series (kept_or_fit degree (all_readings t ++ more) (all_segs t)) (all_readings t ++ more)

-- a tree that was fitted and grows is the fitted one over all readings
abbrev pub FittedTreesGrow : Type 0
FittedTreesGrow = (degree : ℕ) (xs more : List ℤ)
    → grown_tree degree (fitted_series degree xs) more ≡ fitted_series degree (xs ++ more)

-- a tree that grows is a tree of its readings and those behind them
pub record GrowsTo (t grown : Option SegTree) (more : List ℤ) : Type 0 where
  pub tree : IsSeriesTree (length (all_readings t ++ more)) grown
  pub readings : all_readings grown ≡ all_readings t ++ more

abbrev pub TreesGrow : Type 0
TreesGrow = (degree n : ℕ) (t : Option SegTree) (more : List ℤ) → IsSeriesTree n t → AreReadings more
    → length (all_readings t ++ more) ≤ 2 ^ 20 → GrowsTo t (grown_tree degree t more) more

-- a place has the node of the old tree over its readings from start on, where the old ones are the first of xs
pub record IsOldPart (nodes : Places) (p start old : ℕ) (xs : List ℤ) (t : SegTree) : Type 0 where
  pub over : IsTreeOver old t
  pub front : take old xs ≡ readings_of t
  pub at : StandsIn nodes t p (record { start = start; len = old - start })

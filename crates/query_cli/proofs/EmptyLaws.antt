-- An append of no readings.
use Rattle.std.proofs.Common.{◌≡◌, ◌∙◌, ◌<◌, ℕ, List, [], ◌∷◌, ◌++◌, length, Option, Some, None, refl, sym, ap, inl, inr, arith}
use Rattle.std.proofs.lemmas.Bool.{cases_Bool}
use Rattle.std.proofs.lemmas.List.{append-nil}
use Rattle.semantics.specs.Names.{same_name}
use Rattle.segment.specs.declared.segments.Seg.{Seg}
use Rattle.segment.specs.Growth.{kept_or_fit, tree_by}
use Rattle.segment.specs.Nodes.{IsSeriesTree}
use Rattle.segment.specs.Shape.{Range, plan}
use Rattle.segment.specs.Tree.{SegTree, readings_of, segs_of, plan_of}
use Rattle.segment.proofs.GrowthLaws.{told-kept, tree_by-part}
use Rattle.segment.proofs.PartLaws.{part_self}
use Rattle.seg_tree.specs.Grown.{grown_tree, told_series}
use Rattle.seg_tree.proofs.GrownSeries.{told_series-some}
use Rattle.store_file.specs.Grown.{grown_series}
use Rattle.store_file.specs.StoreValue.{EachTree, Series, StoreValue, count_of}
use Rattle.query_cli.specs.Replay.{EmptyGrowthStays}

tree-stays : (degree n : ℕ) (t : Option SegTree) → IsSeriesTree n t → grown_tree degree t [] ≡ t
tree-stays degree n None is = refl
tree-stays degree n (Some t) over =
    let xs = readings_of t in
    let f : Range → Seg = kept_or_fit degree xs (segs_of t) in
    let some : 0 < length xs = omega (arith, over.long, over.some) in
    let all : xs ++ [] ≡ xs = append-nil xs in
    let ranges : plan 0 (length xs) ≡ plan_of t = ap (plan 0) over.long ∙ sym over.shaped in
    ap (λ ys. told_series (kept_or_fit degree ys (segs_of t)) ys) all
    ∙ told_series-some f xs some
    ∙ ap (λ p. Some (tree_by f p xs)) ranges
    ∙ ap Some (tree_by-part f n t t over (told-kept degree t xs) (part_self t))

series-stay : (degree : ℕ) (ss : List Series) (name : List ℕ) → EachTree ss → grown_series degree ss name [] ≡ ss
series-stay degree [] name each = refl
series-stay degree (s ∷ ss) name each = elim (cases_Bool (same_name name s.name)) [
  | inl here ↦ rw here (ap (λ (t : Option SegTree). record { name = s.name; tree = t } ∷ ss) (tree-stays degree (count_of s) s.tree each.0))
  | inr other ↦ rw other (ap (λ q. s ∷ q) (series-stay degree ss name each.1))
]

pub empty-growth-stays : EmptyGrowthStays
empty-growth-stays m name is =
    ap (λ (ss : List Series). let k : StoreValue = record { scale = m.scale; degree = m.degree; series = ss } in k) (series-stay m.degree m.series name is.trees)

-- Laws of the tree of a series to which readings are added.
use Rattle.std.proofs.Common.{◌≡◌, ℕ, ◌+◌, ◌-◌, ◌<◌, ◌≤◌, ◌^◌, ℤ, pos, List, [], ◌∷◌, ◌++◌, length, take, drop, map, Option, Some, None, unwrap_or, refl, ap, ap₂, ◌∙◌, sym, subst, arith, inl, inr, length-append, eq-eqb, ne_eqb, length-take-le, length-drop, take_all}
use Rattle.std.specs.List.{Contains}
use Rattle.std.proofs.lemmas.Bool.{cases_lt, cases_eq}
use Rattle.std.proofs.lemmas.List.{take-append-le, get_or_append_left, get_or-append_right}
use Rattle.std.proofs.lemmas.List.Elements.{Contains-append_right}
use Rattle.segment.specs.declared.segments.Seg.{Seg}
use Rattle.segment.specs.Fit.{fit_of, fit_over, readings_in}
use Rattle.segment.specs.Growth.{kept_or_fit, tree_by}
use Rattle.segment.specs.Measure.{AreReadings}
use Rattle.segment.specs.Nodes.{IsSeriesTree, find_seg}
use Rattle.segment.specs.Shape.{Range, plan, shape}
use Rattle.segment.specs.Tree.{SegTree, readings_of, fits, fitted_series, all_readings, all_segs, segs_of}
use Rattle.segment.proofs.AlignedRanges.{shape-aligned}
use Rattle.segment.proofs.GrowthLaws.{fits-behind, front_readings, grown-over, readings-tree_by}
use Rattle.segment.proofs.TreeLaws.{all_segs-fitted_series, all_readings-fitted_series, fitted-is}
use Rattle.seg_tree.specs.Grown.{told_series, grown_tree, FittedTreesGrow, TreesGrow}

pub told_series-some : (f : Range → Seg) (xs : List ℤ) → 0 < length xs → told_series f xs ≡ Some (tree_by f (plan 0 (length xs)) xs)
told_series-some f [] some = absurd (omega (arith, some))
told_series-some f (x ∷ xs) some = refl

pub told_series-readings : (f : Range → Seg) (xs : List ℤ) → all_readings (told_series f xs) ≡ xs
told_series-readings f [] = refl
told_series-readings f (x ∷ xs) = readings-tree_by f (plan 0 (length (x ∷ xs))) (x ∷ xs)

-- ---- a fitted tree grows to a fitted one

-- where f tells the fits, the tree is the fitted one
told-fits : (degree : ℕ) (f : Range → Seg) (xs : List ℤ) → ((r : Range) → f r ≡ fit_over degree xs r) → told_series f xs ≡ fitted_series degree xs
told-fits degree f [] all = refl
told-fits degree f (x ∷ xs) all =
    let whole = fits-behind degree 0 (x ∷ xs) f 0 (length (x ∷ xs)) (λ r past. all r) (omega arith) (omega arith) in
    let same = take_all (length (x ∷ xs)) (x ∷ xs) (omega arith) in
    ap Some (subst (λ ys. tree_by f (plan 0 (length (x ∷ xs))) ys ≡ fits degree (plan 0 (length (x ∷ xs))) ys) same whole)

front : (xs more : List ℤ) → take (length xs) (xs ++ more) ≡ xs
front xs more = take-append-le (length xs) xs more (omega arith) ∙ take_all (length xs) xs (omega arith)

-- a fit within the old readings is that of all
fit-front : (degree : ℕ) (xs more : List ℤ) (r : Range) → r.start + r.len ≤ length xs → fit_over degree xs r ≡ fit_over degree (xs ++ more) r
fit-front degree xs more r within =
    let same : readings_in xs r ≡ readings_in (xs ++ more) r =
    ap (λ ys. take r.len (drop r.start ys)) (sym (front xs more)) ∙ front_readings (xs ++ more) r.start r.len (length xs) within in
    ap (fit_of degree r.start) same

long-in : (xs : List ℤ) (r : Range) → r.start + r.len ≤ length xs → length (readings_in xs r) ≡ r.len
long-in xs r within = length-take-le r.len (drop r.start xs) (omega (arith, length-drop r.start xs))

-- a range that has one of these fits as its segment has its own fit
found-fit : (degree : ℕ) (xs more : List ℤ) (qs : List Range) → ((q : Range) → Contains qs q → q.start + q.len ≤ length xs) → (r : Range)
    → unwrap_or (find_seg (map (fit_over degree xs) qs) r) (fit_over degree (xs ++ more) r) ≡ fit_over degree (xs ++ more) r
found-fit degree xs more [] within r = refl
found-fit degree xs more (q ∷ qs) within r =
    let rest = found-fit degree xs more qs (λ p has. within p (Contains-append_right (q ∷ []) qs p has)) r in
    let here : q.start + q.len ≤ length xs = within q (0, omega arith, refl) in
    let long = long-in xs q here in
    elim (cases_eq q.start r.start) [
      | inl a ↦ elim (cases_eq (length (readings_in xs q)) r.len) [
        | inl b ↦
            let same : q ≡ r = ap₂ (λ s l. let x : Range = record { start = s; len = l } in x) a (sym long ∙ b) in
            rw (eq-eqb q.start r.start a, eq-eqb (length (readings_in xs q)) r.len b)
            (fit-front degree xs more q here ∙ ap (fit_over degree (xs ++ more)) same)
        | inr ne ↦ rw (eq-eqb q.start r.start a, ne_eqb (length (readings_in xs q)) r.len ne) rest
      ]
      | inr ne ↦ rw (ne_eqb q.start r.start ne) rest
    ]

shape-within : (n : ℕ) (q : Range) → Contains (shape n) q → q.start + q.len ≤ n
shape-within n q has = let a = (shape-aligned n q).0 has in omega (arith, a.within, a.spans)

pub fitted-trees-grow : FittedTreesGrow
fitted-trees-grow degree xs more =
    let readings = all_readings-fitted_series degree xs in
    let segs = all_segs-fitted_series degree xs in
    rw (readings, segs)
    (told-fits degree (kept_or_fit degree (xs ++ more) (map (fit_over degree xs) (shape (length xs)))) (xs ++ more)
    (λ r. found-fit degree xs more (shape (length xs)) (shape-within (length xs)) r))

-- the first readings of a series that had none make the fitted tree
pub grown_tree-none : (degree : ℕ) (more : List ℤ) → grown_tree degree None more ≡ fitted_series degree more
grown_tree-none degree more = fitted-trees-grow degree [] more

-- ---- a tree grows to a tree

small-both : (xs more : List ℤ) → AreReadings xs → AreReadings more → AreReadings (xs ++ more)
small-both xs more first second i = elim (cases_lt i (length xs)) [
  | inl lt ↦ rw (get_or_append_left xs more (pos 0) i lt) (first i)
  | inr past ↦ rw (get_or-append_right xs more (length xs) i (pos 0) refl past) (second (i - length xs))
]

fitted-tree : (degree : ℕ) (xs : List ℤ) → AreReadings xs → length xs ≤ 2 ^ 20 → IsSeriesTree (length xs) (fitted_series degree xs)
fitted-tree degree [] small few = refl
fitted-tree degree (x ∷ xs) small few = fitted-is degree (x ∷ xs) (omega arith) few small

grown-tree : (degree n : ℕ) (t : Option SegTree) (more : List ℤ) → IsSeriesTree n t → AreReadings more → length (all_readings t ++ more) ≤ 2 ^ 20
    → IsSeriesTree (length (all_readings t ++ more)) (grown_tree degree t more)
grown-tree degree n None more is small few = rw (grown_tree-none degree more) (fitted-tree degree more small few)
grown-tree degree n (Some t) more is small few =
    let xs = readings_of t ++ more in
    let long : n ≤ length xs = omega (arith, is.long, length-append (readings_of t) more) in
    let first : take n xs ≡ readings_of t = ap (λ k. take k xs) (sym is.long) ∙ front (readings_of t) more in
    let some : 0 < length xs = omega (arith, is.some, long) in
    rw (told_series-some (kept_or_fit degree xs (segs_of t)) xs some)
    (grown-over degree n t xs is first long few (small-both (readings_of t) more is.small small))

pub trees-grow : TreesGrow
trees-grow degree n t more is small few = record {
  tree = grown-tree degree n t more is small few;
  readings = told_series-readings (kept_or_fit degree (all_readings t ++ more) (all_segs t)) (all_readings t ++ more);
}

-- The interval of each cut of a descent holds the value of the query.
use Rattle.std.proofs.Common.{◌≡◌, ℕ, zero, suc, ◌+◌, cond, Bool, true, false, inl, inr, ℤ, pos, ◌+ℤ◌, ◌-ℤ◌, ◌*ℤ◌, Option, Some, None, List, [], ◌∷◌, ◌++◌, length, refl, sym, ap, ap₂, subst, ◌∙◌, append_assoc, append-nil}
use Rattle.std.specs.Prelude.{◌==◌, IsSomeAnd}
use Rattle.std.specs.List.{list_any}
use Rattle.std.proofs.lemmas.Bool.{cases_Bool}
use Rattle.semantics.specs.Admission.{query_names}
use Rattle.semantics.specs.Names.{same_name}
use Rattle.semantics.specs.Plain.{IsPlain}
use Rattle.semantics.specs.Readings.{positions_in, reading_at}
use Rattle.semantics.specs.Sums.{total_below}
use Rattle.semantics.specs.Term.{Term, base, constant, bare, plus, minus, times, shift, QueryTerm, number, sum, variance, covariance, add, sub, mul}
use Rattle.semantics.specs.Value.{count_of, domain_of, query_value, range_or, series_value, sum_over, value_from}
use Rattle.interval.specs.Interval.{Has as HasValue}
use Rattle.segment.specs.Nodes.{tree_in, Forest}
use Rattle.segment.specs.Tree.{SegTree, tip, node, all_readings, readings_of}
use Rattle.bounds.specs.Segments.{OfEachName}
use Rattle.error_prop.specs.QueryOver.{OfEachSum}
use Rattle.error_prop.proofs.QueryOverLaws.{same_domain}
use Rattle.descent.specs.declared.Pick.{Pick}
use Rattle.descent.specs.Sums.{interval_in}
use Rattle.descent.specs.Choice.{choice, Has}
use Rattle.descent.specs.Descents.{Node, Nodes, below, cut_of, is_at, root_nodes, root_track, roots, roots_from, expanded_row, expanded, expanded_if, next, after}
use Rattle.descent.specs.Below.{readings_in, readings_by}
use Rattle.descent.specs.Laws.{stored, stored_from, EachCutHoldsTheValue}
use Rattle.descent.proofs.Admits.{each-sum, named-any}
use Rattle.descent.proofs.Truth.{holds_value}
use Rattle.descent.proofs.Ends.{after_true, roots_true}

-- ---- the readings stay

below_readings : (t : SegTree) (ns : List Node) → readings_in (below t ++ ns) ≡ readings_of t ++ readings_in ns
below_readings (tip g xs) ns = refl
below_readings (node g left right) ns = sym (append_assoc (readings_of left) (readings_of right) (readings_in ns))

row_readings : (start : ℕ) (ns : List Node) → readings_in (expanded_row start ns) ≡ readings_in ns
row_readings start [] = refl
row_readings start (n ∷ ns) = elim (cases_Bool (is_at start n)) [
  | inl t ↦ rw t (below_readings n.tree ns)
  | inr f ↦ rw f (ap (λ xs. readings_of n.tree ++ xs) (row_readings start ns))
]

-- two lists of tracks say the same of each name
record AreSame (a b : Nodes) : Type 0 where
  readings : (name : List ℕ) → readings_by a name ≡ readings_by b name

expanded_same : (at : Pick) (ns : Nodes) → AreSame (expanded at ns) ns
expanded_same at [] = record { readings = λ name. refl }
expanded_same at (n ∷ ns) =
    let i = expanded_same at ns in
    elim (cases_Bool (n.series == at.series)) [
      | inl t ↦ record {
        readings = λ name. rw t (ap₂ (λ xs ys. cond (same_name n.name name) xs ys) (row_readings at.start n.rows) (i.readings name));
      }
      | inr f ↦ record {
        readings = λ name. rw f (ap (λ ys. cond (same_name n.name name) (readings_in n.rows) ys) (i.readings name));
      }
    ]

next_same : (q : QueryTerm) (ns : Nodes) → AreSame (next q ns) ns
next_same q ns = by (choice q (cut_of ns))
  where
    by : (o : Option Pick) → AreSame (expanded_if o ns) ns
    by None = record { readings = λ name. refl }
    by (Some at) = expanded_same at ns

after_same : (q : QueryTerm) (first : Nodes) (k : ℕ) → AreSame (after q first k) first
after_same q first zero = record { readings = λ name. refl }
after_same q first (suc k) =
    let n = next_same q (after q first k) in
    let i = after_same q first k in
    record { readings = λ name. n.readings name ∙ i.readings name }

-- ---- a query looks at the readings that it names alone

same-series : (X Y : List ℕ → List ℤ) (t : Term) (i : ℤ) → OfEachName (λ name. X name ≡ Y name) t → series_value X t i ≡ series_value Y t i
same-series X Y (base name) i h = ap (λ xs. reading_at xs i) h
same-series X Y (constant v a b) i h = refl
same-series X Y (bare v) i h = refl
same-series X Y (plus u v) i h = ap₂ (λ a b. a +ℤ b) (same-series X Y u i h.0) (same-series X Y v i h.1)
same-series X Y (minus u v) i h = ap₂ (λ a b. a -ℤ b) (same-series X Y u i h.0) (same-series X Y v i h.1)
same-series X Y (times u v) i h = ap₂ (λ a b. a *ℤ b) (same-series X Y u i h.0) (same-series X Y v i h.1)
same-series X Y (shift u k) i h = same-series X Y u (i -ℤ k) h

same-total : (f g : ℕ → ℤ) (n : ℕ) → ((i : ℕ) → f i ≡ g i) → total_below f n ≡ total_below g n
same-total f g zero h = refl
same-total f g (suc n) h = ap₂ (λ a b. a +ℤ b) (same-total f g n h) (h n)

same-counts : (X Y : List ℕ → List ℤ) (t : Term) → OfEachName (λ name. X name ≡ Y name) t → OfEachName (λ name. count_of X name ≡ count_of Y name) t
same-counts X Y (base name) h = ap length h
same-counts X Y (constant v a b) h = tt
same-counts X Y (bare v) h = tt
same-counts X Y (plus u v) h = (same-counts X Y u h.0, same-counts X Y v h.1)
same-counts X Y (minus u v) h = (same-counts X Y u h.0, same-counts X Y v h.1)
same-counts X Y (times u v) h = (same-counts X Y u h.0, same-counts X Y v h.1)
same-counts X Y (shift u k) h = same-counts X Y u h

same-value : (X Y : List ℕ → List ℤ) (q : QueryTerm) → IsPlain q → OfEachSum (OfEachName (λ name. X name ≡ Y name)) q → query_value X q ≡ query_value Y q
same-value X Y (number v) p h = refl
same-value X Y (sum t range) p h =
    let d = same_domain (count_of X) (count_of Y) t (same-counts X Y t h) in
    ap (λ d. sum_over X t (range_or range d)) d
    ∙ (let r = range_or range (domain_of (count_of Y) t) in same-total (value_from X t r.left) (value_from Y t r.left) (positions_in r.left r.right) (λ i. same-series X Y t (r.left +ℤ pos i) h))
same-value X Y (variance t range) p h = absurd p
same-value X Y (covariance t u range) p h = absurd p
same-value X Y (add a b) p h = ap₂ (λ x y. x +ℤ y) (same-value X Y a p.0 h.0) (same-value X Y b p.1 h.1)
same-value X Y (sub a b) p h = ap₂ (λ x y. x -ℤ y) (same-value X Y a p.0 h.0) (same-value X Y b p.1 h.1)
same-value X Y (mul a b) p h = ap₂ (λ x y. x *ℤ y) (same-value X Y a p.0 h.0) (same-value X Y b p.1 h.1)

root-reads : (t : Option SegTree) → readings_in (root_nodes t) ≡ all_readings t
root-reads None = refl
root-reads (Some t) = append-nil (readings_of t)

named-reads : (q : QueryTerm) (forest : Forest) (k : ℕ) (names : List (List ℕ)) (name : List ℕ) → Has name (query_names q) → readings_by (roots_from q forest k names) name ≡ stored_from forest k names name
named-reads q forest k [] name h = refl
named-reads q forest k (m ∷ names) name h =
    by (same_name m name) (list_any (same_name m) (query_names q)) refl refl (named-reads q forest (k + 1) names name h)
  where
    rest : Nodes
    rest = roots_from q forest (k + 1) names

    by : (b n : Bool) → same_name m name ≡ b → list_any (same_name m) (query_names q) ≡ n → readings_by rest name ≡ stored_from forest (k + 1) names name
        → readings_by (cond n (root_track k m (tree_in forest k) ∷ rest) rest) name ≡ cond b (all_readings (tree_in forest k)) (stored_from forest (k + 1) names name)
    by true true eb en i = rw eb (root-reads (tree_in forest k))
    by true false eb en i = let t = named-any m name (query_names q) h eb in let bad : false ≡ true = sym en ∙ t in cc
    by false true eb en i = rw eb i
    by false false eb en i = i

pub each_cut_holds_the_value : EachCutHoldsTheValue
each_cut_holds_the_value = λ lengths forest names q k fits plain.
    let first = roots q forest names in
    let nodes = after q first k in
    let same = after_same q first k in
    let X = stored forest names in
    let names_same = each-sum (λ name. readings_by nodes name ≡ X name) q (λ name h. same.readings name ∙ named-reads q forest 0 names name h) in
    subst (λ v. IsSomeAnd (interval_in (cut_of nodes) q) (λ iv. HasValue iv v)) (same-value (readings_by nodes) X q plain names_same)
    (holds_value nodes q (after_true q first k (roots_true q lengths forest 0 names fits)) plain)

-- Each budget is met, by one cut.
use Rattle.std.proofs.Common.{◌≡◌, ℕ, zero, suc, ◌+◌, ◌<◌, ◌≤◌, ◌⊎◌, inl, inr, cond, Bool, true, false, Option, Some, None, List, [], ◌∷◌, ◌++◌, length, refl, sym, ap, subst, ◌∙◌, arith, below_more, length-append}
use Rattle.std.specs.Prelude.{◌==◌}
use Rattle.std.specs.List.{All, list_any}
use Rattle.std.proofs.lemmas.Bool.{cases_lt, cases_Bool}
use Rattle.semantics.specs.Admission.{query_names}
use Rattle.semantics.specs.Plain.{IsPlain}
use Rattle.semantics.specs.Names.{same_name}
use Rattle.semantics.specs.Term.{QueryTerm}
use Rattle.segment.specs.Nodes.{Forest, IsForest, IsSeriesTree, tree_in}
use Rattle.segment.specs.Tree.{SegTree, tip, node, readings_of}
use Rattle.descent.specs.declared.Pick.{Pick}
use Rattle.interval.specs.Interval.{Interval}
use Rattle.error_prop.specs.Queries.{lines_of}
use Rattle.error_prop.specs.QueryOver.{sums_over}
use Rattle.descent.specs.Rows.{Track, Cut, entries}
use Rattle.descent.specs.Sums.{interval_in, width_of, IsWithin}
use Rattle.descent.specs.Choice.{choice}
use Rattle.descent.specs.Descents.{Node, Nodes, below, cut_of, is_at, root_nodes, root_track, roots_from, roots, expanded_row, expanded_track, expanded, expanded_if, next, after, Meets, IsLast}
use Rattle.descent.specs.Laws.{EachBudgetIsMet}
use Rattle.descent.proofs.Exact.{exact_width, IsNothing}
use Rattle.descent.proofs.Truth.{IsTrueFrom, AreTrueFrom, AreTrueTracks, is-there, tree_true}
use Rattle.descent.proofs.Works.{works, counts, expanded-less, no-choice, chosen-there}

-- ---- the nodes stay true

below_true : (at : ℕ) (t : SegTree) (ns : List Node) → IsTrueFrom at t → AreTrueFrom (at + length (readings_of t)) ns → AreTrueFrom at (below t ++ ns)
below_true at (tip g xs) ns h rest = (h, rest)
below_true at (node g left right) ns h rest =
    let e : at + length (readings_of left ++ readings_of right) ≡ at + length (readings_of left) + length (readings_of right) = omega (arith, length-append (readings_of left) (readings_of right)) in
    (h.2, (h.3, subst (λ k. AreTrueFrom k ns) e rest))

row_true : (start at : ℕ) (ns : List Node) → AreTrueFrom at ns → AreTrueFrom at (expanded_row start ns)
row_true start at [] h = tt
row_true start at (n ∷ ns) h = elim (cases_Bool (is_at start n)) [
  | inl t ↦ rw t (below_true at n.tree ns h.0 h.1)
  | inr f ↦ rw f (h.0, row_true start (at + length (readings_of n.tree)) ns h.1)
]

track_true : (at : Pick) (track : Track Node) → AreTrueFrom 0 track.rows → AreTrueFrom 0 (expanded_track at track).rows
track_true at track h = elim (cases_Bool (track.series == at.series)) [
  | inl t ↦ rw t (row_true at.start 0 track.rows h)
  | inr f ↦ rw f h
]

expanded_true : (at : Pick) (nodes : Nodes) → AreTrueTracks nodes → AreTrueTracks (expanded at nodes)
expanded_true at [] h = tt
expanded_true at (track ∷ tracks) h = (track_true at track h.0, expanded_true at tracks h.1)

next_true : (q : QueryTerm) (nodes : Nodes) → AreTrueTracks nodes → AreTrueTracks (next q nodes)
next_true q nodes h = by (choice q (cut_of nodes))
  where
    by : (o : Option Pick) → AreTrueTracks (expanded_if o nodes)
    by None = h
    by (Some at) = expanded_true at nodes h

pub after_true : (q : QueryTerm) (first : Nodes) (k : ℕ) → AreTrueTracks first → AreTrueTracks (after q first k)
after_true q first zero h = h
after_true q first (suc k) h = next_true q (after q first k) (after_true q first k h)

-- ---- the roots are true

series_true : (n : ℕ) (t : Option SegTree) → IsSeriesTree n t → AreTrueFrom 0 (root_nodes t)
series_true n None h = tt
series_true n (Some t) h = (tree_true n t h, tt)

forest_true : (lengths : List ℕ) (forest : Forest) (k : ℕ) → IsForest lengths forest → AreTrueFrom 0 (root_nodes (tree_in forest k))
forest_true [] [] k h = tt
forest_true [] (t ∷ ts) k h = absurd h
forest_true (n ∷ ns) [] k h = absurd h
forest_true (n ∷ ns) (t ∷ ts) zero h = series_true n t h.0
forest_true (n ∷ ns) (t ∷ ts) (suc k) h = forest_true ns ts k h.1

pub roots_true : (q : QueryTerm) (lengths : List ℕ) (forest : Forest) (k : ℕ) (names : List (List ℕ)) → IsForest lengths forest → AreTrueTracks (roots_from q forest k names)
roots_true q lengths forest k [] h = tt
roots_true q lengths forest k (name ∷ names) h = by (list_any (same_name name) (query_names q)) (roots_true q lengths forest (k + 1) names h)
  where
    by : (b : Bool) → AreTrueTracks (roots_from q forest (k + 1) names) → AreTrueTracks (cond b (root_track k name (tree_in forest k) ∷ roots_from q forest (k + 1) names) (roots_from q forest (k + 1) names))
    by true rest = (forest_true lengths forest k h, rest)
    by false rest = rest

-- ---- the descent ends

-- where there is none to choose the interval has the width 0
pub none-wide : (q : QueryTerm) (cut : Cut) (iv : Interval) → IsPlain q → interval_in cut q ≡ Some iv → choice q cut ≡ None → width_of iv ≡ 0
none-wide q cut iv p e none =
    let n = no-choice q cut p none in
    let one : counts cut q ≡ 1 = rw e refl in
    exact_width q (sums_over (entries cut) q) iv p e (subst (λ k. All IsNothing (lines_of q (sums_over (entries cut) q) k)) one n)

pub meets : (budget : ℕ) (q : QueryTerm) (cut : Cut) (iv : Interval) → interval_in cut q ≡ Some iv → width_of iv ≤ budget → IsWithin budget (interval_in cut q)
meets budget q cut iv e le = rw e le

pub meets-back : (budget : ℕ) (q : QueryTerm) (cut : Cut) (iv : Interval) → interval_in cut q ≡ Some iv → IsWithin budget (interval_in cut q) → width_of iv ≤ budget
meets-back budget q cut iv e h = rw e at h

-- a cut that is wider than some budget has a next one, with less work
pub next-less : (q : QueryTerm) (nodes : Nodes) (budget : ℕ) → IsPlain q → AreTrueTracks nodes → (Meets budget q nodes → ⊥) → works (next q nodes) < works nodes
next-less q nodes budget p h wide = by (choice q (cut_of nodes)) refl
  where
    by : (o : Option Pick) → choice q (cut_of nodes) ≡ o → works (expanded_if o nodes) < works nodes
    by None e =
        let iv = is-there nodes q h p in
        let z = none-wide q (cut_of nodes) iv.0 p iv.1 e in
        absurd (wide (meets budget q (cut_of nodes) iv.0 iv.1 (omega arith)))
    by (Some at) e = expanded-less at nodes (chosen-there q nodes at e)

met-or-not : (budget : ℕ) (o : Option Interval) → IsWithin budget o ⊎ (IsWithin budget o → ⊥)
met-or-not budget None = inr (λ h. h)
met-or-not budget (Some iv) = elim (cases_lt budget (width_of iv)) [
  | inl lt ↦ inr (λ le. omega arith)
  | inr le ↦ inl le
]

ends : (q : QueryTerm) (first : Nodes) (budget fuel steps : ℕ) → IsPlain q → AreTrueTracks first → works (after q first steps) < fuel
    → ((k : ℕ) → k < steps → Meets budget q (after q first k) → ⊥) → (last : Nodes) × IsLast q first budget last
ends q first budget zero steps p true_ less before = absurd (omega arith)
ends q first budget (suc fuel) steps p true_ less before = elim (met-or-not budget (interval_in (cut_of (after q first steps)) q)) [
  | inr wide ↦
      ends q first budget fuel (suc steps) p true_ (omega (arith, next-less q (after q first steps) budget p (after_true q first steps true_) wide))
      (λ k lt. below_more (λ k. Meets budget q (after q first k) → ⊥) steps before wide k (omega arith))
  | inl within ↦ (after q first steps, record { steps = steps; reached = refl; within = within; before = before })
]

-- there is no other
pub last_is_one : (q : QueryTerm) (first : Nodes) (budget : ℕ) (a b : Nodes) → IsLast q first budget a → IsLast q first budget b → a ≡ b
last_is_one q first budget a b la lb = elim (cases_lt la.steps lb.steps) [
  | inl lt ↦ absurd (lb.before la.steps lt (subst (Meets budget q) la.reached la.within))
  | inr le ↦ elim (cases_lt lb.steps la.steps) [
    | inl lt ↦ absurd (la.before lb.steps lt (subst (Meets budget q) lb.reached lb.within))
    | inr ge ↦ let e : la.steps ≡ lb.steps = omega arith in la.reached ∙ ap (after q first) e ∙ sym lb.reached
  ]
]

pub each_budget_is_met : EachBudgetIsMet
each_budget_is_met = λ lengths forest names q budget h p.
    let first = roots q forest names in
    let last = ends q first budget (suc (works first)) 0 p (roots_true q lengths forest 0 names h) (omega arith) (λ k lt. absurd (omega arith)) in
    (last.0, last.1, λ other is. last_is_one q first budget other last.0 is last.1)

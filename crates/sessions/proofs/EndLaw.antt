-- After as many steps as its series have nodes, a session is within its budget.
use Rattle.std.proofs.Common.{◌≡◌, ◌⊎◌, ℕ, zero, suc, ◌+◌, ◌<◌, ◌≤◌, Bool, true, false, cond, leb, ℤ, pos, negsuc, ◌-ℤ◌, ◌≤ℤ◌, List, [], ◌∷◌, length, map, drop, get_or, Option, Some, None, refl, sym, ap, subst, ◌∙◌, arith, inl, inr, length-append}
use Rattle.std.proofs.lemmas.Int.{ints}
use Rattle.std.proofs.lemmas.Bool.{cases_lt}
use Rattle.std.proofs.lemmas.Bool.Decides.{nat_tests}
use Rattle.std.specs.List.{list_any}
use Rattle.std.specs.Prelude.{unwrap_or}
use Rattle.descent.specs.Descents.{Nodes, after, cut_of, root_nodes, root_track, roots, roots_from, Meets}
use Rattle.descent.specs.Laws.{EachBudgetIsMet}
use Rattle.descent.specs.Sums.{interval_in, width_of, IsWithin as IsMet}
use Rattle.descent.proofs.Ends.{after_true, next-less, roots_true}
use Rattle.descent.proofs.Truth.{AreTrueTracks}
use Rattle.descent.proofs.Works.{size, work_in, works}
use Rattle.interval.specs.Interval.{Interval, IsWithin}
use Rattle.segment.specs.Nodes.{Forest, tree_in}
use Rattle.segment.specs.Tree.{SegTree, tip, node, all_segs, segs_of}
use Rattle.semantics.specs.Admission.{query_names}
use Rattle.semantics.specs.Names.{same_name}
use Rattle.semantics.specs.Plain.{IsPlain}
use Rattle.semantics.specs.Readings.{from_zero}
use Rattle.semantics.specs.Term.{QueryTerm}
use Rattle.sessions.specs.Hub.{Session, expanded, first_nodes, forest_of, interval_of, is_done, next_nodes, no_interval, stepped, tree_of}
use Rattle.sessions.specs.Steady.{EachEnds, nodes_named, session_after}
use Rattle.sessions.proofs.SteadyLaw.{after-is, meet_second, nodes_after, series_forest, within_itself}
use Rattle.store_file.specs.Added.{names_in}
use Rattle.store_file.specs.StoreValue.{Series, StoreValue, count_of, name_of}

-- ---- widths

from_zero-le : (x y : ℤ) → x ≤ℤ y → from_zero x ≤ from_zero y
from_zero-le (pos a) (pos b) h = omega (arith, ints, h)
from_zero-le (pos a) (negsuc b) h = absurd (omega (arith, ints, h))
from_zero-le (negsuc a) y h = omega arith

pub narrower : (a b : Interval) → IsWithin a b → width_of a ≤ width_of b
narrower a b h = from_zero-le (a.hi -ℤ a.lo) (b.hi -ℤ b.lo) (omega (arith, ints, h.low, h.high))

pub is_le : (a b : ℕ) → a ≤ b → leb a b ≡ true
is_le a b h = grind (arith, nat_tests)

-- ---- a session that is done stays so

done-stays : (s : Session) → is_done s ≡ true → is_done (stepped s) ≡ true
done-stays s e = subst (λ b. is_done (cond b s (expanded s)) ≡ true) (sym e) e

done_same : (m : StoreValue) (q : QueryTerm) (budget n t : ℕ) → n ≡ t → is_done (session_after m q budget n) ≡ true → is_done (session_after m q budget t) ≡ true
done_same m q budget n t e done = subst (λ k. is_done (session_after m q budget k) ≡ true) e done

done_later : (m : StoreValue) (q : QueryTerm) (budget n t : ℕ) → n ≤ t → is_done (session_after m q budget n) ≡ true → is_done (session_after m q budget t) ≡ true
done_later m q budget n zero le done = done_same m q budget n 0 (omega arith) done
done_later m q budget n (suc t) le done = elim (cases_lt t n) [
  | inl lt ↦ done_same m q budget n (suc t) (omega arith) done
  | inr ge ↦ done-stays (session_after m q budget t) (done_later m q budget n t ge done)
]

-- ---- until then its cut is that of the descent

pub record IsAt (m : StoreValue) (q : QueryTerm) (budget n : ℕ) (s : Session) : Type 0 where
  pub query : s.query ≡ q
  pub budget_is : s.budget ≡ budget
  pub nodes : s.nodes ≡ nodes_after m q n
  pub inside : IsWithin s.running (interval_of q (nodes_after m q n))

reached_by : (m : StoreValue) (q : QueryTerm) (budget n : ℕ) (s : Session) (t : Bool) → is_done s ≡ t → IsAt m q budget n s
    → (is_done (cond t s (expanded s)) ≡ true) ⊎ IsAt m q budget (suc n) (cond t s (expanded s))
unfolding nodes_after
reached_by m q budget n s true e at = inl e
reached_by m q budget n s false e at =
    let same : interval_of s.query (next_nodes s.query s.nodes) ≡ interval_of q (nodes_after m q (suc n)) =
    λ i. interval_of (at.query i) (next_nodes (at.query i) (at.nodes i)) in
    inr (record {
      query = at.query;
      budget_is = at.budget_is;
      nodes = λ i. next_nodes (at.query i) (at.nodes i);
      inside = subst (λ (iv : Interval). IsWithin (expanded s).running iv) same (meet_second s.running (interval_of s.query (next_nodes s.query s.nodes)));
    })

reached : (m : StoreValue) (q : QueryTerm) (budget n : ℕ) → (is_done (session_after m q budget n) ≡ true) ⊎ IsAt m q budget n (session_after m q budget n)
unfolding nodes_after
reached m q budget zero = inr (record { query = refl; budget_is = refl; nodes = refl; inside = within_itself (interval_of q (first_nodes m q)) })
reached m q budget (suc n) = elim (reached m q budget n) [
  | inl e ↦ inl (done-stays (session_after m q budget n) e)
  | inr at ↦ reached_by m q budget n (session_after m q budget n) (is_done (session_after m q budget n)) refl at
]

met-width : (budget : ℕ) (o : Option Interval) → IsMet budget o → width_of (unwrap_or o no_interval) ≤ budget
met-width budget None h = absurd h
met-width budget (Some iv) h = h

at-done : (m : StoreValue) (q : QueryTerm) (budget n : ℕ) (s : Session) → width_of (interval_of q (nodes_after m q n)) ≤ budget → IsAt m q budget n s → is_done s ≡ true
at-done m q budget n s le at =
    is_le (width_of s.running) s.budget (omega (arith, narrower s.running (interval_of q (nodes_after m q n)) at.inside, le, at.budget_is))

done_at : (m : StoreValue) (q : QueryTerm) (budget n : ℕ) → Meets budget q (nodes_after m q n) → is_done (session_after m q budget n) ≡ true
unfolding interval_of
done_at m q budget n met = elim (reached m q budget n) [
  | inl e ↦ e
  | inr at ↦ at-done m q budget n (session_after m q budget n) (met-width budget (interval_in (cut_of (nodes_after m q n)) q) met) at
]

-- ---- how many steps a descent has

steps-work : (q : QueryTerm) (first : Nodes) (budget n : ℕ) → IsPlain q → AreTrueTracks first → ((k : ℕ) → k < n → Meets budget q (after q first k) → ⊥)
    → works (after q first n) + n ≤ works first
steps-work q first budget zero plain true_ wide = omega arith
steps-work q first budget (suc n) plain true_ wide =
    omega (
      arith,
      next-less q (after q first n) budget plain (after_true q first n true_) (wide n (omega arith)),
      steps-work q first budget n plain true_ (λ k h. wide k (omega arith)),
    )

size-segs : (t : SegTree) → size t ≡ length (segs_of t)
size-segs (tip g xs) = refl
size-segs (node g l r) = omega (arith, size-segs l, size-segs r, length-append (segs_of l) (segs_of r))

root-work : (o : Option SegTree) → work_in (root_nodes o) ≡ length (all_segs o)
root-work None = refl
root-work (Some t) = omega (arith, size-segs t)

at_drop : {X : Type 0} (xs : List X) (k : ℕ) (d x : X) (rest : List X) → drop k xs ≡ x ∷ rest → get_or xs k d ≡ x
at_drop [] zero d x rest h = cc
at_drop [] (suc k) d x rest h = cc
at_drop (y ∷ xs) zero d x rest h = cc
at_drop (y ∷ xs) (suc k) d x rest h = at_drop xs k d x rest h

behind_drop : {X : Type 0} (xs : List X) (k : ℕ) (x : X) (rest : List X) → drop k xs ≡ x ∷ rest → drop (suc k) xs ≡ rest
behind_drop [] zero x rest h = cc
behind_drop [] (suc k) x rest h = cc
behind_drop (y ∷ xs) zero x rest h = cc
behind_drop (y ∷ xs) (suc k) x rest h = behind_drop xs k x rest h

next_drop : {X : Type 0} (xs : List X) (k : ℕ) (x : X) (rest : List X) → drop k xs ≡ x ∷ rest → drop (k + 1) xs ≡ rest
next_drop xs k x rest h = let e : k + 1 ≡ suc k = omega arith in ap (λ n. drop n xs) e ∙ behind_drop xs k x rest h

roots-work : (q : QueryTerm) (forest : Forest) (k : ℕ) (ss : List Series) → drop k forest ≡ map tree_of ss
    → works (roots_from q forest k (map name_of ss)) ≡ nodes_named q ss
roots-work q forest k [] e = refl
roots-work q forest k (s ∷ ss) e =
    by (list_any (same_name s.name) (query_names q)) (roots-work q forest (k + 1) ss (next_drop forest k s.tree (map tree_of ss) e))
    (ap (λ (o : Option SegTree). work_in (root_nodes o)) (at_drop forest k None s.tree (map tree_of ss) e) ∙ root-work s.tree)
  where
    by : (b : Bool) → works (roots_from q forest (k + 1) (map name_of ss)) ≡ nodes_named q ss → work_in (root_nodes (tree_in forest k)) ≡ length (all_segs s.tree)
        → works (cond b (root_track k s.name (tree_in forest k) ∷ roots_from q forest (k + 1) (map name_of ss)) (roots_from q forest (k + 1) (map name_of ss)))
        ≡ cond b (length (all_segs s.tree)) 0 + nodes_named q ss
    by true rest here = omega (arith, rest, here)
    by false rest here = omega (arith, rest)

-- the number of steps is at most that of nodes, and once it is done a session stays so
pub each_ends : EachBudgetIsMet → EachEnds
each_ends law = λ m q budget steps is plain le.
    let forest = series_forest m.series is.trees in
    let found = law (map count_of m.series) (forest_of m) (names_in m) q budget forest plain in
    let last = found.1 in
    let few = steps-work q (roots q (forest_of m) (names_in m)) budget last.steps plain (roots_true q (map count_of m.series) (forest_of m) 0 (names_in m) forest) last.before in
    let all = roots-work q (forest_of m) 0 m.series refl in
    let done = done_at m q budget last.steps (subst (Meets budget q) (last.reached ∙ sym (after-is m q last.steps)) last.within) in
    done_later m q budget last.steps steps (omega (arith, few, all, le)) done

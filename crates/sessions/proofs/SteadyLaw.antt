-- A session's interval never widens, holds the value, and is within the budget in the end.
use Rattle.std.proofs.Common.{◌≡◌, ℕ, zero, suc, Bool, true, false, cond, ℤ, List, [], ◌∷◌, map, Option, Some, None, refl, sym, ap, ap₂, subst, arith}
use Rattle.std.proofs.lemmas.Int.{ints, clamps}
use Rattle.std.specs.Prelude.{IsSomeAnd, unwrap_or}
use Rattle.descent.specs.Descents.{Nodes, after, cut_of, next, roots}
use Rattle.descent.specs.Laws.{EachCutHoldsTheValue}
use Rattle.descent.specs.Sums.{interval_in}
use Rattle.interval.specs.Interval.{Interval, Has, IsWithin, meet_of}
use Rattle.segment.specs.Nodes.{IsForest}
use Rattle.semantics.specs.Plain.{IsPlain}
use Rattle.semantics.specs.Term.{QueryTerm}
use Rattle.sessions.specs.Hub.{Session, first_nodes, forest_of, interval_of, is_done, next_nodes, no_interval, expanded, stepped, tree_of}
use Rattle.sessions.specs.Steady.{session_after, value_for}
use Rattle.store_file.specs.Added.{names_in}
use Rattle.store_file.specs.StoreValue.{Series, StoreValue, IsStoreValue, EachTree, count_of}

-- ---- intervals

pub meet_first : (a b : Interval) → IsWithin (meet_of a b) a
meet_first a b = record { low = omega (arith, ints, clamps); high = omega (arith, ints, clamps) }

pub meet_second : (a b : Interval) → IsWithin (meet_of a b) b
meet_second a b = record { low = omega (arith, ints, clamps); high = omega (arith, ints, clamps) }

pub meet_holds : (a b : Interval) (v : ℤ) → Has a v → Has b v → Has (meet_of a b) v
meet_holds a b v g h = record { low = omega (arith, ints, clamps, g.low, h.low); high = omega (arith, ints, clamps, g.high, h.high) }

pub within_itself : (a : Interval) → IsWithin a a
within_itself a = record { low = omega (arith, ints); high = omega (arith, ints) }

-- ---- each next interval lies inside the one before

stepped_by : (s : Session) (t : Bool) → IsWithin (cond t s (expanded s)).running s.running
stepped_by s true = within_itself s.running
stepped_by s false = meet_first s.running (interval_of s.query (next_nodes s.query s.nodes))

pub steady : (s : Session) → IsWithin (stepped s).running s.running
steady s = stepped_by s (is_done s)

-- ---- the cuts of a session are those of the descent

unfoldable pub nodes_after : StoreValue → QueryTerm → ℕ → Nodes
nodes_after m q zero = first_nodes m q
nodes_after m q (suc n) = next_nodes q (nodes_after m q n)

pub after-is : (m : StoreValue) (q : QueryTerm) (n : ℕ) → nodes_after m q n ≡ after q (roots q (forest_of m) (names_in m)) n
unfolding nodes_after first_nodes next_nodes
after-is m q zero = refl
after-is m q (suc n) = ap (next q) (after-is m q n)

-- a session that was opened over a store, for a query and a budget, and is on the way of the descent
pub record IsOnWay (m : StoreValue) (q : QueryTerm) (budget : ℕ) (s : Session) : Type 0 where
  pub store : s.store ≡ m
  pub query : s.query ≡ q
  pub budget_is : s.budget ≡ budget
  pub steps : ℕ
  pub nodes : s.nodes ≡ nodes_after m q steps

on_way_by : (m : StoreValue) (q : QueryTerm) (budget : ℕ) (s : Session) (t : Bool) → IsOnWay m q budget s → IsOnWay m q budget (cond t s (expanded s))
unfolding nodes_after
on_way_by m q budget s true w = w
on_way_by m q budget s false w = record {
  store = w.store;
  query = w.query;
  budget_is = w.budget_is;
  steps = suc w.steps;
  nodes = ap₂ next_nodes w.query w.nodes;
}

pub on_way : (m : StoreValue) (q : QueryTerm) (budget n : ℕ) → IsOnWay m q budget (session_after m q budget n)
unfolding nodes_after
on_way m q budget zero = record { store = refl; query = refl; budget_is = refl; steps = 0; nodes = refl }
on_way m q budget (suc n) = on_way_by m q budget (session_after m q budget n) (is_done (session_after m q budget n)) (on_way m q budget n)

-- ---- the interval holds the value

pub series_forest : (ss : List Series) → EachTree ss → IsForest (map count_of ss) (map tree_of ss)
series_forest [] h = tt
series_forest (s ∷ ss) h = (h.0, series_forest ss h.1)

there_holds : (o : Option Interval) (v : ℤ) → IsSomeAnd o (λ iv. Has iv v) → Has (unwrap_or o no_interval) v
there_holds None v h = absurd h
there_holds (Some iv) v h = h

cut_holds : EachCutHoldsTheValue → (m : StoreValue) (q : QueryTerm) (n : ℕ) → IsStoreValue m → IsPlain q → Has (interval_of q (nodes_after m q n)) (value_for m q)
unfolding interval_of
cut_holds law m q n is plain =
    there_holds (interval_in (cut_of (nodes_after m q n)) q) (value_for m q)
    (subst (λ (ns : Nodes). IsSomeAnd (interval_in (cut_of ns) q) (λ iv. Has iv (value_for m q))) (sym (after-is m q n))
    (law (map count_of m.series) (forest_of m) (names_in m) q n (series_forest m.series is.trees) plain))

next_interval : (m : StoreValue) (q : QueryTerm) (budget : ℕ) (s : Session) (w : IsOnWay m q budget s)
    → interval_of s.query (next_nodes s.query s.nodes) ≡ interval_of q (nodes_after m q (suc w.steps))
unfolding nodes_after
next_interval m q budget s w = ap₂ (λ p ns. interval_of p (next_nodes p ns)) w.query w.nodes

holds_by : EachCutHoldsTheValue → (m : StoreValue) (q : QueryTerm) (budget : ℕ) (s : Session) (t : Bool) → IsStoreValue m → IsPlain q → IsOnWay m q budget s
    → Has s.running (value_for m q) → Has (cond t s (expanded s)).running (value_for m q)
holds_by law m q budget s true is plain w h = h
holds_by law m q budget s false is plain w h =
    meet_holds s.running (interval_of s.query (next_nodes s.query s.nodes)) (value_for m q) h
    (subst (λ (i : Interval). Has i (value_for m q)) (sym (next_interval m q budget s w)) (cut_holds law m q (suc w.steps) is plain))

-- at each moment the running interval holds the value
pub sound_running : EachCutHoldsTheValue → (m : StoreValue) (q : QueryTerm) (budget n : ℕ) → IsStoreValue m → IsPlain q → Has (session_after m q budget n).running (value_for m q)
unfolding nodes_after
sound_running law m q budget zero is plain = cut_holds law m q 0 is plain
sound_running law m q budget (suc n) is plain =
    holds_by law m q budget (session_after m q budget n) (is_done (session_after m q budget n)) is plain (on_way m q budget n) (sound_running law m q budget n is plain)

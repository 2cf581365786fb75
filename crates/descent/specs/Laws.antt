-- Each budget is met, 0 too, and each cut of a descent holds the value of the query.
use Rattle.std.specs.Prelude.{◌≡◌, ℕ, ◌+◌, ℤ, if◌then◌else◌, IsSomeAnd, List, [], ◌∷◌}
use Rattle.semantics.specs.Names.{same_name}
use Rattle.semantics.specs.Plain.{IsPlain}
use Rattle.semantics.specs.Term.{QueryTerm}
use Rattle.semantics.specs.Value.{query_value}
use Rattle.interval.specs.Interval.{Has}
use Rattle.segment.specs.Nodes.{tree_in, Forest, IsForest}
use Rattle.segment.specs.Tree.{all_readings}
use Rattle.descent.specs.Sums.{interval_in}
use Rattle.descent.specs.Descents.{Nodes, cut_of, roots, after, IsLast}

-- over the trees of series of some lengths there is, for each budget, exactly one last cut
abbrev pub EachBudgetIsMet : Type 0
EachBudgetIsMet = (lengths : List ℕ) (forest : Forest) (names : List (List ℕ)) (q : QueryTerm) (budget : ℕ)
    → IsForest lengths forest → IsPlain q
    → (last : Nodes) × IsLast q (roots q forest names) budget last
    × ((other : Nodes) → IsLast q (roots q forest names) budget other → other ≡ last)

-- the readings of the series from the k-th on, under their names
abbrev pub stored_from : Forest → ℕ → List (List ℕ) → List ℕ → List ℤ
stored_from forest k [] name = []
stored_from forest k (n ∷ names) name =
    if same_name n name then all_readings (tree_in forest k) else stored_from forest (k + 1) names name

abbrev pub stored : Forest → List (List ℕ) → List ℕ → List ℤ
stored forest names = stored_from forest 0 names

-- the interval of each cut of a descent holds the value of the query by plain sums over the readings
abbrev pub EachCutHoldsTheValue : Type 0
EachCutHoldsTheValue = (lengths : List ℕ) (forest : Forest) (names : List (List ℕ)) (q : QueryTerm) (k : ℕ)
    → IsForest lengths forest → IsPlain q
    → IsSomeAnd (interval_in (cut_of (after q (roots q forest names) k)) q)
    (λ iv. Has iv (query_value (stored forest names) q))

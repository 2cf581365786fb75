-- What is known of the series of a cut: the facts for which its query is admitted.
use Rattle.std.specs.Prelude.{◌≡◌, ℕ, zero, suc, ◌+◌, ◌<◌, true, false, if◌then◌else◌, List, [], ◌∷◌, length, map, slice_index, get_or, Option, Some, None}
use Rattle.std.specs.List.{list_any, All}
use Rattle.semantics.specs.Admission.{Fact, query_names}
use Rattle.semantics.specs.Names.{same_name}
use Rattle.semantics.specs.Term.{QueryTerm}
use Rattle.segment.specs.declared.segments.Seg.{Seg}
use Rattle.segment.specs.Nodes.{known_root}
use Rattle.descent.specs.Rows.{Track}

-- ---- of a cut

abbrev pub fact_of : {R : Type 0} → Track R → Fact
fact_of track = record { name = track.name; count = track.len; greatest = track.greatest }

abbrev pub facts_in : {R : Type 0} → List (Track R) → List Fact
facts_in tracks = map fact_of tracks

-- ---- of nodes

-- the greatest absolute reading of so many, by the root that is known
abbrev pub greatest_known : ℕ → Option Seg → ℕ
greatest_known zero root = 0
greatest_known (suc n) None = 0
greatest_known (suc n) (Some g) = g.d

abbrev pub root_head : {R : Type 0} → List ℕ → List (Option Seg) → ℕ → List ℕ → Track R
root_head lengths roots k name = record {
  series = k;
  name = name;
  len = slice_index lengths k;
  greatest = greatest_known (slice_index lengths k) (known_root roots k);
  rows = [];
}

-- the series from the k-th on, under their names
abbrev pub facts_from : List ℕ → List (Option Seg) → ℕ → List (List ℕ) → List Fact
facts_from lengths roots k [] = []
facts_from lengths roots k (name ∷ names) =
    fact_of {R = ℕ} (root_head lengths roots k name) ∷ facts_from lengths roots (k + 1) names

abbrev pub node_facts : List (List ℕ) → List ℕ → List (Option Seg) → List Fact
node_facts names lengths roots = facts_from lengths roots 0 names

-- those that a query names
abbrev pub heads_from : {R : Type 0} → QueryTerm → List ℕ → List (Option Seg) → ℕ → List (List ℕ)
    → List (Track R)
heads_from q lengths roots k [] = []
heads_from q lengths roots k (name ∷ names) =
    if list_any (same_name name) (query_names q)
    then root_head lengths roots k name ∷ heads_from q lengths roots (k + 1) names
    else heads_from q lengths roots (k + 1) names

-- the root of each series that is named, and has readings, is known
abbrev pub AreRootsKnown : QueryTerm → List (List ℕ) → List ℕ → List (Option Seg) → Type 0
AreRootsKnown q names lengths roots = (k : ℕ) → k < length names
    → list_any (same_name (get_or names k [])) (query_names q) ≡ true
    → 0 < slice_index lengths k → (g : Seg) × (known_root roots k ≡ Some g)

-- no two names are the same
abbrev pub AreApart : List (List ℕ) → Type 0
AreApart [] = Unit {0}
AreApart (name ∷ names) = All (λ other. same_name other name ≡ false) names × AreApart names

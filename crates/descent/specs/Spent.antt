-- What a step costs, by what becomes of the rows: the bytes of two children where a row is split, and those of at most
-- 16 readings where one is opened.
use Rattle.std.specs.Prelude.{◌≡◌, ℕ, ℤ, ◌+◌, ◌*◌, is_some, nat_lt, if◌then◌else◌, Option, List, [], ◌∷◌, length, slice_index, ◌⊎◌}
use Rattle.std.specs.List.{list_any}
use Rattle.semantics.specs.Admission.{query_names}
use Rattle.semantics.specs.Names.{same_name}
use Rattle.semantics.specs.Term.{QueryTerm}
use Rattle.segment.specs.Nodes.{HandsOut}
use Rattle.descent.specs.Rows.{Track}
use Rattle.descent.specs.Held.{Held}

abbrev pub opened_one : Option (List ℤ) → ℕ
opened_one readings = if is_some readings then 1 else 0

abbrev pub opened_among : {I : Type 0} → List (Held I) → ℕ
opened_among [] = 0
opened_among (h ∷ hs) = opened_one h.row.readings + opened_among hs

-- how many rows there are, and how many of them are opened
abbrev pub rows_in : {I : Type 0} → List (Track (Held I)) → ℕ
rows_in [] = 0
rows_in (track ∷ tracks) = length track.rows + rows_in tracks

abbrev pub opened_in : {I : Type 0} → List (Track (Held I)) → ℕ
opened_in [] = 0
opened_in (track ∷ tracks) = opened_among track.rows + opened_in tracks

-- a row more for at most 112 bytes, or an opened one more for at most 64
abbrev pub Spends : (rows opened rows' opened' : ℕ) → Option ℕ → Option ℕ → Type 0
Spends rows opened rows' opened' before now =
    ((rows' ≡ rows + 1) × (opened' ≡ opened) × HandsOut 112 before now)
    ⊎ ((rows' ≡ rows) × (opened' ≡ opened + 1) × HandsOut 64 before now)

-- a series has a root where it has readings
abbrev pub has_root : ℕ → ℕ
has_root len = if nat_lt 0 len then 1 else 0

-- how many series a query names that have readings, from the k-th on
abbrev pub roots_in : QueryTerm → List ℕ → ℕ → List (List ℕ) → ℕ
roots_in q lengths k [] = 0
roots_in q lengths k (name ∷ names) =
    (if list_any (same_name name) (query_names q) then has_root (slice_index lengths k) else 0)
    + roots_in q lengths (k + 1) names

-- from some rows on, as many were split as there are more now, each for at most 112 bytes, and each opened one was
-- opened for at most 64
pub record HasSpent (first rows opened : ℕ) (before now : Option ℕ) : Type 0 where
  pub splits : ℕ
  pub more : rows ≡ first + splits
  pub handed : HandsOut (112 * splits + 64 * opened) before now

-- The choice: the sum that matters most, and in it the row that is charged most.
use Rattle.std.specs.Prelude.{◌≡◌, ℕ, zero, suc, ◌+◌, ◌-◌, ◌*◌, ◌/◌, ◌^◌, ◌<◌, ◌≤◌, ◌==◌, nat_le, if◌then◌else◌, is_some, Option, Some, None, List, [], ◌∷◌, ◌++◌, map, All, ◌⊎◌}
use Rattle.semantics.specs.Admission.{SumTerm, sums_of}
use Rattle.semantics.specs.Term.{QueryTerm}
use Rattle.segment.specs.Measure.{unit}
use Rattle.error_prop.specs.Queries.{lines_of}
use Rattle.error_prop.specs.QueryOver.{sums_over}
use Rattle.error_prop.specs.declared.query.SumLine.{SumLine}
use Rattle.descent.specs.declared.Pick.{Pick}
use Rattle.descent.specs.Rows.{Row, Track, Cut, entries}
use Rattle.descent.specs.Sums.{charge_of, interval_in}

-- an element of a list
abbrev pub Has : {A : Type 0} → A → List A → Type 0
Has y [] = ⊥
Has y (x ∷ xs) = (y ≡ x) ⊎ Has y xs

-- the k-th element of a list
abbrev pub At : {A : Type 0} → ℕ → A → List A → Type 0
At k x [] = ⊥
At zero x (y ∷ ys) = x ≡ y
At (suc k) x (y ∷ ys) = At k x ys

-- ---- the first of the heaviest

-- an element before others, of which one is the first of the heaviest
abbrev pub heavier : {A : Type 0} → (A → ℕ) → A → Option A → Option A
heavier w x None = if w x == 0 then None else Some x
heavier w x (Some y) = if nat_le (w y) (w x) then Some x else Some y

-- the first of the heaviest elements, none where nothing weighs anything
abbrev pub heaviest : {A : Type 0} → (A → ℕ) → List A → Option A
heaviest w [] = None
heaviest w (x ∷ xs) = heavier w x (heaviest w xs)

-- the same in other words: all before it are lighter, and none behind it is heavier
pub record IsHeaviest {A : Type 0} (w : A → ℕ) (xs : List A) (x : A) : Type 0 where
  pub before : List A
  pub behind : List A
  pub place : xs ≡ before ++ x ∷ behind
  pub some : 0 < w x
  pub lighter : All (λ y. w y < w x) before
  pub no_heavier : All (λ y. w y ≤ w x) behind

-- ---- sums with what the query says of them

pub record Line : Type 0 where
  pub sum : SumTerm
  pub says : SumLine

abbrev pub side_by_side : List SumTerm → List SumLine → List Line
side_by_side [] ls = []
side_by_side (s ∷ ss) [] = []
side_by_side (s ∷ ss) (l ∷ ls) = record { sum = s; says = l } ∷ side_by_side ss ls

-- the sums of a query from left to right, none of which counts where there is no interval
abbrev pub lines_in : Cut → QueryTerm → List Line
lines_in cut q =
    let once = if is_some (interval_in cut q) then 1 else 0 in
    side_by_side (sums_of q) (lines_of q (sums_over (entries cut) q) once)

-- the error of a sum in whole numbers, rounded up
abbrev pub whole_error : SumLine → ℕ
whole_error l = (l.err + (unit ^ l.rank - 1)) / unit ^ l.rank

-- how much a sum matters: its sensitivity times its error
abbrev pub says_weight : SumLine → ℕ
says_weight l = l.sensitivity * whole_error l

abbrev pub weight_of : Line → ℕ
weight_of line = says_weight line.says

-- ---- rows with their charges

-- a row, by its series and start, and what it is charged for a sum
pub record Charged : Type 0 where
  pub series : ℕ
  pub start : ℕ
  pub charge : ℕ

abbrev pub charged_row : Cut → SumTerm → Track Row → Row → Charged
charged_row cut s track row = record {
  series = track.series;
  start = row.seg.start;
  charge = charge_of cut s track.name row;
}

-- the rows of some tracks of a cut, from the least series and start on
abbrev pub charged_in : Cut → SumTerm → List (Track Row) → List Charged
charged_in cut s [] = []
charged_in cut s (track ∷ tracks) = map (charged_row cut s track) track.rows ++ charged_in cut s tracks

abbrev pub charged_rows : Cut → SumTerm → List Charged
charged_rows cut s = charged_in cut s cut

abbrev pub charge : Charged → ℕ
charge c = c.charge

-- ---- the choice

abbrev pub pick_of : Charged → Pick
pick_of c = record { series = c.series; start = c.start }

-- the row that is charged most for a sum
abbrev pub row_of : Cut → Option Line → Option Charged
row_of cut None = None
row_of cut (Some line) = heaviest charge (charged_rows cut line.sum)

abbrev pub pick_if : Option Charged → Option Pick
pick_if None = None
pick_if (Some c) = Some (pick_of c)

-- the first of the sums that matter most, and in it the first of the rows that are charged most
abbrev pub choice : QueryTerm → Cut → Option Pick
choice q cut = pick_if (row_of cut (heaviest weight_of (lines_in cut q)))

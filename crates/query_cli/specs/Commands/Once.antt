-- `once`: the interval of the sum of a column over a range of positions.
use Rattle.std.specs.Prelude.{◌≡◌, ℕ, List, codes, Option, Some, None, Result, Ok, if◌then◌else◌, ℤ}
use Rattle.semantics.specs.Most.{most_scale}
use Rattle.semantics.specs.Readings.{plain_sum}
use Rattle.semantics.specs.Term.{QueryTerm, base, sum}
use Rattle.store_file.specs.Added.{with_series}
use Rattle.store_file.specs.StoreValue.{StoreValue}
use Rattle.query_cli.specs.Asked.{Asked, IsIntervalLine, admitted_in, value_of}
use Rattle.query_cli.specs.Reading.{Reading}
use Rattle.query_cli.specs.Refusals.{Refusal}
use Rattle.query_cli.specs.Replay.{empty_store}
use Rattle.query_cli.specs.Steps.{and_then, column_in, csv_bytes}
use Rattle.query_cli.specs.Words.{digit_up_to, digits_up_to, is_file, most_budget, most_position, whole_up_to, word}

-- the interval of the sum of a column over the positions from one up to another, no wider than a budget
pub record OnceCommand : Type 0 where
  pub csv : List ℕ
  pub column : List ℕ
  pub scale : ℕ
  pub budget : ℕ
  pub from : ℤ
  pub until : ℤ

-- the numbers of `once`, where each is one
abbrev pub with_numbers : List ℕ → List ℕ → Option ℕ → Option ℕ → Option ℤ → Option ℤ
    → Option OnceCommand
with_numbers csv column (Some scale) (Some budget) (Some from) (Some until) =
    Some (record { csv = csv; column = column; scale = scale; budget = budget; from = from; until = until })
with_numbers csv column (Some scale) (Some budget) (Some from) None = None
with_numbers csv column (Some scale) (Some budget) None until = None
with_numbers csv column (Some scale) None from until = None
with_numbers csv column None budget from until = None

-- `once CSV COLUMN SCALE BUDGET L R`
abbrev pub once_of : List (List ℕ) → Option OnceCommand
once_of words =
    if is_file (word words 1) then
    with_numbers (word words 1) (word words 2) (digit_up_to most_scale (word words 3))
    (digits_up_to most_budget (word words 4)) (whole_up_to most_position (word words 5))
    (whole_up_to most_position (word words 6))
    else None

-- it asks for the sum of the one series of a store of degree 0
abbrev pub one_series : OnceCommand → List ℤ → StoreValue
one_series c xs = with_series (empty_store c.scale 0) (codes "x") xs

abbrev pub sum_query : OnceCommand → QueryTerm
sum_query c = sum (base (codes "x")) (Some (record { left = c.from; right = c.until }))

-- what `once` asks, by the bytes of its file
abbrev pub summed_in : OnceCommand → List ℕ → Result Asked Refusal
summed_in c bytes =
    and_then (column_in bytes c.column c.scale None) (λ xs. admitted_in (sum_query c) (one_series c xs))

-- what `once` asks, or its first refusal
abbrev pub summed_by : Reading → OnceCommand → Result Asked Refusal
summed_by reading c = and_then (csv_bytes reading c.csv) (λ bytes. summed_in c bytes)

-- the line of an interval that holds the plain sum of the readings
pub record IsSumLine (c : OnceCommand) (xs : List ℤ) (text : List ℕ) : Type 0 where
  pub line : IsIntervalLine (record { store = one_series c xs; query = sum_query c }) c.budget text
  pub sum_is : value_of (record { store = one_series c xs; query = sum_query c }) ≡ plain_sum xs c.from c.until

-- the same, by the bytes of the file
pub record IsSummed (c : OnceCommand) (bytes text : List ℕ) : Type 0 where
  pub xs : List ℤ
  pub found : summed_in c bytes ≡ Ok (record { store = one_series c xs; query = sum_query c })
  pub sum : IsSumLine c xs text

-- the line of the sum of the readings of the column
pub record OnceAnswers (reading : Reading) (c : OnceCommand) (text : List ℕ) : Type 0 where
  pub xs : List ℤ
  pub found : summed_by reading c ≡ Ok (record { store = one_series c xs; query = sum_query c })
  pub sum : IsSumLine c xs text

-- `check`: how many series and readings a store has.
use Rattle.std.specs.Fmt.{decimal}
use Rattle.std.specs.Prelude.{◌≡◌, ◌+◌, ◌++◌, ℕ, List, [], ◌∷◌, length, codes, Option, Some, None, Result, Ok, if◌then◌else◌}
use Rattle.semantics.specs.Admission.{Fact}
use Rattle.store_file.specs.StoreValue.{Series, StoreValue, IsStoreValue, count_of, store_image}
use Rattle.query_cli.specs.Reading.{Reading, held}
use Rattle.query_cli.specs.Refusals.{Refusal}
use Rattle.query_cli.specs.Steps.{and_then, store_bytes, store_in}
use Rattle.query_cli.specs.Words.{is_file, word}

-- how many series and readings a store has
pub record CheckCommand : Type 0 where
  pub store : List ℕ

-- `check STORE`
abbrev pub check_of : List (List ℕ) → Option CheckCommand
check_of words = if is_file (word words 1) then Some (record { store = word words 1 }) else None

-- the store that `check` finds, or its first refusal
abbrev pub checked_by : Reading → CheckCommand → Result StoreValue Refusal
checked_by reading c = and_then (store_bytes reading c.store) (λ stored. store_in stored)

-- how many readings all series have
abbrev pub count_all : List Series → ℕ
count_all [] = 0
count_all (s ∷ ss) = count_of s + count_all ss

-- the same, by what is known of each series
abbrev pub counted : List Fact → ℕ
counted [] = 0
counted (fact ∷ facts) = fact.count + counted facts

-- `ok SERIES READINGS`
abbrev pub ok_line : ℕ → ℕ → List ℕ
ok_line series readings = codes "ok " ++ decimal series ++ codes " " ++ decimal readings ++ codes "\n"

-- the line of how many series and readings the store has for which the bytes of the file stand
pub record CheckAnswers (reading : Reading) (c : CheckCommand) (text : List ℕ) : Type 0 where
  pub store : StoreValue
  pub is_store : IsStoreValue store
  pub stands : reading.store c.store ≡ held (store_image store)
  pub found : checked_by reading c ≡ Ok store
  pub line : text ≡ ok_line (length store.series) (count_all store.series)

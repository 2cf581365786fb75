-- `gen`: a series of readings that a seed determines.
use Rattle.std.specs.Fmt.{decimal}
use Rattle.std.specs.Prelude.{◌≡◌, ◌-◌, ◌*◌, ◌^◌, ◌++◌, ◌&&◌, ℕ, List, [], ◌∷◌, codes, Option, Some, None, Result, Ok, Err, if◌then◌else◌}
use Rattle.semantics.specs.Files.{Files, file_of, with_file}
use Rattle.semantics.specs.Most.{most_readings}
use Rattle.semantics.specs.Names.{is_name}
use Rattle.semantics.specs.Term.{QueryTerm, base, sum, times}
use Rattle.store_file.specs.StoreValue.{StoreValue, IsStoreValue, store_image}
use Rattle.query_cli.specs.Asked.{IsAnswered}
use Rattle.query_cli.specs.Generated.{generated}
use Rattle.query_cli.specs.Reading.{Reading}
use Rattle.query_cli.specs.Refusals.{Refusal}
use Rattle.query_cli.specs.Replay.{Accepted, adds, step, replay, IsAccepted, IsHistory, Stands}
use Rattle.query_cli.specs.Steps.{and_then, room_in, store_bytes, store_in}
use Rattle.query_cli.specs.Words.{digits_up_to, is_file, word}

-- so many readings of a seed as a series of a store
pub record GenCommand : Type 0 where
  pub store : List ℕ
  pub name : List ℕ
  pub count : ℕ
  pub seed : ℕ

abbrev pub most_seed : ℕ
most_seed = 2 ^ 64 - 1

-- the numbers of `gen`, where each is one
abbrev pub with_numbers : List ℕ → List ℕ → Option ℕ → Option ℕ → Option GenCommand
with_numbers store name (Some count) (Some seed) =
    Some (record { store = store; name = name; count = count; seed = seed })
with_numbers store name (Some count) None = None
with_numbers store name None seed = None

-- `gen STORE NAME N SEED`
abbrev pub gen_of : List (List ℕ) → Option GenCommand
gen_of words =
    if is_file (word words 1) && is_name (word words 2) then
    with_numbers (word words 1) (word words 2) (digits_up_to most_readings (word words 3))
    (digits_up_to most_seed (word words 4))
    else None

-- the store to which `gen` adds its series, by the bytes of STORE
abbrev pub roomy_in : GenCommand → List ℕ → Result StoreValue Refusal
roomy_in c stored = and_then (store_in stored) (λ m. room_in m c.name)

-- the same, or the first refusal
abbrev pub roomy_by : Reading → GenCommand → Result StoreValue Refusal
roomy_by reading c = and_then (store_bytes reading c.store) (λ stored. roomy_in c stored)

-- what it adds
abbrev pub addition : GenCommand → Accepted
addition c = adds c.name (generated c.seed c.count)

-- the store that `gen` leaves
abbrev pub store_after : GenCommand → StoreValue → StoreValue
store_after c m = step m (addition c)

abbrev pub files_after_gen : Files → GenCommand → Result StoreValue Refusal → Files
files_after_gen files c (Err r) = files
files_after_gen files c (Ok m) = with_file files c.store (store_image (store_after c m))

-- ---- its lines

-- `gen NAME N`
abbrev pub gen_line : List ℕ → ℕ → List ℕ
gen_line name count = codes "gen " ++ name ++ codes " " ++ decimal count ++ codes "\n"

-- the sum of a series, and that of its squares
abbrev pub sum_of : List ℕ → QueryTerm
sum_of name = sum (base name) None

abbrev pub squares_of : List ℕ → QueryTerm
squares_of name = sum (times (base name) (base name)) None

-- `gen NAME N`, and what `query` prints for the sum of the series and for that of its squares
pub record AreLines (m : StoreValue) (name : List ℕ) (count : ℕ) (text : List ℕ) : Type 0 where
  pub sum_line : List ℕ
  pub squares_line : List ℕ
  pub sum : IsAnswered (sum_of name) m (100 * count) sum_line
  pub squares : IsAnswered (squares_of name) m (400000 * count) squares_line
  pub lines : text ≡ gen_line name count ++ sum_line ++ squares_line

-- the lines over the store with the new series
pub record GenAnswers (reading : Reading) (c : GenCommand) (text : List ℕ) : Type 0 where
  pub store : StoreValue
  pub found : roomy_by reading c ≡ Ok store
  pub lines : AreLines (store_after c store) c.name c.count text

-- ---- what becomes of STORE

-- the lines and the bytes that are written, by the bytes of STORE
pub record Generates (c : GenCommand) (stored text bytes : List ℕ) : Type 0 where
  pub store : StoreValue
  pub found : roomy_in c stored ≡ Ok store
  pub is_store : IsStoreValue store
  pub stands : store_image store ≡ stored
  pub accepted : IsAccepted store (addition c)
  pub lines : AreLines (store_after c store) c.name c.count text
  pub bytes_are : bytes ≡ store_image (store_after c store)

-- STORE is one step further than the store m
pub record StepsTo (old : Files) (c : GenCommand) (m : StoreValue) (now : Option Files) : Type 0 where
  pub accepted : IsAccepted m (addition c)
  pub files : now ≡ Some (with_file old c.store (store_image (store_after c m)))

-- what becomes of the store for which STORE stands, and of its history
pub record GenReplays (old : Files) (c : GenCommand) (now : Option Files) : Type 0 where
  pub store : (m : StoreValue) → IsStoreValue m → file_of old c.store ≡ Some (store_image m)
      → StepsTo old c m now
  pub history : (h : List Accepted) → IsHistory h → file_of old c.store ≡ Some (store_image (replay h))
      → Stands old c.store (h ++ addition c ∷ []) now

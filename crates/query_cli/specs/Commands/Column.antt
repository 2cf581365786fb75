-- What `load` and `append` have in common: a column of a CSV file is brought to a series of a store.
use Rattle.std.specs.Prelude.{◌≡◌, ◌++◌, ◌&&◌, ℕ, ℤ, List, [], ◌∷◌, Option, Some, None, Result, Ok, Err, if◌then◌else◌}
use Rattle.semantics.specs.Files.{Files, file_of, with_file}
use Rattle.semantics.specs.Names.{is_name}
use Rattle.series_csv.specs.Column.{column_of}
use Rattle.store_file.specs.StoreValue.{StoreValue, IsStoreValue, store_image}
use Rattle.query_cli.specs.Reading.{Reading}
use Rattle.query_cli.specs.Refusals.{Refusal}
use Rattle.query_cli.specs.Replay.{Accepted, step, replay, IsAccepted, IsColumnOf, IsHistory, Stands}
use Rattle.query_cli.specs.Steps.{and_then, csv_bytes, store_bytes}
use Rattle.query_cli.specs.Words.{is_file, word}

-- a column of a CSV file, for the series of a name of a store
pub record ColumnCommand : Type 0 where
  pub store : List ℕ
  pub name : List ℕ
  pub csv : List ℕ
  pub column : List ℕ

-- `STORE NAME CSV COLUMN` behind the command's name
abbrev pub column_words : List (List ℕ) → Option ColumnCommand
column_words words =
    if is_file (word words 1) && is_name (word words 2) && is_file (word words 3) then
    Some (record { store = word words 1; name = word words 2; csv = word words 3; column = word words 4 })
    else None

-- the store that is found, and the readings that are brought to it
pub record Brought : Type 0 where
  pub store : StoreValue
  pub readings : List ℤ

-- how a command brings a column: what it finds in the bytes of STORE and CSV, or its first refusal; the reading before
-- the first cell; what the store accepts; the line
pub record Bringing : Type 0 where
  pub find : List ℕ → List ℕ → Result Brought Refusal
  pub before : StoreValue → Option ℤ
  pub accepts : List ℤ → Accepted
  pub line : Brought → List ℕ

-- what is found in the files, or the first refusal
abbrev pub brought_by : Reading → ColumnCommand → Bringing → Result Brought Refusal
brought_by reading c w =
    and_then (store_bytes reading c.store) (λ stored.
    and_then (csv_bytes reading c.csv) (λ text.
    w.find stored text))

-- how many files are read: CSV where STORE could be read
abbrev pub behind_store : Result (List ℕ) Refusal → ℕ
behind_store (Ok stored) = 2
behind_store (Err r) = 1

abbrev pub column_reads : Reading → ColumnCommand → ℕ
column_reads reading c = behind_store (store_bytes reading c.store)

-- the store that is left
abbrev pub store_after : Bringing → Brought → StoreValue
store_after w b = step b.store (w.accepts b.readings)

abbrev pub files_after_column : Files → ColumnCommand → Bringing → Result Brought Refusal → Files
files_after_column files c w (Err r) = files
files_after_column files c w (Ok b) = with_file files c.store (store_image (store_after w b))

-- the line of what was brought
pub record ColumnAnswers (reading : Reading) (c : ColumnCommand) (w : Bringing) (text : List ℕ) : Type 0 where
  pub brought : Brought
  pub found : brought_by reading c w ≡ Ok brought
  pub line : text ≡ w.line brought

-- the line and the bytes that are written, by the bytes of STORE and CSV
pub record Brings (c : ColumnCommand) (w : Bringing) (stored text line bytes : List ℕ) : Type 0 where
  pub brought : Brought
  pub found : w.find stored text ≡ Ok brought
  pub store : IsStoreValue brought.store
  pub stands : store_image brought.store ≡ stored
  pub accepted : IsAccepted brought.store (w.accepts brought.readings)
  pub column : column_of text c.column brought.store.scale (w.before brought.store) ≡ Ok brought.readings
  pub line_is : line ≡ w.line brought
  pub bytes_are : bytes ≡ store_image (store_after w brought)

-- STORE is one step further than the store m, by the readings of the column
pub record StepsTo (old : Files) (c : ColumnCommand) (w : Bringing) (m : StoreValue) (now : Option Files) : Type 0 where
  pub readings : List ℤ
  pub column : IsColumnOf old c.csv c.column m.scale (w.before m) readings
  pub accepted : IsAccepted m (w.accepts readings)
  pub files : now ≡ Some (with_file old c.store (store_image (step m (w.accepts readings))))

-- STORE stands for a history with the readings of the column behind it
pub record GoesOn (old : Files) (c : ColumnCommand) (w : Bringing) (h : List Accepted) (now : Option Files) : Type 0
  where
    pub readings : List ℤ
    pub column : IsColumnOf old c.csv c.column (replay h).scale (w.before (replay h)) readings
    pub stands : Stands old c.store (h ++ w.accepts readings ∷ []) now

-- what becomes of the store for which STORE stands, and of its history
pub record ColumnReplays (old : Files) (c : ColumnCommand) (w : Bringing) (now : Option Files) : Type 0 where
  pub store : (m : StoreValue) → IsStoreValue m → file_of old c.store ≡ Some (store_image m)
      → StepsTo old c w m now
  pub history : (h : List Accepted) → IsHistory h → file_of old c.store ≡ Some (store_image (replay h))
      → GoesOn old c w h now

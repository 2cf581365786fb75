-- The steps of which commands are made: what each finds, or its refusal.
use Rattle.std.specs.Prelude.{ℕ, List, Option, Some, None, ℤ, Result, Ok, Err}
use Rattle.series_csv.specs.Column.{column_of}
use Rattle.store_file.specs.Added.{name_refusal}
use Rattle.store_file.specs.Decoded.{decode_of}
use Rattle.store_file.specs.Grown.{growth_refusal}
use Rattle.store_file.specs.Last.{last_in}
use Rattle.store_file.specs.StoreValue.{StoreValue}
use Rattle.query_cli.specs.Reading.{File, Reading, held, missing, oversized}
use Rattle.query_cli.specs.Refusals.{Refusal, absent, too_big, bad_csv, bad_store, series_fault}

-- one step behind another, whose refusal comes first
abbrev pub and_then : {A B : Type 0} → Result A Refusal → (A → Result B Refusal) → Result B Refusal
and_then (Ok a) next = next a
and_then (Err r) next = Err r

-- an error as the refusal that it is
abbrev pub refused_as : {A E : Type 0} → (E → Refusal) → Result A E → Result A Refusal
refused_as refusal (Ok a) = Ok a
refused_as refusal (Err e) = Err (refusal e)

-- a value, unless there is an error, as the refusal that it is
abbrev pub unless_refused : {A E : Type 0} → (E → Refusal) → A → Option E → Result A Refusal
unless_refused refusal a None = Ok a
unless_refused refusal a (Some e) = Err (refusal e)

-- the bytes of a file, or why there are none
abbrev pub bytes_of : List ℕ → File → Result (List ℕ) Refusal
bytes_of name (held bytes) = Ok bytes
bytes_of name missing = Err (absent name)
bytes_of name oversized = Err (too_big name)

abbrev pub csv_bytes : Reading → List ℕ → Result (List ℕ) Refusal
csv_bytes reading name = bytes_of name (reading.csv name)

abbrev pub store_bytes : Reading → List ℕ → Result (List ℕ) Refusal
store_bytes reading name = bytes_of name (reading.store name)

abbrev pub cert_bytes : Reading → List ℕ → Result (List ℕ) Refusal
cert_bytes reading name = bytes_of name (reading.cert name)

abbrev pub script_bytes : Reading → List ℕ → Result (List ℕ) Refusal
script_bytes reading name = bytes_of name (reading.script name)

-- the store for which bytes stand
abbrev pub store_in : List ℕ → Result StoreValue Refusal
store_in bytes = refused_as bad_store (decode_of bytes)

-- the store, where it has room for a series of this name
abbrev pub room_in : StoreValue → List ℕ → Result StoreValue Refusal
room_in m name = unless_refused (series_fault name) m (name_refusal m name)

-- the last reading of a series, where there is such a series
abbrev pub last_reading_in : StoreValue → List ℕ → Result (Option ℤ) Refusal
last_reading_in m name = refused_as (series_fault name) (last_in m name)

-- more readings of a series, where it does not get too long
abbrev pub short_in : StoreValue → List ℕ → List ℤ → Result (List ℤ) Refusal
short_in m name xs = unless_refused (series_fault name) xs (growth_refusal m name xs)

-- the readings of a column behind the reading before, where there is one
abbrev pub column_in : List ℕ → List ℕ → ℕ → Option ℤ → Result (List ℤ) Refusal
column_in bytes column scale before = refused_as bad_csv (column_of bytes column scale before)

-- The readings of a column of a CSV text, or the first refusal in the order of the records.
use Rattle.std.specs.Prelude.{ℕ, suc, List, [], ◌∷◌, Option, Some, None, Result, Ok, Err, nat_lt, if◌then◌else◌, ℤ}
use Rattle.std.specs.Str.{bytes_eq}
use Rattle.csv.specs.Reading.{default_config, records, strip_bom}
use Rattle.csv.specs.Records.{field_at}
use Rattle.num_text.specs.Cells.{cell_of}
use Rattle.num_text.specs.declared.cells.Cell.{Cell}
use Rattle.num_text.specs.declared.cells.Cell.TheVariants.{Value, Missing, Bad, TooLarge}
use Rattle.semantics.specs.Most.{most_readings}
use Rattle.series_csv.specs.declared.fault.CsvErr.{CsvErr}
use Rattle.series_csv.specs.declared.fault.CsvErr.TheVariants as errors

-- the records that `csv` defines for the bytes behind a byte order mark; `csv` takes one more off
abbrev pub records_of : List ℕ → List (List (List ℕ))
records_of bytes = records default_config (strip_bom (strip_bom bytes))

-- the place of the first field from place k on that is the column's name
abbrev pub place_from : ℕ → List (List ℕ) → List ℕ → Option ℕ
place_from k [] column = None
place_from k (field ∷ fields) column = if bytes_eq field column then Some k else place_from (suc k) fields column

-- the reading that a missing cell of record k repeats
abbrev pub repeated : ℕ → Option ℤ → Result ℤ CsvErr
repeated k None = Err (errors.MissingFirst k)
repeated k (Some last) = Ok last

-- the reading of record k by its cell, behind the last reading
abbrev pub by_cell : ℕ → Option ℤ → Cell → Result ℤ CsvErr
by_cell k last (Value x) = Ok x
by_cell k last Missing = repeated k last
by_cell k last Bad = Err (errors.Bad k)
by_cell k last TooLarge = Err (errors.TooLarge k)

abbrev pub by_field : ℕ → ℕ → Option ℤ → Option (List ℕ) → Result ℤ CsvErr
by_field scale k last None = Err (errors.Short k)
by_field scale k last (Some text) = by_cell k last (cell_of scale text)

-- the reading of record k, behind the last reading
abbrev pub reading_of : ℕ → ℕ → ℕ → Option ℤ → List (List ℕ) → Result ℤ CsvErr
reading_of place scale k last fields =
    if nat_lt most_readings k then Err (errors.TooLong k) else by_field scale k last (field_at fields place)

-- a reading, and the readings behind it
abbrev pub joined : ℤ → Result (List ℤ) CsvErr → Result (List ℤ) CsvErr
joined x (Ok xs) = Ok (x ∷ xs)
joined x (Err e) = Err e

-- a refusal, or the reading with the readings that stand behind it
abbrev pub followed : Result ℤ CsvErr → (Option ℤ → Result (List ℤ) CsvErr) → Result (List ℤ) CsvErr
followed (Err e) rest = Err e
followed (Ok x) rest = joined x (rest (Some x))

-- the readings of the records from number k on, behind the last reading
abbrev pub readings_from : ℕ → ℕ → ℕ → Option ℤ → List (List (List ℕ)) → Result (List ℤ) CsvErr
readings_from place scale k last [] = Ok []
readings_from place scale k last (row ∷ rows) =
    followed (reading_of place scale k last row) (λ x. readings_from place scale (suc k) x rows)

abbrev pub under_header : ℕ → Option ℤ → List (List (List ℕ)) → Option ℕ → Result (List ℤ) CsvErr
under_header scale before rows None = Err errors.NoColumn
under_header scale before rows (Some place) = readings_from place scale 1 before rows

abbrev pub of_records : List (List (List ℕ)) → List ℕ → ℕ → Option ℤ → Result (List ℤ) CsvErr
of_records [] column scale before = Err errors.NoHeader
of_records (header ∷ rows) column scale before = under_header scale before rows (place_from 0 header column)

-- the readings of a column of a CSV text, behind the reading before them
unfoldable pub column_of : List ℕ → List ℕ → ℕ → Option ℤ → Result (List ℤ) CsvErr
column_of bytes column scale before = of_records (records_of bytes) column scale before

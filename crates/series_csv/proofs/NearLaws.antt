-- The readings of a column are within the greatest reading.
use Rattle.std.proofs.Common.{◌≡◌, ◌≤◌, ℕ, zero, suc, List, [], ◌∷◌, Option, Some, None, Result, Ok, Err, Bool, true, false, cond, ltb, ℤ, unsigned_abs, refl, subst, arith}
use Rattle.std.specs.Option.{ForSome}
use Rattle.csv.specs.Records.{field_at}
use Rattle.num_text.specs.Cells.{cell_of}
use Rattle.num_text.specs.declared.cells.Cell.{Cell}
use Rattle.num_text.specs.declared.cells.Cell.TheVariants.{Value, Missing, Bad, TooLarge}
use Rattle.num_text.proofs.CellLaws.{cell_of-near}
use Rattle.semantics.specs.Readings.{reading}
use Rattle.semantics.specs.Most.{greatest_reading, most_readings}
use Rattle.series_csv.specs.Column.{by_cell, by_field, column_of, followed, joined, of_records, place_from, reading_of, readings_from, records_of, under_header}
use Rattle.series_csv.specs.declared.fault.CsvErr.{CsvErr}
use Rattle.series_csv.specs.declared.fault.CsvErr.TheVariants as errors

abbrev Near : ℤ → Type 0
Near x = unsigned_abs x ≤ greatest_reading

abbrev AllNear : List ℤ → Type 0
AllNear xs = (i : ℕ) → Near (reading xs i)

by_cell-near : (k : ℕ) (last : Option ℤ) (cell : Cell) (x : ℤ) → ForSome last Near → ((y : ℤ) → cell ≡ Value y → Near y) → by_cell k last cell ≡ Ok x → Near x
by_cell-near k last (Value y) x before near e = near x (cc)
by_cell-near k (Some y) Missing x before near e =
    let same : y ≡ x = cc in
    subst Near same (before y refl)
by_cell-near k None Missing x before near e = cc
by_cell-near k last Bad x before near e = cc
by_cell-near k last TooLarge x before near e = cc

reading_of-near : (place scale k : ℕ) (last : Option ℤ) (row : List (List ℕ)) (x : ℤ) → ForSome last Near → reading_of place scale k last row ≡ Ok x → Near x
reading_of-near place scale k last row x before e = by (ltb most_readings k) (field_at row place) e
  where
    by : (b : Bool) (field : Option (List ℕ)) → cond b (Err (errors.TooLong k)) (by_field scale k last field) ≡ Ok x → Near x
    by true field e = cc
    by false None e = cc
    by false (Some text) e = by_cell-near k last (cell_of scale text) x before (cell_of-near scale text) e

some_near : (x : ℤ) → Near x → ForSome (Some x) Near
some_near x near y e =
    let same : x ≡ y = cc in
    subst Near same near

all_near : (x : ℤ) (xs : List ℤ) → Near x → AllNear xs → AllNear (x ∷ xs)
all_near x xs near rest zero = near
all_near x xs near rest (suc i) = rest i

readings_from-near : (place scale k : ℕ) (last : Option ℤ) (rows : List (List (List ℕ))) (xs : List ℤ) → ForSome last Near
    → readings_from place scale k last rows ≡ Ok xs → AllNear xs
readings_from-near place scale k last [] xs before e =
    let same : [] ≡ xs = cc in
    subst AllNear same (λ i. omega arith)
readings_from-near place scale k last (row ∷ rows) xs before e =
    by (reading_of place scale k last row) refl e (λ x ys. readings_from-near place scale (suc k) (Some x) rows ys)
  where
    inner : (x : ℤ) (r : Result (List ℤ) CsvErr) → Near x → ((ys : List ℤ) → r ≡ Ok ys → AllNear ys) → joined x r ≡ Ok xs → AllNear xs
    inner x (Err r) near rest e = cc
    inner x (Ok ys) near rest e =
        let same : x ∷ ys ≡ xs = cc in
        subst AllNear same (all_near x ys near (rest ys refl))

    by : (r : Result ℤ CsvErr) → reading_of place scale k last row ≡ r
        → followed r (λ x. readings_from place scale (suc k) x rows) ≡ Ok xs
        → ((x : ℤ) (ys : List ℤ) → ForSome (Some x) Near → readings_from place scale (suc k) (Some x) rows ≡ Ok ys → AllNear ys)
        → AllNear xs
    by (Err r) f e more = cc
    by (Ok x) f e more =
        let near : Near x = reading_of-near place scale k last row x before f in
        inner x (readings_from place scale (suc k) (Some x) rows) near (λ ys. more x ys (some_near x near)) e

-- the readings of a column are near
pub column_near : (bytes column : List ℕ) (scale : ℕ) (before : Option ℤ) (xs : List ℤ) → ForSome before Near → column_of bytes column scale before ≡ Ok xs → AllNear xs
unfolding column_of
column_near bytes column scale before xs near e = by (records_of bytes) e
  where
    under : (rows : List (List (List ℕ))) (place : Option ℕ) → under_header scale before rows place ≡ Ok xs → AllNear xs
    under rows None e = cc
    under rows (Some place) e = readings_from-near place scale 1 before rows xs near e

    by : (rows : List (List (List ℕ))) → of_records rows column scale before ≡ Ok xs → AllNear xs
    by [] e = cc
    by (header ∷ rows) e = under rows (place_from 0 header column) e

-- The readings so far, and those of the records that are left.
use Rattle.std.proofs.Common.{◌≡◌, ℕ, suc, ◌+◌, List, [], ◌∷◌, ◌++◌, Option, Some, Result, Ok, Err, ℤ, refl, sym, ap, arith, add-one, append_assoc, Bool, true, false, cond, ltb, ◌≤◌}
use Rattle.std.proofs.lemmas.Bool.Decides.{nat_tests}
use Rattle.csv.specs.Records.{field_at}
use Rattle.semantics.specs.Most.{most_readings}
use Rattle.series_csv.specs.Column.{joined, by_field, of_records, place_from, reading_of, readings_from}
use Rattle.series_csv.specs.declared.fault.CsvErr.{CsvErr}
use Rattle.series_csv.specs.declared.fault.CsvErr.TheVariants as errors

-- the readings so far in front of the rest
abbrev pub after : List ℤ → Result (List ℤ) CsvErr → Result (List ℤ) CsvErr
after xs (Ok ys) = Ok (xs ++ ys)
after xs (Err e) = Err e

-- one more reading
pub after-more : (xs : List ℤ) (x : ℤ) (r : Result (List ℤ) CsvErr) → after xs (joined x r) ≡ after (xs ++ x ∷ []) r
after-more xs x (Ok ys) = ap Ok (sym (append_assoc xs (x ∷ []) ys))
after-more xs x (Err e) = refl

pub after-row : (xs : List ℤ) (x : ℤ) (place scale k : ℕ) (last : Option ℤ) (row : List (List ℕ)) (rows : List (List (List ℕ)))
    → reading_of place scale k last row ≡ Ok x
    → after xs (readings_from place scale k last (row ∷ rows)) ≡ after (xs ++ x ∷ []) (readings_from place scale (k + 1) (Some x) rows)
after-row xs x place scale k last row rows e = rw (e, add-one) (after-more xs x (readings_from place scale (suc k) (Some x) rows))

-- a record that has a reading is within the limit
pub reading-within : (place scale k : ℕ) (last : Option ℤ) (row : List (List ℕ)) (x : ℤ) → reading_of place scale k last row ≡ Ok x → k ≤ most_readings
reading-within place scale k last row x e = by (ltb most_readings k) refl e
  where
    by : (b : Bool) → ltb most_readings k ≡ b → cond b (Err (errors.TooLong k)) (by_field scale k last (field_at row place)) ≡ Ok x → k ≤ most_readings
    by true t e = cc
    by false t e = grind (arith, nat_tests)

pub at_column : (column : List ℕ) (scale : ℕ) (before : Option ℤ) (rows more : List (List (List ℕ))) (header : List (List ℕ)) (place : ℕ) → rows ≡ header ∷ more
    → place_from 0 header column ≡ Some place → of_records rows column scale before ≡ readings_from place scale 1 before more
at_column column scale before rows more header place e p = rw (e, p) refl

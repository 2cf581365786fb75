-- `append` by its steps.
use Rattle.std.proofs.Common.{◌≡◌, ℕ, ℤ, List, Bool, true, false, Option, Some, Result, Ok, Err, refl}
use Rattle.std.specs.Prelude.{if◌then◌else◌}
use Rattle.store_file.specs.Added.{names_in}
use Rattle.store_file.specs.Last.{last_in, last_named}
use Rattle.store_file.specs.StoreValue.{StoreValue, has_name}
use Rattle.store_file.specs.declared.adding.SeriesErr.{SeriesErr}
use Rattle.store_file.specs.declared.adding.SeriesErr.TheVariants as series
use Rattle.query_cli.specs.Commands.{append}
use Rattle.query_cli.specs.Commands.Append.{append_by, appended_in}
use Rattle.query_cli.specs.Commands.Column.{ColumnCommand}
use Rattle.query_cli.specs.Refusals.{Refusal, series_fault}
use Rattle.query_cli.specs.Steps.{column_in, last_reading_in, short_in, store_in}
use Rattle.query_cli.specs.Stops.{IfRefused, IsStepRefusal}
use Rattle.query_cli.specs.declared.stop.Stop.{Stop}
use Rattle.query_cli.proofs.CommandLaws.Column.{IsBringing}
use Rattle.query_cli.proofs.StepLaws.{no_error, step-refused}

pub is_append : (c : ColumnCommand) → IsBringing (Some (append c)) c (append_by c)
is_append c = record { refusal = λ reading. refl; answers = λ reading text h. h; after = λ m. refl; replays = λ m now h. h }

no_series : (c : ColumnCommand) (stored text : List ℕ) (m : StoreValue) (r : Refusal) → store_in stored ≡ Ok m → last_reading_in m c.name ≡ Err r → appended_in c stored text ≡ Err r
no_series c stored text m r e f = rw e (rw f refl)

no_column : (c : ColumnCommand) (stored text : List ℕ) (m : StoreValue) (last : Option ℤ) (r : Refusal) → store_in stored ≡ Ok m → last_reading_in m c.name ≡ Ok last
    → column_in text c.column m.scale last ≡ Err r → appended_in c stored text ≡ Err r
no_column c stored text m last r e f k = rw e (rw f (rw k refl))

too_long : (c : ColumnCommand) (stored text : List ℕ) (m : StoreValue) (last : Option ℤ) (xs : List ℤ) (r : Refusal) → store_in stored ≡ Ok m → last_reading_in m c.name ≡ Ok last
    → column_in text c.column m.scale last ≡ Ok xs → short_in m c.name xs ≡ Err r → appended_in c stored text ≡ Err r
too_long c stored text m last xs r e f k s = rw e (rw f (rw k (rw s refl)))

pub appended-by : (c : ColumnCommand) (stored text : List ℕ) (m : StoreValue) (last : Option ℤ) (xs : List ℤ) → store_in stored ≡ Ok m → last_reading_in m c.name ≡ Ok last
    → column_in text c.column m.scale last ≡ Ok xs → short_in m c.name xs ≡ Ok xs → appended_in c stored text ≡ Ok (record { store = m; readings = xs })
appended-by c stored text m last xs e f k s = rw e (rw f (rw k (rw s refl)))

pub series_refused : (c : ColumnCommand) (stored text : List ℕ) (m : StoreValue) (s : Stop) → store_in stored ≡ Ok m
    → IfRefused s (IsStepRefusal (last_reading_in m c.name)) → IfRefused s (IsStepRefusal (appended_in c stored text))
series_refused c stored text m s e = step-refused s (last_reading_in m c.name) (appended_in c stored text) (λ r k. no_series c stored text m r e k)

pub column_refused : (c : ColumnCommand) (stored text : List ℕ) (m : StoreValue) (last : Option ℤ) (s : Stop) → store_in stored ≡ Ok m → last_reading_in m c.name ≡ Ok last
    → IfRefused s (IsStepRefusal (column_in text c.column m.scale last)) → IfRefused s (IsStepRefusal (appended_in c stored text))
column_refused c stored text m last s e f = step-refused s (column_in text c.column m.scale last) (appended_in c stored text) (λ r k. no_column c stored text m last r e f k)

pub length_refused : (c : ColumnCommand) (stored text : List ℕ) (m : StoreValue) (last : Option ℤ) (xs : List ℤ) (s : Stop) → store_in stored ≡ Ok m → last_reading_in m c.name ≡ Ok last
    → column_in text c.column m.scale last ≡ Ok xs → IfRefused s (IsStepRefusal (short_in m c.name xs)) → IfRefused s (IsStepRefusal (appended_in c stored text))
length_refused c stored text m last xs s e f h = step-refused s (short_in m c.name xs) (appended_in c stored text) (λ r k. too_long c stored text m last xs r e f h k)

named : (m : StoreValue) (name : List ℕ) (last : Option ℤ) (there : Bool)
    → ◌≡◌ {A = Result (Option ℤ) SeriesErr} (if there then Ok (last_named m name) else Err series.Unknown) (Ok last) → last ≡ last_named m name
named m name last true h = cc
named m name last false h = cc

-- the reading before the column is the series' last one
pub last-is : (m : StoreValue) (name : List ℕ) (last : Option ℤ) → last_reading_in m name ≡ Ok last → last ≡ last_named m name
last-is m name last h = named m name last (has_name (names_in m) name) (no_error (series_fault name) (last_in m name) last h)

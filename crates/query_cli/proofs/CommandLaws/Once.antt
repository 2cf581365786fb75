-- `once` by its steps.
use Rattle.std.proofs.Common.{◌≡◌, ◌∙◌, ℕ, List, Option, Some, None, Ok, ℤ, sym, ap, ap₂, subst}
use Rattle.std.specs.Prelude.{codes}
use Rattle.std.specs.Result.{result_err}
use Rattle.semantics.specs.Files.{Files, IfTold}
use Rattle.semantics.specs.Readings.{plain_sum, positions_in, reading_from}
use Rattle.semantics.specs.Sums.{total_below}
use Rattle.semantics.specs.Term.{QueryTerm}
use Rattle.segment.proofs.TreeLaws.{all_readings-fitted_series}
use Rattle.store_file.specs.StoreValue.{StoreValue}
use Rattle.query_cli.specs.Asked.{IsAnswered, admitted_in, readings_in, value_of}
use Rattle.query_cli.specs.Commands.{once}
use Rattle.query_cli.specs.Commands.Once.{IsSummed, OnceCommand, one_series, sum_query, summed_by, summed_in}
use Rattle.query_cli.specs.Reading.{File, Reading, file_at, held, missing, most_csv}
use Rattle.query_cli.specs.Run.{IsDone, IsRefused}
use Rattle.query_cli.specs.Steps.{and_then, bytes_of, column_in}
use Rattle.query_cli.specs.Stops.{IfRefused, IfStopped, IsStepRefusal, IsUnread}
use Rattle.query_cli.specs.declared.stop.Halt.{Halt}
use Rattle.query_cli.specs.declared.stop.Stop.{Stop}
use Rattle.query_cli.proofs.StepLaws.{came, came-csv, came-read, came-refused, csv-unread, kept-files, same-files, step-refused}

-- ---- the sum

-- what is asked comes to the plain sum
pub sum_is : (c : OnceCommand) (xs : List ℤ) → value_of (record { store = one_series c xs; query = sum_query c }) ≡ plain_sum xs c.from c.until
sum_is c xs =
    let same : readings_in (one_series c xs) (codes "x") ≡ xs = all_readings-fitted_series 0 xs in
    λ p. total_below (reading_from (same p) c.from) (positions_in c.from c.until)

-- ---- over the bytes of the file

pub no_column : (c : OnceCommand) (bytes : List ℕ) (s : Stop) → IfRefused s (IsStepRefusal (column_in bytes c.column c.scale None)) → IfRefused s (IsStepRefusal (summed_in c bytes))
no_column c bytes s = step-refused s (column_in bytes c.column c.scale None) (summed_in c bytes) (λ r k. ap (λ x. and_then x (λ xs. admitted_in (sum_query c) (one_series c xs))) k)

pub no_sum : (c : OnceCommand) (bytes : List ℕ) (xs : List ℤ) (q : QueryTerm) (m : StoreValue) (s : Stop) → column_in bytes c.column c.scale None ≡ Ok xs → q ≡ sum_query c → m ≡ one_series c xs
    → IfRefused s (IsStepRefusal (admitted_in q m)) → IfRefused s (IsStepRefusal (summed_in c bytes))
no_sum c bytes xs q m s read asks is =
    step-refused s (admitted_in q m) (summed_in c bytes)
    (λ r k. ap (λ x. and_then x (λ ys. admitted_in (sum_query c) (one_series c ys))) read ∙ sym (ap₂ admitted_in asks is) ∙ k)

pub is_summed : (c : OnceCommand) (bytes : List ℕ) (xs : List ℤ) (q : QueryTerm) (m : StoreValue) (text : List ℕ) → column_in bytes c.column c.scale None ≡ Ok xs → q ≡ sum_query c → m ≡ one_series c xs
    → IsAnswered q m c.budget text → IsSummed c bytes text
is_summed c bytes xs q m text read asks is h =
    let k : IsAnswered (sum_query c) (one_series c xs) c.budget text = subst (λ p. IsAnswered p (one_series c xs) c.budget text) asks (subst (λ v. IsAnswered q v c.budget text) is h) in
    record {
      xs = xs;
      found = ap (λ x. and_then x (λ ys. admitted_in (sum_query c) (one_series c ys))) read ∙ k.admitted;
      sum = record { line = k.line; sum_is = sum_is c xs };
    }

-- ---- over the files

by_file : (c : OnceCommand) (reading : Reading) (f : File) → reading.csv c.csv ≡ f → summed_by reading c ≡ and_then (bytes_of c.csv f) (λ bytes. summed_in c bytes)
by_file c reading f e = ap (λ g. and_then (bytes_of c.csv g) (λ bytes. summed_in c bytes)) e

pub once_unread : (c : OnceCommand) (files : Option Files) (h : Halt) → IfStopped h (IsUnread files most_csv c.csv) → IfStopped h (IsRefused files (Some (once c)))
once_unread c files h =
    csv-unread files c.csv missing (Some (once c)) h
    (λ f r e k. ap result_err (by_file c (came files f missing) f e ∙ ap (λ x. and_then x (λ bytes. summed_in c bytes)) k))

pub once_refused : (c : OnceCommand) (files : Option Files) (bytes : List ℕ) (s : Stop) → IfTold files (λ m. file_at m most_csv c.csv ≡ held bytes)
    → IfRefused s (IsStepRefusal (summed_in c bytes)) → IfRefused s (IsRefused files (Some (once c)))
once_refused c files bytes s told =
    came-refused files (held bytes) missing (Some (once c)) s (summed_in c bytes)
    (λ r k. ap result_err (by_file c (came files (held bytes) missing) (held bytes) (came-csv files c.csv (held bytes) missing told) ∙ k))

pub once_done : (c : OnceCommand) (files now : Option Files) (bytes text : List ℕ) → IfTold files (λ m. file_at m most_csv c.csv ≡ held bytes)
    → IsSummed c bytes text → now ≡ files → IsDone files now (Some (once c)) text
once_done c files now bytes text told k same =
    let all : summed_by (came files (held bytes) missing) c ≡ Ok (record { store = one_series c k.xs; query = sum_query c }) =
    by_file c (came files (held bytes) missing) (held bytes) (came-csv files c.csv (held bytes) missing told) ∙ k.found in
    record {
      answer = record {
        reading = came files (held bytes) missing;
        read = came-read files (held bytes) missing;
        accepted = ap result_err all;
        answer = record { xs = k.xs; found = all; sum = k.sum };
      };
      files = same-files files now same;
      replayed = kept-files files now (Some (once c)) same;
    }

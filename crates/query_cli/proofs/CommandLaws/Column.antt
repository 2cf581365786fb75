-- `load` and `append` over their files.
use Rattle.std.proofs.Common.{◌≡◌, ◌∙◌, ◌≤◌, ℕ, ℤ, List, Option, Some, None, Result, Ok, Err, refl, sym, ap, subst, inr, arith}
use Rattle.std.specs.Result.{result_err}
use Rattle.outside.specs.Parts.{RisesBy}
use Rattle.semantics.specs.Files.{Files, IfTold, file_of, with_file}
use Rattle.series_csv.specs.Column.{column_of}
use Rattle.store_file.specs.StoreValue.{StoreValue, IsStoreValue, store_image}
use Rattle.store_file.proofs.ImageLaws.{images-differ}
use Rattle.query_cli.specs.Commands.{Answers, Command, IsReplayed, files_after, refusal_of}
use Rattle.query_cli.specs.Commands.Column.{Bringing, Brings, ColumnAnswers, ColumnCommand, ColumnReplays, GoesOn, StepsTo, behind_store, brought_by, files_after_column}
use Rattle.query_cli.specs.Reading.{File, Reading, file_at, held, missing, most_csv, most_store, reading_in}
use Rattle.query_cli.specs.Refusals.{Refusal}
use Rattle.query_cli.specs.Replay.{Accepted, replay, step, IsAccepted, IsHistory}
use Rattle.query_cli.specs.Run.{Accepts, IsDone, IsRefused}
use Rattle.query_cli.specs.Shelf.{RoseAtMost}
use Rattle.query_cli.specs.Steps.{and_then, bytes_of, store_bytes}
use Rattle.query_cli.specs.Stops.{IfRefused, IfStopped, IsStepRefusal, IsUnread}
use Rattle.query_cli.specs.declared.stop.Halt.{Halt}
use Rattle.query_cli.specs.declared.stop.Stop.{Stop}
use Rattle.query_cli.proofs.ReplayLaws.{IsHistory-more, histories-make-stores, replay-more}
use Rattle.query_cli.proofs.StepLaws.{came, came-csv, came-refused, came-store, csv-unread, file_at-held, rose-once, rose-twice, store-unread}

-- the command brings a column so
pub record IsBringing (command : Option Command) (c : ColumnCommand) (w : Bringing) : Type 0 where
  pub refusal : (reading : Reading) → refusal_of reading command ≡ result_err (brought_by reading c w)
  pub answers : (reading : Reading) (text : List ℕ) → ColumnAnswers reading c w text → Answers reading command text
  pub after : (m : Files) → files_after m command ≡ files_after_column m c w (brought_by (reading_in m) c w)
  pub replays : (m : Files) (now : Option Files) → ColumnReplays m c w now → IsReplayed m command now

-- STORE and CSV are read, and these are their bytes
pub record AreRead (files : Option Files) (c : ColumnCommand) (stored text : List ℕ) : Type 0 where
  pub store : IfTold files (λ m. file_at m most_store c.store ≡ held stored)
  pub csv : IfTold files (λ m. file_at m most_csv c.csv ≡ held text)

-- ---- refusals

behind : (c : ColumnCommand) (w : Bringing) (reading : Reading) (f g : File) → reading.store c.store ≡ f → reading.csv c.csv ≡ g
    → brought_by reading c w ≡ and_then (bytes_of c.store f) (λ stored. and_then (bytes_of c.csv g) (λ text. w.find stored text))
behind c w reading f g e h = rw e (rw h refl)

no_store : (c : ColumnCommand) (w : Bringing) (reading : Reading) (f : File) (r : Refusal) → reading.store c.store ≡ f → bytes_of c.store f ≡ Err r → brought_by reading c w ≡ Err r
no_store c w reading f r e k = rw e (rw k refl)

both : (c : ColumnCommand) (w : Bringing) (files : Option Files) (stored text : List ℕ) → AreRead files c stored text → brought_by (came files (held text) (held stored)) c w ≡ w.find stored text
both c w files stored text read =
    behind c w (came files (held text) (held stored)) (held stored) (held text)
    (came-store files c.store (held text) (held stored) read.store) (came-csv files c.csv (held text) (held stored) read.csv)

pub unread : (command : Option Command) (c : ColumnCommand) (w : Bringing) (files : Option Files) (h : Halt) → IsBringing command c w
    → IfStopped h (IsUnread files most_store c.store) → IfStopped h (IsRefused files command)
unread command c w files h is =
    store-unread files c.store missing command h (λ f r e k. is.refusal (came files missing f) ∙ ap result_err (no_store c w (came files missing f) f r e k))

pub unread_csv : (command : Option Command) (c : ColumnCommand) (w : Bringing) (files : Option Files) (stored : List ℕ) (h : Halt) → IsBringing command c w
    → IfTold files (λ m. file_at m most_store c.store ≡ held stored) → IfStopped h (IsUnread files most_csv c.csv) → IfStopped h (IsRefused files command)
unread_csv command c w files stored h is first =
    csv-unread files c.csv (held stored) command h
    (λ g r e k. is.refusal (came files g (held stored))
    ∙ ap result_err
    (behind c w (came files g (held stored)) (held stored) g (came-store files c.store g (held stored) first) e
    ∙ ap (λ x. and_then x (λ text. w.find stored text)) k))

pub refused : (command : Option Command) (c : ColumnCommand) (w : Bringing) (files : Option Files) (stored text : List ℕ) (s : Stop) → IsBringing command c w
    → AreRead files c stored text → IfRefused s (IsStepRefusal (w.find stored text)) → IfRefused s (IsRefused files command)
refused command c w files stored text s is read =
    came-refused files (held text) (held stored) command s (w.find stored text)
    (λ r k. is.refusal (came files (held text) (held stored)) ∙ ap result_err (both c w files stored text read ∙ k))

-- nothing is refused once there is something to write
pub accepted : (command : Option Command) (c : ColumnCommand) (w : Bringing) (files : Option Files) (stored text line bytes : List ℕ) → IsBringing command c w
    → AreRead files c stored text → Brings c w stored text line bytes → IfTold files (λ m. Accepts m command)
accepted command c w None stored text line bytes is read b = tt
accepted command c w (Some m) stored text line bytes is read b = is.refusal (reading_in m) ∙ ap result_err (both c w (Some m) stored text read ∙ b.found)

-- ---- how many files are read

pub reads_one : (store : List ℕ) (files : Option Files) (before now : Option ℕ) → RisesBy 1 before now
    → IfTold files (λ m. RoseAtMost (behind_store (store_bytes (reading_in m) store)) before now)
reads_one store None before now rises = tt
reads_one store (Some m) before now rises =
    rose-once (behind_store (store_bytes (reading_in m) store)) before now (some (store_bytes (reading_in m) store)) rises
  where
    some : (x : Result (List ℕ) Refusal) → 1 ≤ behind_store x
    some (Ok stored) = omega arith
    some (Err r) = omega arith

pub reads_two : (store : List ℕ) (files : Option Files) (stored : List ℕ) (before between now : Option ℕ)
    → IfTold files (λ m. file_at m most_store store ≡ held stored) → RisesBy 1 before between → RisesBy 1 between now
    → IfTold files (λ m. RoseAtMost (behind_store (store_bytes (reading_in m) store)) before now)
reads_two store None stored before between now told first second = tt
reads_two store (Some m) stored before between now told first second =
    let two : behind_store (store_bytes (reading_in m) store) ≡ 2 = ap (λ f. behind_store (bytes_of store f)) told in
    rose-twice (behind_store (store_bytes (reading_in m) store)) before between now (omega (arith, two)) first second

-- ---- what it comes to

-- the store that was read is the one for which STORE stood, and is left one step further
steps_to : (c : ColumnCommand) (w : Bringing) (m : Files) (now : Option Files) (stored text line bytes : List ℕ) → AreRead (Some m) c stored text
    → Brings c w stored text line bytes → now ≡ Some (with_file m c.store bytes)
    → (k : StoreValue) → IsStoreValue k → file_of m c.store ≡ Some (store_image k) → StepsTo m c w k now
steps_to c w m now stored text line bytes read b written k is stands =
    let there : Some stored ≡ Some (store_image k) = sym (file_at-held m most_store c.store stored read.store) ∙ stands in
    let bytes_same : stored ≡ store_image k = cc in
    let same : b.brought.store ≡ k = images-differ b.brought.store k b.store is (b.stands ∙ bytes_same) in
    let xs : List ℤ = b.brought.readings in
    record {
      readings = xs;
      column = record {
        bytes = text;
        held = file_at-held m most_csv c.csv text read.csv;
        readings = subst (λ (s : StoreValue). column_of text c.column s.scale (w.before s) ≡ Ok xs) same b.column;
      };
      accepted = subst (λ s. IsAccepted s (w.accepts xs)) same b.accepted;
      files = written ∙ ap (λ d. Some (with_file m c.store d)) (b.bytes_are ∙ ap (λ s. store_image (step s (w.accepts xs))) same);
    }

goes_on : (c : ColumnCommand) (w : Bringing) (m : Files) (now : Option Files) → ((k : StoreValue) → IsStoreValue k → file_of m c.store ≡ Some (store_image k) → StepsTo m c w k now)
    → (h : List Accepted) → IsHistory h → file_of m c.store ≡ Some (store_image (replay h)) → GoesOn m c w h now
goes_on c w m now steps h history stands =
    let k = steps (replay h) (histories-make-stores h history) stands in
    record {
      readings = k.readings;
      column = k.column;
      stands = record {
        history = IsHistory-more h (w.accepts k.readings) history k.accepted;
        files = k.files ∙ ap (λ s. Some (with_file m c.store (store_image s))) (sym (replay-more h (w.accepts k.readings)));
      };
    }

answer : (command : Option Command) (c : ColumnCommand) (w : Bringing) (reading : Reading) (stored text line bytes : List ℕ) → IsBringing command c w
    → Brings c w stored text line bytes → brought_by reading c w ≡ w.find stored text → Answers reading command line
answer command c w reading stored text line bytes is b e = is.answers reading line (record { brought = b.brought; found = e ∙ b.found; line = b.line_is })

pub done : (command : Option Command) (c : ColumnCommand) (w : Bringing) (files now : Option Files) (stored text line bytes : List ℕ) → IsBringing command c w
    → AreRead files c stored text → Brings c w stored text line bytes → IfTold files (λ m. now ≡ Some (with_file m c.store bytes)) → IsDone files now command line
done command c w None now stored text line bytes is read b written =
    let reading : Reading = came None (held text) (held stored) in
    let found : brought_by reading c w ≡ w.find stored text = both c w None stored text read in
    record {
      answer = record {
        reading = reading;
        read = tt;
        accepted = is.refusal reading ∙ ap result_err (found ∙ b.found);
        answer = answer command c w reading stored text line bytes is b found;
      };
      files = tt;
      replayed = tt;
    }
done command c w (Some m) now stored text line bytes is read b written =
    let found : brought_by (reading_in m) c w ≡ w.find stored text = both c w (Some m) stored text read in
    let steps : (k : StoreValue) → IsStoreValue k → file_of m c.store ≡ Some (store_image k) → StepsTo m c w k now = steps_to c w m now stored text line bytes read b written in
    record {
      answer = record {
        reading = reading_in m;
        read = refl;
        accepted = is.refusal (reading_in m) ∙ ap result_err (found ∙ b.found);
        answer = answer command c w (reading_in m) stored text line bytes is b found;
      };
      files = written ∙ ap (λ d. Some (with_file m c.store d)) b.bytes_are ∙ ap Some (sym (is.after m ∙ ap (files_after_column m c w) (found ∙ b.found)));
      replayed = inr (is.replays m now (record { store = steps; history = goes_on c w m now steps }));
    }

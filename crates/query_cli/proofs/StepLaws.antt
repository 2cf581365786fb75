-- The steps of commands.
use Rattle.std.proofs.Common.{◌≡◌, ◌∙◌, ◌^◌, ◌≤◌, ℕ, ℤ, Bool, true, false, List, length, Option, Some, None, Result, Ok, Err, refl, ap, sym, subst, inl, inr, arith}
use Rattle.std.specs.Prelude.{◌⊎◌, ◌≢◌, nat_lt, if◌then◌else◌}
use Rattle.outside.specs.Parts.{RisesBy}
use Rattle.semantics.specs.Files.{Files, IfTold, file_of}
use Rattle.store_file.specs.Added.{HasRoom, add_refusal, name_refusal}
use Rattle.store_file.specs.Grown.{append_refusal}
use Rattle.store_file.specs.StoreValue.{StoreValue}
use Rattle.store_file.specs.Stored.{StoreParts, store_value}
use Rattle.store_file.specs.declared.adding.SeriesErr.{SeriesErr}
use Rattle.store_file.specs.declared.adding.SeriesErr.TheVariants as series
use Rattle.store_file.proofs.AddedLaws.{room-is-enough}
use Rattle.store_file.proofs.GrownLaws.{growth-has-room}
use Rattle.query_cli.specs.Commands.{Command, refusal_of}
use Rattle.query_cli.specs.Reading.{File, IsRead, Reading, file_at, file_within, held, missing, most_csv, most_store, no_store, oversized, reading_in}
use Rattle.query_cli.specs.Refusals.{Refusal, series_fault, usage}
use Rattle.query_cli.specs.Run.{IsKeptOrReplayed, IsRefused}
use Rattle.query_cli.specs.Shelf.{RoseAtMost}
use Rattle.query_cli.specs.Steps.{bytes_of, refused_as, room_in, short_in, unless_refused}
use Rattle.query_cli.specs.Stops.{HasCause, IfRefused, IfStopped, IsStepRefusal, IsUnread}
use Rattle.query_cli.specs.declared.stop.Halt.{Halt}
use Rattle.query_cli.specs.declared.stop.Halt.TheVariants as halt
use Rattle.query_cli.specs.declared.stop.Stop.{Stop}
use Rattle.query_cli.specs.declared.stop.Stop.TheVariants as stop

-- a fact of a refusal that follows from another
pub refused-map : (s : Stop) (P Q : Refusal → Type 0) → ((r : Refusal) → P r → Q r) → IfRefused s P → IfRefused s Q
refused-map stop.Memory P Q f h = tt
refused-map (stop.Refused reply) P Q f h = (h.0, f h.0 h.1, h.2)

pub stopped-map : (h : Halt) (P Q : Refusal → Type 0) → ((r : Refusal) → P r → Q r) → IfStopped h P → IfStopped h Q
stopped-map (halt.Faulted f) P Q g k = tt
stopped-map (halt.Stopped s) P Q g k = refused-map s P Q g k

-- the refusal of a step that stands behind others
pub step-refused : {A B : Type 0} (s : Stop) (x : Result A Refusal) (y : Result B Refusal) → ((r : Refusal) → x ≡ Err r → y ≡ Err r)
    → IfRefused s (IsStepRefusal x) → IfRefused s (IsStepRefusal y)
step-refused s x y f h = refused-map s (IsStepRefusal x) (IsStepRefusal y) (λ r k. record { called = f r k.called; cause = k.cause }) h

-- ---- a file that is read

held-within : (most : ℕ) (o : Option (List ℕ)) (bytes : List ℕ) → file_within most o ≡ held bytes → o ≡ Some bytes
held-within most None bytes h = cc
held-within most (Some b) bytes h = by (nat_lt most (length b)) h
  where
    by : (t : Bool) → ◌≡◌ {A = File} (if t then oversized else held b) (held bytes) → ◌≡◌ {A = Option (List ℕ)} (Some b) (Some bytes)
    by true e = cc
    by false e = cc

pub file_at-held : (m : Files) (most : ℕ) (name bytes : List ℕ) → file_at m most name ≡ held bytes → file_of m name ≡ Some bytes
file_at-held m most name bytes h = held-within most (file_of m name) bytes h

-- ---- the files that a command reads

-- those that are there, where they are told, else those that came
abbrev pub came : Option Files → File → File → Reading
came None csv store = record {
  csv = λ name. csv;
  store = λ name. store;
  cert = λ name. missing;
  script = λ name. missing;
  shown = no_store;
}
came (Some m) csv store = reading_in m

pub came-read : (files : Option Files) (csv store : File) → IsRead files (came files csv store)
came-read None csv store = tt
came-read (Some m) csv store = refl

pub came-csv : (files : Option Files) (name : List ℕ) (csv store : File) → IfTold files (λ m. file_at m most_csv name ≡ csv) → (came files csv store).csv name ≡ csv
came-csv None name csv store h = refl
came-csv (Some m) name csv store h = h

pub came-store : (files : Option Files) (name : List ℕ) (csv store : File) → IfTold files (λ m. file_at m most_store name ≡ store) → (came files csv store).store name ≡ store
came-store None name csv store h = refl
came-store (Some m) name csv store h = h

-- a refusal over what came
pub came-refused : {A : Type 0} (files : Option Files) (csv store : File) (command : Option Command) (s : Stop) (x : Result A Refusal)
    → ((r : Refusal) → x ≡ Err r → refusal_of (came files csv store) command ≡ Some r)
    → IfRefused s (IsStepRefusal x) → IfRefused s (IsRefused files command)
came-refused files csv store command s x f h =
    refused-map s (IsStepRefusal x) (IsRefused files command)
    (λ r k. record { reading = came files csv store; read = came-read files csv store; called = f r k.called; cause = k.cause }) h

-- a CSV file, or a store, that was not read
pub csv-unread : (files : Option Files) (name : List ℕ) (store : File) (command : Option Command) (h : Halt)
    → ((csv : File) (r : Refusal) → (came files csv store).csv name ≡ csv → bytes_of name csv ≡ Err r → refusal_of (came files csv store) command ≡ Some r)
    → IfStopped h (IsUnread files most_csv name) → IfStopped h (IsRefused files command)
csv-unread files name store command h f unread =
    stopped-map h (IsUnread files most_csv name) (IsRefused files command)
    (λ r k. record {
      reading = came files k.file store;
      read = came-read files k.file store;
      called = f k.file r (came-csv files name k.file store k.told) k.refused.called;
      cause = k.refused.cause;
    }) unread

pub store-unread : (files : Option Files) (name : List ℕ) (csv : File) (command : Option Command) (h : Halt)
    → ((store : File) (r : Refusal) → (came files csv store).store name ≡ store → bytes_of name store ≡ Err r → refusal_of (came files csv store) command ≡ Some r)
    → IfStopped h (IsUnread files most_store name) → IfStopped h (IsRefused files command)
store-unread files name csv command h f unread =
    stopped-map h (IsUnread files most_store name) (IsRefused files command)
    (λ r k. record {
      reading = came files csv k.file;
      read = came-read files csv k.file;
      called = f k.file r (came-store files name csv k.file k.told) k.refused.called;
      cause = k.refused.cause;
    }) unread

-- words that spell no command
pub no_words : (files : Option Files) (command : Option Command) (s : Stop) → command ≡ None → IfRefused s (λ r. r ≡ usage) → IfRefused s (IsRefused files command)
no_words files command s none h =
    refused-map s (λ r. r ≡ usage) (IsRefused files command)
    (λ r is. record {
      reading = came files missing missing;
      read = came-read files missing missing;
      called = ap (refusal_of (came files missing missing)) none ∙ ap Some (sym is);
      cause = record { csv = λ e. cc; store = λ e. cc; query = λ e. cc; cert = λ e. cc };
    }) h

-- ---- a command that only reads

pub same-files : (files now : Option Files) → now ≡ files → IfTold files (λ m. now ≡ Some m)
same-files None now same = tt
same-files (Some m) now same = same

pub kept-files : (files now : Option Files) (command : Option Command) → now ≡ files → IsKeptOrReplayed files command now
kept-files None now command same = tt
kept-files (Some m) now command same = inl same

-- ---- how many files are read

pub rose-none : (n : ℕ) (before now : Option ℕ) → now ≡ before → RoseAtMost n before now
rose-none n before now same b e = (b, sym same ∙ e, omega arith)

pub rose-once : (n : ℕ) (before now : Option ℕ) → 1 ≤ n → RisesBy 1 before now → RoseAtMost n before now
rose-once n before now few rises b e = let k = rises b e in (k.0, k.1, omega (arith, k.2))

pub rose-twice : (n : ℕ) (before between now : Option ℕ) → 2 ≤ n → RisesBy 1 before between → RisesBy 1 between now → RoseAtMost n before now
rose-twice n before between now few first second b e = let k = second b e in let j = first k.0 k.1 in (j.0, j.1, omega (arith, k.2, j.2))

-- ---- results of steps

pub no_error : {A E : Type 0} (refusal : E → Refusal) (r : Result A E) (a : A) → refused_as refusal r ≡ Ok a → r ≡ Ok a
no_error refusal (Ok b) a h = cc
no_error refusal (Err e) a h = cc

series-cause : (name : List ℕ) (e : SeriesErr) → HasCause (series_fault name e)
series-cause name e = record { csv = λ h. cc; store = λ h. cc; query = λ h. cc; cert = λ h. cc }

-- ---- a store with room

not_refused : (name : List ℕ) (m : StoreValue) (o : Option SeriesErr) → unless_refused (series_fault name) m o ≡ Ok m → o ≡ None
not_refused name m None h = refl
not_refused name m (Some e) h = cc

-- a store with room for a series takes any readings of a column
pub never_refused : (s : StoreParts) (name : List ℕ) (xs : List ℤ) → room_in (store_value s) name ≡ Ok (store_value s) → length xs ≤ 2 ^ 20 → HasRoom s → add_refusal s name xs ≡ None
never_refused s name xs found few room = room-is-enough s name xs room few ∙ not_refused name (store_value s) (name_refusal (store_value s) name) found

-- ---- more readings of a series

-- with room only a series that gets too long is refused more readings
pub short-fits : (s : StoreParts) (name : List ℕ) (xs : List ℤ) → HasRoom s → append_refusal s name xs ≡ None → short_in (store_value s) name xs ≡ Ok xs
short-fits s name xs room none = ap (unless_refused (series_fault name) xs) (sym (growth-has-room s name xs room) ∙ none)

short-refused : (s : StoreParts) (name : List ℕ) (xs : List ℤ) (e : SeriesErr) → HasRoom s → append_refusal s name xs ≡ Some e → short_in (store_value s) name xs ≡ Err (series_fault name e)
short-refused s name xs e room some = ap (unless_refused (series_fault name) xs) (sym (growth-has-room s name xs room) ∙ some)

pub grow_refused : (s : StoreParts) (name : List ℕ) (xs : List ℤ) (e : SeriesErr) (stop : Stop) → HasRoom s → (e ≡ series.Memory) ⊎ (append_refusal s name xs ≡ Some e)
    → IfRefused stop (λ r. (r ≡ series_fault name e) × (e ≢ series.Memory)) → IfRefused stop (IsStepRefusal (short_in (store_value s) name xs))
grow_refused s name xs e stop room (inl memory) h = refused-map stop (λ r. (r ≡ series_fault name e) × (e ≢ series.Memory)) (IsStepRefusal (short_in (store_value s) name xs)) (λ r k. absurd (k.1 memory)) h
grow_refused s name xs e stop room (inr some) h =
    refused-map stop (λ r. (r ≡ series_fault name e) × (e ≢ series.Memory)) (IsStepRefusal (short_in (store_value s) name xs))
    (λ r k. record { called = short-refused s name xs e room some ∙ ap Err (sym k.0); cause = subst HasCause (sym k.0) (series-cause name e) }) h

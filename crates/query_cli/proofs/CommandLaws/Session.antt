-- `session` by its steps.
use Rattle.std.proofs.Common.{◌≡◌, ◌∙◌, ◌≤◌, ℕ, Bool, true, false, List, length, codes, Option, Some, None, Result, Ok, Err, refl, sym, ap, subst, inl, inr, arith}
use Rattle.std.proofs.lemmas.Bool.Decides.{nat_tests}
use Rattle.std.proofs.lemmas.Slice.Eq.{bytes_eq-Decides}
use Rattle.std.specs.Prelude.{◌⊎◌, ◌≢◌, ◌==◌, ◌&&◌, IfNone, IfSome, bytes_eq, if◌then◌else◌}
use Rattle.std.specs.Option.{option_map}
use Rattle.std.specs.Result.{result_err}
use Rattle.outside.specs.Parts.{RisesBy}
use Rattle.semantics.specs.Files.{Files, IfTold}
use Rattle.sessions.specs.Kept.{HubView}
use Rattle.sessions.specs.Script.{script_of}
use Rattle.sessions.specs.declared.events.Event.{Event}
use Rattle.sessions.specs.declared.scripts.ScriptErr.{ScriptErr}
use Rattle.store_file.specs.Decoded.{decode_of}
use Rattle.store_file.specs.StoreValue.{StoreValue}
use Rattle.store_file.specs.declared.decoding.StoreErr.{StoreErr}
use Rattle.query_cli.specs.Commands.{Command, append, check, command_of, gen, is_at_once, load, new_store, once, prove, query, session, verify}
use Rattle.query_cli.specs.Commands.Column.{behind_store}
use Rattle.query_cli.specs.Commands.Session.{Finds, Scripted, SessionCommand, script_refusal, scripted_by, scripted_in, session_of, session_reads}
use Rattle.query_cli.specs.Playing.{BeginsOver}
use Rattle.query_cli.specs.Reading.{File, IsRead, Reading, file_at, held, missing, most_script, most_store, no_store, oversized, reading_in}
use Rattle.query_cli.specs.Refusals.{Refusal, absent, bad_store, status_of, too_big}
use Rattle.query_cli.specs.Run.{Accepts, IsRefused, ending_of}
use Rattle.query_cli.specs.Shelf.{RoseAtMost}
use Rattle.query_cli.specs.Steps.{and_then, bytes_of, refused_as, script_bytes, store_in}
use Rattle.query_cli.specs.Stops.{IfRefused, IfStopped, IsStepRefusal, IsUnread}
use Rattle.query_cli.specs.Views.{session_view}
use Rattle.query_cli.specs.Words.{has_form, word}
use Rattle.query_cli.specs.declared.commands.session.Session.{Session}
use Rattle.query_cli.specs.declared.status.Status.TheVariants as status
use Rattle.query_cli.specs.declared.stop.Halt.{Halt}
use Rattle.query_cli.specs.declared.stop.Stop.{Stop}
use Rattle.query_cli.proofs.StepLaws.{refused-map, rose-once, rose-twice, step-refused, stopped-map}

-- ---- its words

at_once_of : {C : Type 0} (make : C → Command) (o : Option C) → ((c : C) → is_at_once (Some (make c)) ≡ true) → is_at_once (option_map make o) ≡ true
at_once_of make None is = refl
at_once_of make (Some c) is = is c

at_once_if : (b : Bool) (x y : Option Command) → is_at_once x ≡ true → is_at_once y ≡ true → is_at_once (if b then x else y) ≡ true
at_once_if true x y p q = p
at_once_if false x y p q = q

none_of : (b : Bool) (o : Option SessionCommand) → (b ≡ false) ⊎ (o ≡ None) → is_at_once (if b then option_map session o else None) ≡ true
none_of true o (inl e) = cc
none_of true o (inr e) = subst (λ x. is_at_once (option_map session x) ≡ true) (sym e) refl
none_of false o h = refl

-- words that spell no session ask for what is answered at once
pub no-session : (words : List (List ℕ)) → (has_form words (codes "session") 3 ≡ false) ⊎ (session_of words ≡ None) → is_at_once (command_of words) ≡ true
unfolding command_of
no-session words none =
    at_once_if (has_form words (codes "once") 7) _ _ (at_once_of once _ (λ c. refl))
    (at_once_if (has_form words (codes "new") 4) _ _ (at_once_of new_store _ (λ c. refl))
    (at_once_if (has_form words (codes "load") 5) _ _ (at_once_of load _ (λ c. refl))
    (at_once_if (has_form words (codes "append") 5) _ _ (at_once_of append _ (λ c. refl))
    (at_once_if (has_form words (codes "check") 2) _ _ (at_once_of check _ (λ c. refl))
    (at_once_if (has_form words (codes "query") 4) _ _ (at_once_of query _ (λ c. refl))
    (at_once_if (has_form words (codes "prove") 4) _ _ (at_once_of prove _ (λ c. refl))
    (at_once_if (has_form words (codes "verify") 3) _ _ (at_once_of verify _ (λ c. refl))
    (at_once_if (has_form words (codes "gen") 5) _ _ (at_once_of gen _ (λ c. refl))
    (none_of (has_form words (codes "session") 3) (session_of words) none)))))))))

-- a session is not answered at once
pub not-at-once : (command : Option Command) (c : SessionCommand) → command ≡ Some (session c) → is_at_once command ≡ true → ⊥
not-at-once command c e h = let k : is_at_once (Some (session c)) ≡ true = subst (λ x. is_at_once x ≡ true) e h in cc

and_left : (a b : Bool) → (a && b) ≡ true → a ≡ true
and_left true b h = refl
and_left false b h = h

and_right : (a b : Bool) → (a && b) ≡ true → b ≡ true
and_right true b h = h
and_right false b h = cc

neither : (a b : Bool) → b ≡ false → (a && b) ≡ false
neither true b h = h
neither false b h = refl

three : (n : ℕ) → (n == 3) ≡ true → n ≡ 3
three n h = grind (arith, nat_tests)

-- three words have no form of another length
other_form : (words : List (List ℕ)) (name : List ℕ) (count : ℕ) → length words ≡ 3 → (3 == count) ≡ false → has_form words name count ≡ false
other_form words name count len isnt = ap (λ (n : ℕ). (n == count) && bytes_eq (word words 0) name) len ∙ ap (λ b. b && bytes_eq (word words 0) name) isnt

-- words of that name are of no other
other_name : (words : List (List ℕ)) (name : List ℕ) (count : ℕ) → word words 0 ≡ codes "session" → bytes_eq (codes "session") name ≡ false → has_form words name count ≡ false
other_name words name count is isnt = neither (length words == count) (bytes_eq (word words 0) name) (ap (λ w. bytes_eq w name) is ∙ isnt)

skipped : (b : Bool) (x y z : Option Command) → b ≡ false → y ≡ z → (if b then x else y) ≡ z
skipped true x y z e h = cc
skipped false x y z e h = h

taken : (b : Bool) (o : Option SessionCommand) (c : SessionCommand) → b ≡ true → o ≡ Some c → (if b then option_map session o else None) ≡ Some (session c)
taken true o c e h = ap (option_map session) h
taken false o c e h = cc

pub is-session : (words : List (List ℕ)) (c : SessionCommand) → has_form words (codes "session") 3 ≡ true → session_of words ≡ Some c → command_of words ≡ Some (session c)
unfolding command_of
is-session words c form is =
    let len : length words ≡ 3 = three (length words) (and_left (length words == 3) (bytes_eq (word words 0) (codes "session")) form) in
    let name : word words 0 ≡ codes "session" = (bytes_eq-Decides (word words 0) (codes "session")).0 (and_right (length words == 3) (bytes_eq (word words 0) (codes "session")) form) in
    skipped (has_form words (codes "once") 7) _ _ _ (other_form words (codes "once") 7 len refl)
    (skipped (has_form words (codes "new") 4) _ _ _ (other_form words (codes "new") 4 len refl)
    (skipped (has_form words (codes "load") 5) _ _ _ (other_form words (codes "load") 5 len refl)
    (skipped (has_form words (codes "append") 5) _ _ _ (other_form words (codes "append") 5 len refl)
    (skipped (has_form words (codes "check") 2) _ _ _ (other_form words (codes "check") 2 len refl)
    (skipped (has_form words (codes "query") 4) _ _ _ (other_form words (codes "query") 4 len refl)
    (skipped (has_form words (codes "prove") 4) _ _ _ (other_form words (codes "prove") 4 len refl)
    (skipped (has_form words (codes "verify") 3) _ _ _ (other_name words (codes "verify") 3 name refl)
    (skipped (has_form words (codes "gen") 5) _ _ _ (other_form words (codes "gen") 5 len refl)
    (taken (has_form words (codes "session") 3) (session_of words) c form is)))))))))

pub some-session : (words : List (List ℕ)) (o : Option Session) → has_form words (codes "session") 3 ≡ true → option_map session_view o ≡ session_of words
    → IfSome o (λ s. command_of words ≡ Some (session (session_view s)))
some-session words None form e = tt
some-session words (Some s) form e = is-session words (session_view s) form (sym e)

pub none-session : (words : List (List ℕ)) (o : Option Session) → option_map session_view o ≡ session_of words → IfNone o (is_at_once (command_of words) ≡ true)
none-session words None e = no-session words (inr (sym e))
none-session words (Some s) e = tt

-- ---- over the files

-- those that are there, where they are told, else those that came
abbrev came : Option Files → File → File → Reading
came None store script = record {
  csv = λ name. missing;
  store = λ name. store;
  cert = λ name. missing;
  script = λ name. script;
  shown = no_store;
}
came (Some m) store script = reading_in m

came-read : (files : Option Files) (store script : File) → IsRead files (came files store script)
came-read None store script = tt
came-read (Some m) store script = refl

came-store : (files : Option Files) (name : List ℕ) (store script : File) → IfTold files (λ m. file_at m most_store name ≡ store) → (came files store script).store name ≡ store
came-store None name store script h = refl
came-store (Some m) name store script h = h

came-script : (files : Option Files) (name : List ℕ) (store script : File) → IfTold files (λ m. file_at m most_script name ≡ script) → (came files store script).script name ≡ script
came-script None name store script h = refl
came-script (Some m) name store script h = h

behind_file : (c : SessionCommand) (reading : Reading) (f : File) → reading.store c.store ≡ f
    → scripted_by reading c ≡ and_then (bytes_of c.store f) (λ stored. and_then (script_bytes reading c.script) (λ text. scripted_in stored text))
behind_file c reading f e = rw e refl

behind_files : (c : SessionCommand) (reading : Reading) (f g : File) → reading.store c.store ≡ f → reading.script c.script ≡ g
    → scripted_by reading c ≡ and_then (bytes_of c.store f) (λ stored. and_then (bytes_of c.script g) (λ text. scripted_in stored text))
behind_files c reading f g e h = rw e (rw h refl)

pub session_unread : (c : SessionCommand) (files : Option Files) (h : Halt) → IfStopped h (IsUnread files most_store c.store) → IfStopped h (IsRefused files (Some (session c)))
session_unread c files h unread =
    stopped-map h (IsUnread files most_store c.store) (IsRefused files (Some (session c)))
    (λ r k. record {
      reading = came files k.file missing;
      read = came-read files k.file missing;
      called = ap result_err (behind_file c (came files k.file missing) k.file (came-store files c.store k.file missing k.told)
          ∙ ap (λ x. and_then x (λ stored. and_then (script_bytes (came files k.file missing) c.script) (λ text. scripted_in stored text))) k.refused.called);
      cause = k.refused.cause;
    }) unread

pub session_unread_script : (c : SessionCommand) (files : Option Files) (stored : List ℕ) (h : Halt) → IfTold files (λ m. file_at m most_store c.store ≡ held stored)
    → IfStopped h (IsUnread files most_script c.script) → IfStopped h (IsRefused files (Some (session c)))
session_unread_script c files stored h first unread =
    stopped-map h (IsUnread files most_script c.script) (IsRefused files (Some (session c)))
    (λ r k. record {
      reading = came files (held stored) k.file;
      read = came-read files (held stored) k.file;
      called = ap result_err (behind_files c (came files (held stored) k.file) (held stored) k.file (came-store files c.store (held stored) k.file first) (came-script files c.script (held stored) k.file k.told)
          ∙ ap (λ x. and_then x (λ text. scripted_in stored text)) k.refused.called);
      cause = k.refused.cause;
    }) unread

in_files : (c : SessionCommand) (files : Option Files) (stored text : List ℕ) → IfTold files (λ m. file_at m most_store c.store ≡ held stored)
    → IfTold files (λ m. file_at m most_script c.script ≡ held text) → scripted_by (came files (held stored) (held text)) c ≡ scripted_in stored text
in_files c files stored text first second =
    behind_files c (came files (held stored) (held text)) (held stored) (held text) (came-store files c.store (held stored) (held text) first) (came-script files c.script (held stored) (held text) second)

pub session_refused : (c : SessionCommand) (files : Option Files) (stored text : List ℕ) (s : Stop) → IfTold files (λ m. file_at m most_store c.store ≡ held stored)
    → IfTold files (λ m. file_at m most_script c.script ≡ held text) → IfRefused s (IsStepRefusal (scripted_in stored text)) → IfRefused s (IsRefused files (Some (session c)))
session_refused c files stored text s first second h =
    refused-map s (IsStepRefusal (scripted_in stored text)) (IsRefused files (Some (session c)))
    (λ r k. record {
      reading = came files (held stored) (held text);
      read = came-read files (held stored) (held text);
      called = ap result_err (in_files c files stored text first second ∙ k.called);
      cause = k.cause;
    }) h

-- ---- the bytes

no_script : (stored text : List ℕ) (m : StoreValue) (r : Refusal) → store_in stored ≡ Ok m → refused_as script_refusal (script_of text) ≡ Err r → scripted_in stored text ≡ Err r
no_script stored text m r e f = rw e (rw f refl)

pub no_store_refused : (stored text : List ℕ) (s : Stop) → IfRefused s (IsStepRefusal (store_in stored)) → IfRefused s (IsStepRefusal (scripted_in stored text))
no_store_refused stored text s = step-refused s (store_in stored) (scripted_in stored text) (λ r k. rw k refl)

pub no_script_refused : (stored text : List ℕ) (m : StoreValue) (s : Stop) → store_in stored ≡ Ok m
    → IfRefused s (IsStepRefusal (refused_as script_refusal (script_of text))) → IfRefused s (IsStepRefusal (scripted_in stored text))
no_script_refused stored text m s e = step-refused s (refused_as script_refusal (script_of text)) (scripted_in stored text) (λ r k. no_script stored text m r e k)

pub scripted-by : (stored text : List ℕ) (m : StoreValue) (events : List Event) → store_in stored ≡ Ok m → script_of text ≡ Ok events
    → scripted_in stored text ≡ Ok (record { store = m; events = events })
scripted-by stored text m events e f = rw e (rw f refl)

-- ---- how many files are read

pub session_reads_one : (c : SessionCommand) (files : Option Files) (before now : Option ℕ) → RisesBy 1 before now → IfTold files (λ m. RoseAtMost (session_reads (reading_in m) c) before now)
session_reads_one c None before now rises = tt
session_reads_one c (Some m) before now rises = rose-once (session_reads (reading_in m) c) before now (some (bytes_of c.store (file_at m most_store c.store))) rises
  where
    some : (x : Result (List ℕ) Refusal) → 1 ≤ behind_store x
    some (Ok stored) = omega arith
    some (Err r) = omega arith

pub session_reads_two : (c : SessionCommand) (files : Option Files) (stored : List ℕ) (before between now : Option ℕ) → IfTold files (λ m. file_at m most_store c.store ≡ held stored)
    → RisesBy 1 before between → RisesBy 1 between now → IfTold files (λ m. RoseAtMost (session_reads (reading_in m) c) before now)
session_reads_two c None stored before between now told first second = tt
session_reads_two c (Some m) stored before between now told first second =
    let two : session_reads (reading_in m) c ≡ 2 = ap (λ f. behind_store (bytes_of c.store f)) told in
    rose-twice (session_reads (reading_in m) c) before between now (omega (arith, two)) first second

-- ---- what it finds

-- the script of the bytes that were read
abbrev pub script_for : StoreValue → List Event → Scripted
script_for m events = record { store = m; events = events }

pub finds : (files : Option Files) (c : SessionCommand) (v : HubView) (events : List Event) (b : BeginsOver files c v events) → Finds files c (script_for b.begins.store events)
finds files c v events b =
    record {
      reading = came files (held b.stored) (held b.text);
      read = came-read files (held b.stored) (held b.text);
      found = in_files c files b.stored b.text b.store_held b.script_held ∙ b.begins.found;
    }

-- where it finds a script, nothing is refused
pub finds-accepts : (files : Option Files) (c : SessionCommand) (script : Scripted) → Finds files c script → IfTold files (λ m. Accepts m (Some (session c)))
finds-accepts None c script f = tt
finds-accepts (Some m) c script f = ap result_err (subst (λ reading. scripted_by reading c ≡ Ok script) f.read f.found)

-- ---- its refusals

-- such a refusal has a status of its own
pub record IsEarly (r : Refusal) : Type 0 where
  pub midway : ending_of (status_of r) ≡ None
  pub words : status_of r ≢ status.Usage

by_each : {A B : Type 0} (x : Result A Refusal) (f : A → Result B Refusal) (r : Refusal) → (x ≡ Err r → IsEarly r) → ((a : A) → f a ≡ Err r → IsEarly r) → and_then x f ≡ Err r → IsEarly r
by_each (Ok a) f r first rest h = rest a h
by_each (Err e) f r first rest h = let same : e ≡ r = cc in first (ap Err same)

early_file : (name : List ℕ) (f : File) (r : Refusal) → bytes_of name f ≡ Err r → IsEarly r
early_file name (held bytes) r h = cc
early_file name missing r h = let is : absent name ≡ r = cc in subst IsEarly is (record { midway = refl; words = λ e. cc })
early_file name oversized r h = let is : too_big name ≡ r = cc in subst IsEarly is (record { midway = refl; words = λ e. cc })

early_store : (found : Result StoreValue StoreErr) (r : Refusal) → refused_as bad_store found ≡ Err r → IsEarly r
early_store (Ok m) r h = cc
early_store (Err e) r h = let is : bad_store e ≡ r = cc in subst IsEarly is (record { midway = refl; words = λ e. cc })

early_script : (found : Result (List Event) ScriptErr) (r : Refusal) → refused_as script_refusal found ≡ Err r → IsEarly r
early_script (Ok events) r h = cc
early_script (Err e) r h = let is : script_refusal e ≡ r = cc in subst IsEarly is (record { midway = refl; words = λ e. cc })

early_bytes : (stored text : List ℕ) (r : Refusal) → scripted_in stored text ≡ Err r → IsEarly r
early_bytes stored text r =
    by_each (store_in stored) (λ m. and_then (refused_as script_refusal (script_of text)) (λ events. Ok (record { store = m; events = events }))) r
    (early_store (decode_of stored) r)
    (λ m. by_each (refused_as script_refusal (script_of text)) (λ events. Ok (record { store = m; events = events })) r (early_script (script_of text) r) (λ events h. cc))

early_files : (reading : Reading) (c : SessionCommand) (r : Refusal) → scripted_by reading c ≡ Err r → IsEarly r
early_files reading c r =
    by_each (bytes_of c.store (reading.store c.store)) (λ stored. and_then (script_bytes reading c.script) (λ text. scripted_in stored text)) r
    (early_file c.store (reading.store c.store) r)
    (λ stored. by_each (script_bytes reading c.script) (λ text. scripted_in stored text) r (early_file c.script (reading.script c.script) r) (λ text. early_bytes stored text r))

error_of : {A : Type 0} (x : Result A Refusal) (r : Refusal) → result_err x ≡ Some r → x ≡ Err r
error_of (Ok a) r h = cc
error_of (Err e) r h = cc

pub refused-early : (files : Option Files) (c : SessionCommand) (r : Refusal) → IsRefused files (Some (session c)) r → IsEarly r
refused-early files c r k = early_files k.reading c r (error_of (scripted_by k.reading c) r k.called)

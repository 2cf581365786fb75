-- The query of a command, by its steps.
use Rattle.std.proofs.Common.{◌≡◌, ◌∙◌, ℕ, Bool, true, false, List, Option, Some, None, Result, Ok, Err, refl, ap}
use Rattle.std.specs.Prelude.{if◌then◌else◌}
use Rattle.std.specs.Result.{result_err}
use Rattle.descent.specs.declared.descents.Answer.{Answer}
use Rattle.semantics.specs.Files.{Files}
use Rattle.semantics.specs.Term.{QueryTerm}
use Rattle.store_file.specs.Decoded.{decode_of}
use Rattle.store_file.specs.StoreValue.{StoreValue}
use Rattle.store_file.specs.declared.decoding.StoreErr.{StoreErr}
use Rattle.store_file.specs.declared.decoding.StoreErr.TheVariants as stored
use Rattle.query_cli.specs.Asked.{Asked}
use Rattle.query_cli.specs.Commands.{Command, refusal_of}
use Rattle.query_cli.specs.Commands.Query.{QueryCommand, are_bytes, asked_by, asked_of, asked_of_none, asked_over, is_found, query_in, query_reads}
use Rattle.query_cli.specs.Parted.{IsAnsweredOver, IsFound, IsShown, IsUnanswered, Shows}
use Rattle.query_cli.specs.Reading.{File, IsRead, Reading, Shown, file_at, held, missing, most_store, no_store, oversized, reading_in, reading_with}
use Rattle.query_cli.specs.Refusals.{Refusal}
use Rattle.query_cli.specs.Run.{IsRefused}
use Rattle.query_cli.specs.Steps.{and_then}
use Rattle.query_cli.specs.Stops.{IfRefused, IfStopped, IsStepRefusal}
use Rattle.query_cli.specs.declared.stop.Halt.{Halt}
use Rattle.query_cli.specs.declared.stop.Stop.{Stop}
use Rattle.query_cli.proofs.StepLaws.{refused-map, stopped-map}

-- ---- what was read

-- what is there, where it is told, else a file that was read so
abbrev pub seen : Option Files → Shown → File → Reading
seen None shown file = record {
  csv = λ name. missing;
  store = λ name. file;
  cert = λ name. missing;
  script = λ name. missing;
  shown = shown;
}
seen (Some m) shown file = reading_with m shown

seen_read : (files : Option Files) (shown : Shown) (file : File) → IsRead files (seen files shown file)
seen_read None shown file = tt
seen_read (Some m) shown file = refl

asked : (c : QueryCommand) (q : QueryTerm) (files : Option Files) (x : Result (Option Asked) Refusal)
    (s : Shows files c.store q x) → query_in c.text ≡ Ok q → asked_by (seen files s.shown s.file) c ≡ x
asked c q None x s is = ap (λ t. and_then t (λ p. asked_over s.shown p c.store s.file)) is ∙ s.found
asked c q (Some m) x s is =
    ap (λ t. and_then t (λ p. asked_over s.shown p c.store (file_at m most_store c.store))) is
    ∙ ap (asked_over s.shown q c.store) s.told ∙ s.found

-- ---- why there is no answer

-- the text is no query, whatever the files hold
pub bad_text : (c : QueryCommand) (files : Option Files) (s : Stop) → IfRefused s (IsStepRefusal (query_in c.text))
    → IfRefused s (IsUnanswered files c)
bad_text c files s =
    let reading : Reading = seen files no_store missing in
    refused-map s (IsStepRefusal (query_in c.text)) (IsUnanswered files c)
    (λ r k. record {
      reading = reading;
      read = seen_read files no_store missing;
      found = ap (λ x. and_then x (λ q. asked_over reading.shown q c.store (reading.store c.store))) k.called;
      cause = k.cause;
    })

pub shown_refused : (c : QueryCommand) (q : QueryTerm) (files : Option Files) (h : Halt) → query_in c.text ≡ Ok q
    → IfStopped h (IsShown files c.store q) → IfStopped h (IsUnanswered files c)
shown_refused c q files h is =
    stopped-map h (IsShown files c.store q) (IsUnanswered files c)
    (λ r k. record {
      reading = seen files k.shows.shown k.shows.file;
      read = seen_read files k.shows.shown k.shows.file;
      found = asked c q files (Err r) k.shows is;
      cause = k.cause;
    })

-- ---- the answer

pub found : (c : QueryCommand) (q : QueryTerm) (files : Option Files) (names : List (List ℕ)) (a : Answer)
    → query_in c.text ≡ Ok q → IsAnsweredOver files c.store q c.budget names a → IsFound files c q names a
found c q files names a is k = record {
  reading = seen files k.shows.shown k.shows.file;
  read = seen_read files k.shows.shown k.shows.file;
  asked = k.asked;
  found = asked c q files (Ok k.asked) k.shows is;
  answer = k.answer;
}

-- ---- of a command

-- the command asks so
pub record IsAsking (command : Option Command) (c : QueryCommand) : Type 0 where
  pub refusal : (reading : Reading) → refusal_of reading command ≡ result_err (asked_by reading c)

pub unanswered : (command : Option Command) (c : QueryCommand) (files : Option Files) (h : Halt) → IsAsking command c
    → IfStopped h (IsUnanswered files c) → IfStopped h (IsRefused files command)
unanswered command c files h is =
    stopped-map h (IsUnanswered files c) (IsRefused files command)
    (λ r k. record {
      reading = k.reading;
      read = k.read;
      called = is.refusal k.reading ∙ ap result_err k.found;
      cause = k.cause;
    })

-- ---- whether STORE is read

pub query_is_read : (c : QueryCommand) (q : QueryTerm) → query_in c.text ≡ Ok q → query_reads c ≡ true
query_is_read c q is = ap is_found is

-- ---- a query that is accepted is so whatever parts of no store show

of_decoded : (shown : Shown) (q : QueryTerm) (r : Result StoreValue StoreErr)
    → result_err (asked_of no_store q r) ≡ None → result_err (asked_of shown q r) ≡ None
of_decoded shown q (Ok m) h = h
of_decoded shown q (Err (stored.NotAStore place)) h = h
of_decoded shown q (Err (stored.BadNode name start len)) h = cc
of_decoded shown q (Err stored.Memory) h = cc

in_bytes : (shown : Shown) (q : QueryTerm) (bytes : List ℕ) (t : Bool)
    → result_err (if t then asked_of no_store q (decode_of bytes) else asked_of_none no_store) ≡ None
    → result_err (if t then asked_of shown q (decode_of bytes) else asked_of_none shown) ≡ None
in_bytes shown q bytes true h = of_decoded shown q (decode_of bytes) h
in_bytes shown q bytes false h = cc

over_file : (shown : Shown) (q : QueryTerm) (name : List ℕ) (f : File)
    → result_err (asked_over no_store q name f) ≡ None → result_err (asked_over shown q name f) ≡ None
over_file shown q name (held bytes) h = in_bytes shown q bytes (are_bytes bytes) h
over_file shown q name missing h = h
over_file shown q name oversized h = h

of_text : (shown : Shown) (x : Result QueryTerm Refusal) (name : List ℕ) (f : File)
    → result_err (and_then x (λ q. asked_over no_store q name f)) ≡ None
    → result_err (and_then x (λ q. asked_over shown q name f)) ≡ None
of_text shown (Ok q) name f h = over_file shown q name f h
of_text shown (Err r) name f h = h

pub asked_still : (m : Files) (shown : Shown) (c : QueryCommand) → result_err (asked_by (reading_in m) c) ≡ None
    → result_err (asked_by (reading_with m shown) c) ≡ None
asked_still m shown c h = of_text shown (query_in c.text) c.store (file_at m most_store c.store) h

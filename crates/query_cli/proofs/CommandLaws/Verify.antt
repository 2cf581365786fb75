-- `verify` by its steps.
use Rattle.std.proofs.Common.{◌≡◌, ◌∙◌, ℕ, List, Option, Some, None, Result, Ok, Err, refl, sym, ap}
use Rattle.std.specs.Result.{result_err}
use Rattle.answer_check.specs.Json.{certificate_in}
use Rattle.answer_check.specs.Verdict.{answer_of, plain_by, plain_in, verdict_for}
use Rattle.answer_check.specs.declared.certificate.Cert.{Cert}
use Rattle.answer_check.specs.declared.verdict.Verdict.{Verdict}
use Rattle.answer_check.specs.declared.verdict.Verdict.TheVariants.{Holds, NotACut, Escapes, Wide}
use Rattle.answer_check.specs.declared.verdict.VerifyErr.{VerifyErr}
use Rattle.answer_check.proofs.Holding.{holding_proves}
use Rattle.expr_parse.specs.Parsed.{parsed}
use Rattle.expr_parse.specs.declared.error.ParseErr.{ParseErr}
use Rattle.semantics.specs.Files.{Files, IfTold}
use Rattle.semantics.specs.Term.{QueryTerm}
use Rattle.store_file.specs.StoreValue.{StoreValue, IsStoreValue, store_image}
use Rattle.query_cli.specs.Commands.{verify}
use Rattle.query_cli.specs.Commands.Verify.{IsUpheld, VerifyCommand, cert_in, holds_line, itself, rejection, upheld_by, upheld_in, verified_by, verify_refusal}
use Rattle.query_cli.specs.Reading.{File, IsRead, Reading, file_at, held, missing, most_cert, most_store, no_store, reading_in}
use Rattle.query_cli.specs.Refusals.{Refusal, bad_cert}
use Rattle.query_cli.specs.Run.{IsDone, IsRefused}
use Rattle.query_cli.specs.Steps.{and_then, bytes_of, store_in, unless_refused}
use Rattle.query_cli.specs.Stops.{HasCause, IfRefused, IfStopped, IsStepRefusal, IsUnread}
use Rattle.query_cli.specs.declared.stop.Halt.{Halt}
use Rattle.query_cli.specs.declared.stop.Stop.{Stop}
use Rattle.query_cli.proofs.StepLaws.{kept-files, no_error, refused-map, same-files, step-refused, stopped-map}

-- ---- the verdict

pub unverified : (m : StoreValue) (c : Cert) (e : VerifyErr) (s : Stop) → answer_of m c ≡ Err e
    → IfRefused s (λ r. (r ≡ verify_refusal e) × HasCause r)
    → IfRefused s (IsStepRefusal (upheld_by m c (answer_of m c)))
unverified m c e s is =
    refused-map s (λ r. (r ≡ verify_refusal e) × HasCause r) (IsStepRefusal (upheld_by m c (answer_of m c)))
    (λ r k. record { called = ap (upheld_by m c) is ∙ ap Err (sym k.0); cause = k.1 })

rejected-cause : (v : Verdict) (r : Refusal) → rejection v ≡ Some r → HasCause r
rejected-cause Holds r h = cc
rejected-cause (NotACut place) r h = record { csv = λ e. cc; store = λ e. cc; query = λ e. cc; cert = λ e. cc }
rejected-cause (Escapes iv) r h = record { csv = λ e. cc; store = λ e. cc; query = λ e. cc; cert = λ e. cc }
rejected-cause (Wide width) r h = record { csv = λ e. cc; store = λ e. cc; query = λ e. cc; cert = λ e. cc }

pub rejected : (m : StoreValue) (c : Cert) (v : Verdict) (s : Stop) → answer_of m c ≡ Ok v
    → IfRefused s (λ r. rejection v ≡ Some r) → IfRefused s (IsStepRefusal (upheld_by m c (answer_of m c)))
rejected m c v s is =
    refused-map s (λ r. rejection v ≡ Some r) (IsStepRefusal (upheld_by m c (answer_of m c)))
    (λ r k. record {
      called = ap (upheld_by m c) is ∙ ap (unless_refused itself (record { store = m; cert = c })) k;
      cause = rejected-cause v r k;
    })

-- a certificate with a verdict has a query
asks_in : (m : StoreValue) (c : Cert) (v : Verdict) → answer_of m c ≡ Ok v → (q : QueryTerm) × (parsed c.query ≡ Ok q)
unfolding answer_of plain_in
asks_in m c v h = by (parsed c.query) refl h
  where
    by : (x : Result QueryTerm ParseErr) → parsed c.query ≡ x → verdict_for m c (plain_by m x) ≡ Ok v
        → (q : QueryTerm) × (parsed c.query ≡ Ok q)
    by (Ok q) e k = (q, e)
    by (Err e) is k = cc

-- ---- by the bytes of the two files

pub store_refused : (stored text : List ℕ) (s : Stop) → IfRefused s (IsStepRefusal (store_in stored))
    → IfRefused s (IsStepRefusal (upheld_in stored text))
store_refused stored text s =
    step-refused s (store_in stored) (upheld_in stored text)
    (λ r k. ap (λ x. and_then x (λ m. and_then (cert_in text) (λ c. upheld_by m c (answer_of m c)))) k)

behind_store_in : (stored text : List ℕ) (m : StoreValue) → store_in stored ≡ Ok m
    → upheld_in stored text ≡ and_then (cert_in text) (λ c. upheld_by m c (answer_of m c))
behind_store_in stored text m is =
    ap (λ x. and_then x (λ n. and_then (cert_in text) (λ c. upheld_by n c (answer_of n c)))) is

pub cert_refused : (stored text : List ℕ) (m : StoreValue) (s : Stop) → store_in stored ≡ Ok m
    → IfRefused s (IsStepRefusal (cert_in text)) → IfRefused s (IsStepRefusal (upheld_in stored text))
cert_refused stored text m s is =
    step-refused s (cert_in text) (upheld_in stored text)
    (λ r k. behind_store_in stored text m is ∙ ap (λ x. and_then x (λ c. upheld_by m c (answer_of m c))) k)

behind_both : (stored text : List ℕ) (m : StoreValue) (c : Cert) → store_in stored ≡ Ok m → cert_in text ≡ Ok c
    → upheld_in stored text ≡ upheld_by m c (answer_of m c)
behind_both stored text m c is spelled =
    behind_store_in stored text m is ∙ ap (λ x. and_then x (λ d. upheld_by m d (answer_of m d))) spelled

pub not_upheld : (stored text : List ℕ) (m : StoreValue) (c : Cert) (s : Stop) → store_in stored ≡ Ok m
    → cert_in text ≡ Ok c → IfRefused s (IsStepRefusal (upheld_by m c (answer_of m c)))
    → IfRefused s (IsStepRefusal (upheld_in stored text))
not_upheld stored text m c s is spelled =
    step-refused s (upheld_by m c (answer_of m c)) (upheld_in stored text)
    (λ r k. behind_both stored text m c is spelled ∙ k)

pub upheld : (stored text line : List ℕ) (m : StoreValue) (c : Cert) → store_in stored ≡ Ok m → cert_in text ≡ Ok c
    → answer_of m c ≡ Ok Holds → IsStoreValue m → store_image m ≡ stored → line ≡ holds_line
    → IsUpheld stored text line
upheld stored text line m c found spelled holds is stands line_is =
    let asks = asks_in m c Holds holds in
    record {
      upheld = record { store = m; cert = c };
      found = behind_both stored text m c found spelled ∙ ap (upheld_by m c) holds;
      is_store = is;
      stands = stands;
      spelled = no_error bad_cert (certificate_in text) c spelled;
      holds = holds;
      query = asks.0;
      asks = asks.1;
      proved = holding_proves m c asks.0 is asks.1 holds;
      line_is = line_is;
    }

-- ---- over the files

-- what is there, where it is told, else the files that came
abbrev seen : Option Files → File → File → Reading
seen None store cert = record {
  csv = λ name. missing;
  store = λ name. store;
  cert = λ name. cert;
  script = λ name. missing;
  shown = no_store;
}
seen (Some m) store cert = reading_in m

seen_read : (files : Option Files) (store cert : File) → IsRead files (seen files store cert)
seen_read None store cert = tt
seen_read (Some m) store cert = refl

seen_store : (files : Option Files) (name : List ℕ) (store cert : File)
    → IfTold files (λ m. file_at m most_store name ≡ store) → (seen files store cert).store name ≡ store
seen_store None name store cert h = refl
seen_store (Some m) name store cert h = h

seen_cert : (files : Option Files) (name : List ℕ) (store cert : File)
    → IfTold files (λ m. file_at m most_cert name ≡ cert) → (seen files store cert).cert name ≡ cert
seen_cert None name store cert h = refl
seen_cert (Some m) name store cert h = h

by_files : (c : VerifyCommand) (reading : Reading) (f g : File) → reading.store c.store ≡ f → reading.cert c.cert ≡ g
    → verified_by reading c
    ≡ and_then (bytes_of c.store f) (λ stored. and_then (bytes_of c.cert g) (λ text. upheld_in stored text))
by_files c reading f g e h = rw e (rw h refl)

no_stored : (c : VerifyCommand) (reading : Reading) (f : File) (r : Refusal) → reading.store c.store ≡ f
    → bytes_of c.store f ≡ Err r → verified_by reading c ≡ Err r
no_stored c reading f r e k = rw e (rw k refl)

pub verify_unread : (c : VerifyCommand) (files : Option Files) (h : Halt)
    → IfStopped h (IsUnread files most_store c.store) → IfStopped h (IsRefused files (Some (verify c)))
verify_unread c files h =
    stopped-map h (IsUnread files most_store c.store) (IsRefused files (Some (verify c)))
    (λ r k.
    let there = seen_store files c.store k.file missing k.told in
    record {
      reading = seen files k.file missing;
      read = seen_read files k.file missing;
      called = ap result_err (no_stored c (seen files k.file missing) k.file r there k.refused.called);
      cause = k.refused.cause;
    })

pub cert_unread : (c : VerifyCommand) (files : Option Files) (stored : List ℕ) (h : Halt)
    → IfTold files (λ m. file_at m most_store c.store ≡ held stored)
    → IfStopped h (IsUnread files most_cert c.cert) → IfStopped h (IsRefused files (Some (verify c)))
cert_unread c files stored h first =
    stopped-map h (IsUnread files most_cert c.cert) (IsRefused files (Some (verify c)))
    (λ r k.
    let reading : Reading = seen files (held stored) k.file in
    let there = seen_store files c.store (held stored) k.file first in
    let beside = seen_cert files c.cert (held stored) k.file k.told in
    record {
      reading = reading;
      read = seen_read files (held stored) k.file;
      called =
          ap result_err
          (by_files c reading (held stored) k.file there beside
          ∙ ap (λ x. and_then x (λ text. upheld_in stored text)) k.refused.called);
      cause = k.refused.cause;
    })

-- STORE and CERT are read, and these are their bytes
pub record AreRead (files : Option Files) (c : VerifyCommand) (stored text : List ℕ) : Type 0 where
  pub store : IfTold files (λ m. file_at m most_store c.store ≡ held stored)
  pub cert : IfTold files (λ m. file_at m most_cert c.cert ≡ held text)

both : (c : VerifyCommand) (files : Option Files) (stored text : List ℕ) → AreRead files c stored text
    → verified_by (seen files (held stored) (held text)) c ≡ upheld_in stored text
both c files stored text read =
    by_files c (seen files (held stored) (held text)) (held stored) (held text)
    (seen_store files c.store (held stored) (held text) read.store)
    (seen_cert files c.cert (held stored) (held text) read.cert)

pub verify_refused : (c : VerifyCommand) (files : Option Files) (stored text : List ℕ) (s : Stop)
    → AreRead files c stored text → IfRefused s (IsStepRefusal (upheld_in stored text))
    → IfRefused s (IsRefused files (Some (verify c)))
verify_refused c files stored text s read =
    refused-map s (IsStepRefusal (upheld_in stored text)) (IsRefused files (Some (verify c)))
    (λ r k. record {
      reading = seen files (held stored) (held text);
      read = seen_read files (held stored) (held text);
      called = ap result_err (both c files stored text read ∙ k.called);
      cause = k.cause;
    })

pub verify_done : (c : VerifyCommand) (files now : Option Files) (stored text line : List ℕ)
    → AreRead files c stored text → IsUpheld stored text line → now ≡ files → IsDone files now (Some (verify c)) line
verify_done c files now stored text line read k same = record {
  answer = record {
    reading = seen files (held stored) (held text);
    read = seen_read files (held stored) (held text);
    accepted = ap result_err (both c files stored text read ∙ k.found);
    answer = record {
      stored = stored;
      text = text;
      store = seen_store files c.store (held stored) (held text) read.store;
      cert = seen_cert files c.cert (held stored) (held text) read.cert;
      found = k;
    };
  };
  files = same-files files now same;
  replayed = kept-files files now (Some (verify c)) same;
}

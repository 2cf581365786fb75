-- `verify`: whether a certificate holds over a store.
use Rattle.std.specs.Prelude.{◌≡◌, ◌&&◌, ℕ, List, codes, Option, Some, None, Result, Ok, Err, if◌then◌else◌}
use Rattle.answer_check.specs.Json.{certificate_in}
use Rattle.answer_check.specs.Laws.{IsProved}
use Rattle.answer_check.specs.Verdict.{answer_of}
use Rattle.answer_check.specs.declared.certificate.Cert.{Cert}
use Rattle.answer_check.specs.declared.verdict.Verdict.{Verdict}
use Rattle.answer_check.specs.declared.verdict.Verdict.TheVariants.{Holds, NotACut, Escapes, Wide}
use Rattle.answer_check.specs.declared.verdict.VerifyErr.{VerifyErr}
use Rattle.answer_check.specs.declared.verdict.VerifyErr.TheVariants.{Parse, Admit, Memory}
use Rattle.expr.specs.Refusals.{refusal_by}
use Rattle.expr_parse.specs.Parsed.{parsed}
use Rattle.expr_parse.specs.declared.error.ParseErr.TheVariants as text
use Rattle.semantics.specs.Term.{QueryTerm}
use Rattle.store_file.specs.StoreValue.{StoreValue, IsStoreValue, store_image}
use Rattle.query_cli.specs.Commands.Column.{behind_store}
use Rattle.query_cli.specs.Reading.{Reading, held}
use Rattle.query_cli.specs.Refusals.{Refusal, bad_cert, bad_query, escapes, not_a_cut, query_refusal, wide}
use Rattle.query_cli.specs.Steps.{and_then, cert_bytes, refused_as, store_bytes, store_in, unless_refused}
use Rattle.query_cli.specs.Words.{is_file, word}

-- whether a certificate holds over a store
pub record VerifyCommand : Type 0 where
  pub store : List ℕ
  pub cert : List ℕ

-- `verify STORE CERT`
abbrev pub verify_of : List (List ℕ) → Option VerifyCommand
verify_of words =
    if is_file (word words 1) && is_file (word words 2) then
    Some (record { store = word words 1; cert = word words 2 })
    else None

-- the certificate that bytes spell
abbrev pub cert_in : List ℕ → Result Cert Refusal
cert_in text = refused_as bad_cert (certificate_in text)

-- why there is no verdict; want of memory has no line
abbrev pub verify_refusal : VerifyErr → Refusal
verify_refusal (Parse e) = bad_query e
verify_refusal (Admit e) = query_refusal (refusal_by e)
verify_refusal Memory = bad_query text.Memory

-- why a certificate does not hold
abbrev pub rejection : Verdict → Option Refusal
rejection Holds = None
rejection (NotACut place) = Some (not_a_cut place)
rejection (Escapes iv) = Some (escapes iv.lo iv.hi)
rejection (Wide width) = Some (wide width)

-- a certificate that holds over a store
pub record Upheld : Type 0 where
  pub store : StoreValue
  pub cert : Cert

abbrev pub itself : Refusal → Refusal
itself r = r

abbrev pub upheld_by : StoreValue → Cert → Result Verdict VerifyErr → Result Upheld Refusal
upheld_by m c (Err e) = Err (verify_refusal e)
upheld_by m c (Ok verdict) = unless_refused itself (record { store = m; cert = c }) (rejection verdict)

-- the same by the bytes of the two files, or the first refusal
abbrev pub upheld_in : List ℕ → List ℕ → Result Upheld Refusal
upheld_in stored text =
    and_then (store_in stored) (λ m.
    and_then (cert_in text) (λ c.
    upheld_by m c (answer_of m c)))

-- the certificate that `verify` finds to hold, or its first refusal
abbrev pub verified_by : Reading → VerifyCommand → Result Upheld Refusal
verified_by reading c =
    and_then (store_bytes reading c.store) (λ stored.
    and_then (cert_bytes reading c.cert) (λ text.
    upheld_in stored text))

-- how many files are read: CERT where STORE could be read
abbrev pub verify_reads : Reading → VerifyCommand → ℕ
verify_reads reading c = behind_store (store_bytes reading c.store)

abbrev pub holds_line : List ℕ
holds_line = codes "holds\n"

-- the certificate holds, by the bytes of the two files: the value of its query lies in the interval that it states,
-- which is no wider than its budget
pub record IsUpheld (stored text line : List ℕ) : Type 0 where
  pub upheld : Upheld
  pub found : upheld_in stored text ≡ Ok upheld
  pub is_store : IsStoreValue upheld.store
  pub stands : store_image upheld.store ≡ stored
  pub spelled : certificate_in text ≡ Ok upheld.cert
  pub holds : answer_of upheld.store upheld.cert ≡ Ok Holds
  pub query : QueryTerm
  pub asks : parsed upheld.cert.query ≡ Ok query
  pub proved : IsProved upheld.store upheld.cert query
  pub line_is : line ≡ holds_line

-- the line of a certificate that holds over the store for which the bytes of STORE stand
pub record VerifyAnswers (reading : Reading) (c : VerifyCommand) (line : List ℕ) : Type 0 where
  pub stored : List ℕ
  pub text : List ℕ
  pub store : reading.store c.store ≡ held stored
  pub cert : reading.cert c.cert ≡ held text
  pub found : IsUpheld stored text line

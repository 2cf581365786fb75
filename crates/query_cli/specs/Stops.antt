-- Why a command stops before its answer.
use Rattle.std.specs.Prelude.{◌≡◌, ◌≢◌, ℕ, List, codes, Option, Some, Result, Err, string_bytes}
use Rattle.semantics.specs.Files.{Files, IfTold}
use Rattle.answer_check.specs.declared.certificate.CertErr.TheVariants as cert
use Rattle.expr_parse.specs.declared.error.ParseErr.TheVariants as text
use Rattle.semantics.specs.Admission.{NotAdmitted}
use Rattle.series_csv.specs.declared.fault.CsvErr.TheVariants as csv
use Rattle.store_file.specs.declared.decoding.StoreErr.TheVariants as stored
use Rattle.query_cli.specs.Reading.{File, file_at}
use Rattle.query_cli.specs.Refusals.{Refusal, bad_cert, bad_csv, bad_query, bad_store, line_of, query_refusal, status_of}
use Rattle.query_cli.specs.Steps.{bytes_of}
use Rattle.query_cli.specs.declared.stop.Fault.{Fault}
use Rattle.query_cli.specs.declared.stop.Fault.TheVariants as fault
use Rattle.query_cli.specs.declared.stop.Halt.{Halt}
use Rattle.query_cli.specs.declared.stop.Halt.TheVariants as halt
use Rattle.query_cli.specs.declared.stop.Reply.{Reply}
use Rattle.query_cli.specs.declared.stop.Stop.{Stop}
use Rattle.query_cli.specs.declared.stop.Stop.TheVariants as stop
use Rattle.query_cli.specs.declared.status.Status.{Status}
use Rattle.query_cli.specs.declared.status.Status.TheVariants as status

-- ---- faults

abbrev pub fault_status : Fault → Status
fault_status fault.Reading = status.ReadFault
fault_status fault.Replacing = status.ReplaceFault

abbrev pub fault_line : Fault → List ℕ
fault_line fault.Reading = codes "read fault\n"
fault_line fault.Replacing = codes "replace fault\n"

-- ---- refusals

-- a refusal, for which want of memory never stands
pub record HasCause (r : Refusal) : Type 0 where
  pub csv : r ≢ bad_csv csv.Memory
  pub store : r ≢ bad_store stored.Memory
  pub query : r ≢ bad_query text.Memory
  pub cert : r ≢ bad_cert cert.Memory

-- the reply of a refusal has its status and its line
pub record IsReplyOf (r : Refusal) (reply : Reply) : Type 0 where
  pub status : reply.status ≡ status_of r
  pub text : string_bytes reply.text ≡ line_of r

-- where a stop is by a refusal, a fact of that refusal
abbrev pub IfRefused : Stop → (Refusal → Type 0) → Type 0
IfRefused stop.Memory P = Unit {0}
IfRefused (stop.Refused reply) P = (r : Refusal) × P r × IsReplyOf r reply

-- the same of a command, which may also meet a fault
abbrev pub IfStopped : Halt → (Refusal → Type 0) → Type 0
IfStopped (halt.Faulted f) P = Unit {0}
IfStopped (halt.Stopped s) P = IfRefused s P

-- the refusal of a step
pub record IsStepRefusal {A : Type 0} (found : Result A Refusal) (r : Refusal) : Type 0 where
  pub called : found ≡ Err r
  pub cause : HasCause r

-- the refusal of a query that is not admitted
pub record IsNotAdmitted (o : Option NotAdmitted) (r : Refusal) : Type 0 where
  pub why : NotAdmitted
  pub called : o ≡ Some why
  pub refusal : r ≡ query_refusal why

-- why a file of this name, of at most so many bytes, was not read
pub record IsUnread (files : Option Files) (most : ℕ) (name : List ℕ) (r : Refusal) : Type 0 where
  pub file : File
  pub told : IfTold files (λ m. file_at m most name ≡ file)
  pub refused : IsStepRefusal (bytes_of name file) r

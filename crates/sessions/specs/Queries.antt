-- Why a text has no plain query over a store.
use Rattle.std.specs.Prelude.{◌≡◌, Result, Err}
use Rattle.expr_parse.specs.declared.error.ParseErr.{ParseErr}
use Rattle.semantics.specs.Term.{QueryTerm}
use Rattle.sessions.specs.declared.queries.QueryErr.{QueryErr}
use Rattle.sessions.specs.declared.queries.QueryErr.TheVariants.{Refused, Memory}
use Rattle.sessions.specs.declared.replies.Cause.{Cause}
use Rattle.sessions.specs.declared.replies.Cause.TheVariants.{Parse}

-- a query is refused by this cause, or memory was wanting
abbrev pub IsRefusal : Result QueryTerm Cause → QueryErr → Type 0
IsRefusal r (Refused cause) = r ≡ Err cause
IsRefusal r Memory = Unit {0}

-- a text is none by this refusal of its own, or memory was wanting
abbrev pub IsTextRefusal : Result QueryTerm ParseErr → QueryErr → Type 0
IsTextRefusal r (Refused cause) = (e : ParseErr) × (cause ≡ Parse e) × (r ≡ Err e)
IsTextRefusal r Memory = Unit {0}

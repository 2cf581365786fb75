-- The plain query of a text, by what the parts of its making answer.
use Rattle.std.proofs.Common.{◌≡◌, ◌∙◌, ℕ, List, Some, None, Ok, Err, refl, sym, ap}
use Rattle.expr.specs.Refusals.{refusal_by}
use Rattle.expr.specs.declared.admission.AdmitErr.{AdmitErr}
use Rattle.expr.specs.declared.admission.AdmitErr.TheVariants.{Unknown, Rank, Domain, Range}
use Rattle.expr_parse.specs.Parsed.{parsed}
use Rattle.semantics.specs.Admission.{Fact, refusal_of}
use Rattle.semantics.specs.Plain.{plain}
use Rattle.semantics.specs.Term.{QueryTerm}
use Rattle.sessions.specs.Hub.{admit_err, plain_by, plain_in, unless_refused}
use Rattle.sessions.specs.Queries.{IsRefusal, IsTextRefusal}
use Rattle.sessions.specs.declared.queries.QueryErr.{QueryErr}
use Rattle.sessions.specs.declared.queries.QueryErr.TheVariants as query
use Rattle.sessions.specs.declared.replies.Cause.TheVariants as cause
use Rattle.store_file.specs.Facts.{facts_in}
use Rattle.store_file.specs.StoreValue.{StoreValue}

same_err : (e : AdmitErr) → admit_err (refusal_by e) ≡ e
same_err (Unknown name) = refl
same_err (Rank sum) = refl
same_err (Domain sum lo hi) = refl
same_err (Range node) = refl

-- a text that is a query, and the plain query of that
pub record IsWritten (text : List ℕ) (q p : QueryTerm) : Type 0 where
  pub text_is : parsed text ≡ Ok q
  pub plain_is : p ≡ plain q

pub plain_ok : (m : StoreValue) (text : List ℕ) (q p : QueryTerm) (facts : List Fact) → IsWritten text q p → facts ≡ facts_in m → refusal_of facts p ≡ None → plain_in m text ≡ Ok p
unfolding plain_in
plain_ok m text q p facts is same none =
    let r : refusal_of (facts_in m) (plain q) ≡ None = (λ i. refusal_of (sym same i) (sym is.plain_is i)) ∙ none in
    ap (plain_by m) is.text_is ∙ ap (unless_refused (plain q)) r ∙ ap Ok (sym is.plain_is)

pub plain_refused : (m : StoreValue) (text : List ℕ) (q p : QueryTerm) (facts : List Fact) (e : AdmitErr) → IsWritten text q p → facts ≡ facts_in m
    → refusal_of facts p ≡ Some (refusal_by e) → plain_in m text ≡ Err (cause.Admit e)
unfolding plain_in
plain_refused m text q p facts e is same some =
    let r : refusal_of (facts_in m) (plain q) ≡ Some (refusal_by e) = (λ i. refusal_of (sym same i) (sym is.plain_is i)) ∙ some in
    ap (plain_by m) is.text_is ∙ ap (unless_refused (plain q)) r ∙ ap (λ a. Err (cause.Admit a)) (same_err e)

pub text_refused : (m : StoreValue) (text : List ℕ) (e : QueryErr) → IsTextRefusal (parsed text) e → IsRefusal (plain_in m text) e
unfolding plain_in
text_refused m text (query.Refused c) is = ap (plain_by m) is.2 ∙ ap Err (sym is.1)
text_refused m text query.Memory is = tt

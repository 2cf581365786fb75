-- The certificate that is printed of a store holds over it.
use Rattle.std.proofs.Common.{◌≡◌, ℕ, Bool, true, false, List, Option, Some, None, Result, Ok, Err, refl, ◌∙◌, ap, sym, subst}
use Rattle.std.specs.Prelude.{if◌then◌else◌}
use Rattle.answer_check.proofs.Answering.{answers_hold}
use Rattle.expr_parse.proofs.CanonicalLaws.{canonical-parsed}
use Rattle.expr_parse.specs.Parsed.{parsed}
use Rattle.expr_parse.specs.declared.error.ParseErr.{ParseErr}
use Rattle.semantics.specs.Admission.{NotAdmitted, refusal_of}
use Rattle.semantics.specs.Plain.{plain}
use Rattle.semantics.specs.Term.{QueryTerm}
use Rattle.store_file.specs.Decoded.{decode_of}
use Rattle.store_file.specs.Facts.{facts_in}
use Rattle.store_file.specs.StoreValue.{StoreValue, IsStoreValue}
use Rattle.store_file.specs.declared.decoding.StoreErr.{StoreErr}
use Rattle.store_file.specs.declared.decoding.StoreErr.TheVariants as stored
use Rattle.store_file.proofs.DecodedLaws.{image-decode}
use Rattle.query_cli.specs.Asked.{Asked}
use Rattle.query_cli.specs.Commands.Query.{are_bytes, asked_of, asked_of_none, asked_over}
use Rattle.query_cli.specs.Laws.{CertificatesHold}
use Rattle.query_cli.specs.Reading.{File, Shown, answered, held, missing, no_store, oversized, refused}
use Rattle.query_cli.specs.Refusals.{bad_query, query_refusal}
use Rattle.query_cli.specs.Steps.{and_then, refused_as, unless_refused}
use Rattle.query_cli.proofs.PartLaws.{is_bytes}

-- a query is asked of a store, over which it is admitted
record IsAskedOf (q : QueryTerm) (asked : Asked) : Type 0 where
  pub query_is : asked.query ≡ q
  pub store : IsStoreValue asked.store
  pub admitted : refusal_of (facts_in asked.store) (plain asked.query) ≡ None

of_store : (shown : Shown) (q : QueryTerm) (m : StoreValue) (asked : Asked) → IsStoreValue m
    → asked_of shown q (Ok m) ≡ Ok (Some asked) → IsAskedOf q asked
of_store shown q m asked is h = by (refusal_of (facts_in m) (plain q)) refl h
  where
    by : (o : Option NotAdmitted) → refusal_of (facts_in m) (plain q) ≡ o
        → and_then (unless_refused query_refusal (record { store = m; query = q }) o) (λ a. Ok (Some a)) ≡ Ok (Some asked)
        → IsAskedOf q asked
    by None e k =
        let same : ◌≡◌ {A = Asked} (record { store = m; query = q }) asked = cc in
        subst (IsAskedOf q) same (record { query_is = refl; store = is; admitted = e })
    by (Some why) e k = cc

of_none : (shown : Shown) (asked : Asked) → asked_of_none shown ≡ Ok (Some asked) → ⊥
of_none answered asked h = cc
of_none no_store asked h = cc
of_none (refused why) asked h = cc

of_decoded : (shown : Shown) (q : QueryTerm) (bytes : List ℕ) (r : Result StoreValue StoreErr) (asked : Asked)
    → are_bytes bytes ≡ true → decode_of bytes ≡ r → asked_of shown q r ≡ Ok (Some asked) → IsAskedOf q asked
of_decoded shown q bytes (Ok m) asked are e h =
    of_store shown q m asked (image-decode bytes m (is_bytes bytes are) e).store h
of_decoded shown q bytes (Err (stored.NotAStore place)) asked are e h = cc
of_decoded shown q bytes (Err (stored.BadNode name start len)) asked are e h = absurd (of_none shown asked h)
of_decoded shown q bytes (Err stored.Memory) asked are e h = absurd (of_none shown asked h)

of_bytes : (shown : Shown) (q : QueryTerm) (bytes : List ℕ) (t : Bool) (asked : Asked) → are_bytes bytes ≡ t
    → (if t then asked_of shown q (decode_of bytes) else asked_of_none shown) ≡ Ok (Some asked) → IsAskedOf q asked
of_bytes shown q bytes true asked are h = of_decoded shown q bytes (decode_of bytes) asked are refl h
of_bytes shown q bytes false asked are h = absurd (of_none shown asked h)

of_file : (shown : Shown) (q : QueryTerm) (name : List ℕ) (f : File) (asked : Asked)
    → asked_over shown q name f ≡ Ok (Some asked) → IsAskedOf q asked
of_file shown q name (held bytes) asked h = of_bytes shown q bytes (are_bytes bytes) asked refl h
of_file shown q name missing asked h = cc
of_file shown q name oversized asked h = cc

-- the text is parsed as a query, which is asked of a store
record IsAskedBy (text : List ℕ) (asked : Asked) : Type 0 where
  pub parsed_as : parsed text ≡ Ok asked.query
  pub asked_of : IsAskedOf asked.query asked

of_text : (shown : Shown) (name : List ℕ) (f : File) (text : List ℕ) (x : Result QueryTerm ParseErr) (asked : Asked)
    → parsed text ≡ x → and_then (refused_as bad_query x) (λ q. asked_over shown q name f) ≡ Ok (Some asked)
    → IsAskedBy text asked
of_text shown name f text (Ok q) asked is h =
    let of = of_file shown q name f asked h in
    record {
      parsed_as = is ∙ ap Ok (sym of.query_is);
      asked_of = record { query_is = refl; store = of.store; admitted = of.admitted };
    }
of_text shown name f text (Err e) asked is h = cc

pub certificates-hold : CertificatesHold
certificates-hold reading c asked answer found is =
    let by = of_text reading.shown c.store (reading.store c.store) c.text (parsed c.text) asked refl found in
    answers_hold asked.store asked.query c.budget answer by.asked_of.store
    (canonical-parsed c.text asked.query by.parsed_as) by.asked_of.admitted is.tells

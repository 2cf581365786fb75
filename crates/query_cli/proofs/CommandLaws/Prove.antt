-- `prove` by its steps.
use Rattle.std.proofs.Common.{◌≡◌, ◌∙◌, ℕ, Bool, true, false, List, Option, Some, None, Result, Ok, Err, refl, sym, ap, ap₂, subst}
use Rattle.std.specs.Prelude.{if◌then◌else◌}
use Rattle.std.specs.Result.{result_err}
use Rattle.std.specs.Str.{IsUtf8, is_utf8}
use Rattle.std.proofs.lemmas.Str.{IsUtf8-from_is_utf8}
use Rattle.answer_check.specs.Certificate.{certificate_for}
use Rattle.answer_check.specs.Json.{certificate_if, certificate_in}
use Rattle.answer_check.specs.declared.certificate.Cert.{Cert}
use Rattle.answer_check.specs.declared.certificate.CertErr.{CertErr}
use Rattle.answer_check.specs.declared.certificate.CertErr.TheVariants.{NotJson}
use Rattle.descent.specs.declared.descents.Answer.{Answer}
use Rattle.semantics.specs.Files.{Files}
use Rattle.semantics.specs.Term.{QueryTerm}
use Rattle.query_cli.specs.Asked.{Asked}
use Rattle.query_cli.specs.Commands.{prove}
use Rattle.query_cli.specs.Commands.Prove.{CertifiesAsked, IsCertified, ProveHands, cert_line}
use Rattle.query_cli.specs.Commands.Query.{QueryCommand, query_in}
use Rattle.query_cli.specs.Parted.{HandsOver, IsAnsweredAs, IsAnsweredFor, IsFound}
use Rattle.query_cli.specs.Refusals.{Refusal}
use Rattle.query_cli.specs.Run.{IsDone}
use Rattle.query_cli.proofs.QuestionLaws.{IsAsking}
use Rattle.query_cli.proofs.StepLaws.{kept-files, same-files}

pub is_prove : (c : QueryCommand) → IsAsking (Some (prove c)) c
is_prove c = record { refusal = λ reading. refl }

abbrev line_for : List (List ℕ) → QueryTerm → ℕ → Answer → List ℕ
line_for names q budget a = cert_line (certificate_for names q budget a)

abbrev certified : (q : QueryTerm) (budget : ℕ) (names : List (List ℕ)) (a : Answer) (text : List ℕ) (asked : Asked)
    → text ≡ line_for names q budget a → IsAnsweredFor q budget names a asked → IsCertified asked budget text
certified q budget names a text asked line k = record {
  answer = a;
  is_answer = k.is_answer;
  line = line ∙ ap₂ (λ ns t. line_for ns t budget a) k.names_are (sym k.query_is);
}

certificate_asked : (q : QueryTerm) (budget : ℕ) (names : List (List ℕ)) (a : Answer) (text : List ℕ)
    (asked : Option Asked) → text ≡ line_for names q budget a → IsAnsweredAs q budget names a asked
    → CertifiesAsked budget asked text
certificate_asked q budget names a text None line k = (certificate_for names q budget a, line)
certificate_asked q budget names a text (Some asked) line k = certified q budget names a text asked line k

pub prove_done : (c : QueryCommand) (q : QueryTerm) (names : List (List ℕ)) (a : Answer) (files now : Option Files)
    (text : List ℕ) → IsFound files c q names a → text ≡ line_for names q c.budget a → now ≡ files
    → IsDone files now (Some (prove c)) text
prove_done c q names a files now text f line same = record {
  answer = record {
    reading = f.reading;
    read = f.read;
    accepted = ap result_err f.found;
    answer = record {
      asked = f.asked;
      found = f.found;
      certificate = certificate_asked q c.budget names a text f.asked line f.answer;
    };
  };
  files = same-files files now same;
  replayed = kept-files files now (Some (prove c)) same;
}

-- ---- how much is read

pub prove_hands : (c : QueryCommand) (q : QueryTerm) (names : List (List ℕ)) (a : Answer) (files : Option Files)
    (text : List ℕ) (before now : Option ℕ) → query_in c.text ≡ Ok q → text ≡ line_for names q c.budget a
    → HandsOver files c.store q c.budget names a before now → ProveHands files c text before now
prove_hands c q names a None text before now is line h = tt
prove_hands c q names a (Some k) text before now is line h = λ p m spelled store there.
    let same : ◌≡◌ {A = Result QueryTerm Refusal} (Ok q) (Ok p) = sym is ∙ spelled in
    let query_is : q ≡ p = cc in
    let i = subst (λ t. HandsOver (Some k) c.store t c.budget names a before now) query_is h m store there in
    let written : text ≡ line_for names p c.budget a = line ∙ ap (λ t. line_for names t c.budget a) query_is in
    record {
      certified = certified p c.budget names a text (record { store = m; query = p }) written i.answer;
      parts = i.parts;
    }

-- ---- the text

is_spelled : {D : Type 0} (f : Option D → Result Cert CertErr) (d : Option D) (t : Bool) (c : Cert)
    → f None ≡ Err NotJson → f (if t then d else None) ≡ Ok c → t ≡ true
is_spelled f d true c none h = refl
is_spelled f d false c none h = cc

-- what is read as a certificate is text
pub certificate-utf8 : (bytes : List ℕ) (c : Cert) → certificate_in bytes ≡ Ok c → IsUtf8 bytes
certificate-utf8 bytes c h = IsUtf8-from_is_utf8 bytes (is_spelled certificate_if _ (is_utf8 bytes) c refl h)

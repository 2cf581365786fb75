-- `query` by its steps.
use Rattle.std.proofs.Common.{◌≡◌, ◌∙◌, ℕ, List, length, Option, Some, None, Result, Ok, refl, sym, ap, subst}
use Rattle.std.specs.Result.{result_err}
use Rattle.descent.specs.Sums.{width_of}
use Rattle.descent.specs.declared.descents.Answer.{Answer}
use Rattle.semantics.specs.Files.{Files}
use Rattle.semantics.specs.Term.{QueryTerm}
use Rattle.query_cli.specs.Asked.{Asked, answer_line, opened_in}
use Rattle.query_cli.specs.Commands.{query}
use Rattle.query_cli.specs.Commands.Query.{AnswersAsked, QueryCommand, QueryHands, query_in}
use Rattle.query_cli.specs.Parted.{HandsOver, IsAnsweredAs, IsFound}
use Rattle.query_cli.specs.Refusals.{Refusal}
use Rattle.query_cli.specs.Run.{IsDone}
use Rattle.query_cli.proofs.AskedLaws.{interval_line}
use Rattle.query_cli.proofs.QuestionLaws.{IsAsking}
use Rattle.query_cli.proofs.StepLaws.{kept-files, same-files}

pub is_query : (c : QueryCommand) → IsAsking (Some (query c)) c
is_query c = record { refusal = λ reading. refl }

abbrev line_for : Answer → List ℕ
line_for a = answer_line a.iv.lo a.iv.hi (width_of a.iv) (length a.cut) a.opened

line_asked : (q : QueryTerm) (budget : ℕ) (names : List (List ℕ)) (a : Answer) (text : List ℕ) (asked : Option Asked)
    → text ≡ line_for a → IsAnsweredAs q budget names a asked → AnswersAsked budget asked text
line_asked q budget names a text None line k = (a.iv, length a.cut, a.opened, line)
line_asked q budget names a text (Some asked) line k = interval_line asked budget a text k.is_answer line

pub query_done : (c : QueryCommand) (q : QueryTerm) (names : List (List ℕ)) (a : Answer) (files now : Option Files)
    (text : List ℕ) → IsFound files c q names a → text ≡ line_for a → now ≡ files
    → IsDone files now (Some (query c)) text
query_done c q names a files now text f line same = record {
  answer = record {
    reading = f.reading;
    read = f.read;
    accepted = ap result_err f.found;
    answer = record {
      asked = f.asked;
      found = f.found;
      line = line_asked q c.budget names a text f.asked line f.answer;
    };
  };
  files = same-files files now same;
  replayed = kept-files files now (Some (query c)) same;
}

-- ---- how much is read

pub query_hands : (c : QueryCommand) (q : QueryTerm) (names : List (List ℕ)) (a : Answer) (files : Option Files)
    (text : List ℕ) (before now : Option ℕ) → query_in c.text ≡ Ok q → text ≡ line_for a
    → HandsOver files c.store q c.budget names a before now → QueryHands files c text before now
query_hands c q names a None text before now is line h = tt
query_hands c q names a (Some k) text before now is line h = λ p m spelled store there.
    let same : ◌≡◌ {A = Result QueryTerm Refusal} (Ok q) (Ok p) = sym is ∙ spelled in
    let query_is : q ≡ p = cc in
    let i = subst (λ t. HandsOver (Some k) c.store t c.budget names a before now) query_is h m store there in
    let tells = i.answer.is_answer.tells in
    let opened : a.opened ≡ opened_in a.cut = tells.opened ∙ ap opened_in (sym tells.rows) in
    record {
      iv = a.iv;
      rows = a.cut;
      line = line ∙ ap (λ n. answer_line a.iv.lo a.iv.hi (width_of a.iv) (length a.cut) n) opened;
      parts = i.parts;
    }

-- A query over a store, by its descent.
use Rattle.std.proofs.Common.{◌≡◌, ◌∙◌, ℕ, List, length, Some, None, Err, sym, ap, ap₂, subst}
use Rattle.std.specs.Prelude.{IsSomeAnd}
use Rattle.descent.specs.Descents.{after, cut_of}
use Rattle.descent.specs.Sums.{interval_in, width_of, IsWithin}
use Rattle.descent.specs.Told.{Tells}
use Rattle.descent.specs.declared.descents.Answer.{Answer}
use Rattle.descent.proofs.Values.{each_cut_holds_the_value}
use Rattle.interval.specs.Interval.{Has}
use Rattle.segment.specs.Nodes.{IsForest}
use Rattle.semantics.specs.Admission.{NotAdmitted, high_rank, outside, refusal_of, too_great, unknown}
use Rattle.semantics.specs.Plain.{IsPlain, plain}
use Rattle.semantics.specs.Term.{QueryTerm}
use Rattle.semantics.specs.Value.{query_value}
use Rattle.semantics.proofs.PlainLaws.{query_value-plain}
use Rattle.store_file.specs.Added.{names_in}
use Rattle.store_file.specs.Facts.{facts_in}
use Rattle.store_file.specs.StoreValue.{StoreValue}
use Rattle.query_cli.specs.Asked.{Asked, IsAnswerOf, IsAnswered, IsIntervalLine, admitted_in, answer_line, forest_of, readings_in, roots_in}
use Rattle.query_cli.specs.Refusals.{query_refusal}
use Rattle.query_cli.specs.Steps.{unless_refused}
use Rattle.query_cli.specs.Stops.{HasCause, IfRefused, IsNotAdmitted, IsStepRefusal}
use Rattle.query_cli.specs.declared.stop.Stop.{Stop}
use Rattle.query_cli.proofs.StepLaws.{refused-map}

-- ---- the interval holds the value

pub holds : (q : QueryTerm) (m : StoreValue) (lengths : List ℕ) (budget : ℕ) (a : Answer) → IsForest lengths (forest_of m) → IsPlain q → Tells q (roots_in q m) budget a
    → Has a.iv (query_value (readings_in m) q)
holds q m lengths budget a forest is_plain tells =
    let cut = each_cut_holds_the_value lengths (forest_of m) (names_in m) q tells.is_last.steps forest is_plain in
    let there : Some a.iv ≡ interval_in (cut_of (after q (roots_in q m) tells.is_last.steps)) q = tells.interval ∙ ap (λ n. interval_in (cut_of n) q) tells.is_last.reached in
    subst (λ o. IsSomeAnd o (λ iv. Has iv (query_value (readings_in m) q))) (sym there) cut

-- ---- the refusal, and the line, by what the steps found

pub is_answer : (q : QueryTerm) (m : StoreValue) (budget : ℕ) (a : Answer) → Tells (plain q) (roots_in (plain q) m) budget a
    → Has a.iv (query_value (readings_in m) (plain q)) → IsAnswerOf (record { store = m; query = q }) budget a
is_answer q m budget a tells has =
    record {
      tells = tells;
      holds = subst (Has a.iv) (query_value-plain (readings_in m) q) has;
      within = subst (IsWithin budget) (sym tells.interval) tells.is_last.within;
    }

pub interval_line : (asked : Asked) (budget : ℕ) (a : Answer) (text : List ℕ) → IsAnswerOf asked budget a
    → text ≡ answer_line a.iv.lo a.iv.hi (width_of a.iv) (length a.cut) a.opened → IsIntervalLine asked budget text
interval_line asked budget a text is line =
    record {
      last = is.tells.last;
      is_last = is.tells.is_last;
      iv = a.iv;
      interval = sym is.tells.interval;
      holds = is.holds;
      within = is.within;
      line = line ∙ ap₂ (λ rows opened. answer_line a.iv.lo a.iv.hi (width_of a.iv) (length rows) opened) is.tells.rows is.tells.opened;
    }

pub answered : (q : QueryTerm) (m : StoreValue) (budget : ℕ) (a : Answer) (text : List ℕ) → refusal_of (facts_in m) (plain q) ≡ None
    → Tells (plain q) (roots_in (plain q) m) budget a → Has a.iv (query_value (readings_in m) (plain q))
    → text ≡ answer_line a.iv.lo a.iv.hi (width_of a.iv) (length a.cut) a.opened → IsAnswered q m budget text
answered q m budget a text none tells has line =
    let asked : Asked = record { store = m; query = q } in
    record {
      admitted = ap (unless_refused query_refusal asked) none;
      line = interval_line asked budget a text (is_answer q m budget a tells has) line;
    }

-- ---- a query that is not admitted

pub caused : (e : NotAdmitted) → HasCause (query_refusal e)
caused (unknown name) = record { csv = λ e. cc; store = λ e. cc; query = λ e. cc; cert = λ e. cc }
caused (high_rank k) = record { csv = λ e. cc; store = λ e. cc; query = λ e. cc; cert = λ e. cc }
caused (outside k lo hi) = record { csv = λ e. cc; store = λ e. cc; query = λ e. cc; cert = λ e. cc }
caused (too_great k) = record { csv = λ e. cc; store = λ e. cc; query = λ e. cc; cert = λ e. cc }

pub not_admitted : (q : QueryTerm) (m : StoreValue) (s : Stop) → IfRefused s (IsNotAdmitted (refusal_of (facts_in m) (plain q))) → IfRefused s (IsStepRefusal (admitted_in q m))
not_admitted q m s h =
    let asked : Asked = record { store = m; query = q } in
    refused-map s (IsNotAdmitted (refusal_of (facts_in m) (plain q))) (IsStepRefusal (admitted_in q m))
    (λ r k. record { called = ap (unless_refused query_refusal asked) k.called ∙ ap Err (sym k.refusal); cause = subst HasCause (sym k.refusal) (caused k.why) }) h

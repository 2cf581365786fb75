-- What holds of all verdicts.
use Rattle.std.specs.Prelude.{◌≡◌, ℕ, ◌≤◌, ℤ, None, List, Ok}
use Rattle.semantics.specs.Admission.{refusal_of}
use Rattle.semantics.specs.Plain.{plain}
use Rattle.semantics.specs.Term.{QueryTerm}
use Rattle.semantics.specs.Value.{query_value}
use Rattle.interval.specs.Interval.{Has}
use Rattle.expr_parse.specs.Canonical.{canonical_text}
use Rattle.expr_parse.specs.Parsed.{parsed}
use Rattle.store_file.specs.Added.{names_in}
use Rattle.store_file.specs.Facts.{facts_in}
use Rattle.store_file.specs.StoreValue.{IsStoreValue, StoreValue}
use Rattle.descent.specs.declared.descents.Answer.{Answer}
use Rattle.descent.specs.Descents.{roots}
use Rattle.descent.specs.Laws.{stored}
use Rattle.descent.specs.Sums.{width_of}
use Rattle.descent.specs.Told.{Tells}
use Rattle.answer_check.specs.declared.certificate.Cert.{Cert}
use Rattle.answer_check.specs.declared.verdict.Verdict.TheVariants.{Holds}
use Rattle.answer_check.specs.Certificate.{certificate_for}
use Rattle.answer_check.specs.Verdict.{answer_of, forest_of, stated}

-- the readings of the series of a name
abbrev pub readings_under : StoreValue → List ℕ → List ℤ
readings_under m = stored (forest_of m) (names_in m)

-- the value of a query lies in the interval that is stated, which is no wider than the budget
pub record IsProved (m : StoreValue) (c : Cert) (q : QueryTerm) : Type 0 where
  pub value : Has (stated c) (query_value (readings_under m) q)
  pub within : width_of (stated c) ≤ c.budget

-- a certificate that holds proves what it states, whoever made it
abbrev pub HoldingProves : Type 0
HoldingProves = (m : StoreValue) (c : Cert) (q : QueryTerm) → IsStoreValue m → parsed c.query ≡ Ok q
    → answer_of m c ≡ Ok Holds → IsProved m c q

-- what is written of the answer of a descent over a store holds over it
abbrev pub AnswersHold : Type 0
AnswersHold = (m : StoreValue) (q : QueryTerm) (budget : ℕ) (a : Answer) → IsStoreValue m
    → parsed (canonical_text q) ≡ Ok q → refusal_of (facts_in m) (plain q) ≡ None
    → Tells (plain q) (roots (plain q) (forest_of m) (names_in m)) budget a
    → answer_of m (certificate_for (names_in m) q budget a) ≡ Ok Holds

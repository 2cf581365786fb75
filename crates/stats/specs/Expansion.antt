-- What the plain query keeps.
use Rattle.std.specs.Prelude.{◌≡◌, ℕ, ℤ, List}
use Rattle.semantics.specs.Limits.{IsWithinLimits}
use Rattle.semantics.specs.Plain.{IsPlain, plain}
use Rattle.semantics.specs.Term.{QueryTerm}
use Rattle.semantics.specs.Value.{query_value}

-- it has sums alone
abbrev pub PlainIsPlain : Type 0
PlainIsPlain = (q : QueryTerm) → IsPlain (plain q)

-- it comes to what the query comes to, for all readings
abbrev pub ValueStays : Type 0
ValueStays = (X : List ℕ → List ℤ) (q : QueryTerm) → query_value X (plain q) ≡ query_value X q

-- it is within the limits where the query is
abbrev pub LimitsStay : Type 0
LimitsStay = (q : QueryTerm) → IsWithinLimits q → IsWithinLimits (plain q)

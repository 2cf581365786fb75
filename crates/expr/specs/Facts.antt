-- What is known of the series, as the rules of admission take it.
use Rattle.std.specs.Prelude.{ℕ, Bool, List, map}
use Rattle.semantics.specs.Admission as admission
use Rattle.semantics.specs.Names.{same_name}
use Rattle.expr.specs.declared.facts.Fact.{Fact}

abbrev pub fact_of : Fact → admission.Fact
fact_of fact = record { name = fact.name; count = fact.n; greatest = fact.d }

abbrev pub facts_of : List Fact → List admission.Fact
facts_of facts = map fact_of facts

abbrev pub is_of : List ℕ → Fact → Bool
is_of name fact = same_name fact.name name

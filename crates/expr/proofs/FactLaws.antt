-- Look-ups of facts.
use Rattle.std.proofs.Common.{ℕ, ◌≡◌, true, false, cond, List, [], ◌∷◌, Some, refl}
use Rattle.std.specs.Prelude.{find}
use Rattle.std.specs.Option.{option_map}
use Rattle.semantics.specs.Admission.{fact_at}
use Rattle.semantics.specs.Names.{same_name}
use Rattle.expr.specs.declared.facts.Fact.{Fact}
use Rattle.expr.specs.Facts.{fact_of, facts_of, is_of}

pub fact_at-facts_of : (facts : List Fact) (name : List ℕ) → fact_at (facts_of facts) name ≡ option_map fact_of (find (is_of name) facts)
fact_at-facts_of [] name = refl
fact_at-facts_of (f ∷ fs) name =
    let rest = fact_at-facts_of fs name in
    elim (same_name f.name name) as (λ b. cond b (Some (fact_of f)) (fact_at (facts_of fs) name) ≡ option_map fact_of (cond b (Some f) (find (is_of name) fs))) [
      | true ↦ refl
      | false ↦ rest
    ]

pub ruleset looked_up = (fact_at-facts_of)

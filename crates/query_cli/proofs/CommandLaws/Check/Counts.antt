-- Counts of readings.
use Rattle.std.proofs.Common.{◌≡◌, ℕ, zero, suc, ◌+◌, ◌^◌, ◌<◌, ◌≤◌, List, [], ◌∷◌, length, map, drop, get_or, refl, sym, ap, ap₂, subst, ◌∙◌, arith}
use Rattle.std.specs.List.{All}
use Rattle.std.proofs.lemmas.List.Elements.{All-get_or}
use Rattle.expr.specs.Facts.{fact_of, facts_of}
use Rattle.expr.specs.declared.facts.Fact.{Fact}
use Rattle.store_file.specs.Facts.{IsSmallFact, fact_in, facts_in}
use Rattle.store_file.specs.StoreValue.{Series, StoreValue, count_of}
use Rattle.query_cli.specs.Commands.Check.{count_all}
use Rattle.query_cli.specs.Commands.Check.{counted}
use Rattle.query_cli.specs.Commands.Check.{ok_line}

-- the readings of the series at a place, and of those behind it
pub counted-drop : (facts : List Fact) (i : ℕ) (f : Fact) → i < length facts → f ≡ get_or facts i f → counted (facts_of (drop i facts)) ≡ f.n + counted (facts_of (drop (suc i) facts))
counted-drop [] i f within e = absurd (omega arith)
counted-drop (x ∷ facts) zero f within e = ap (λ (q : Fact). q.n + counted (facts_of facts)) (sym e)
counted-drop (x ∷ facts) (suc i) f within e = counted-drop facts i f (omega arith) e

length-facts : (facts : List Fact) → length (facts_of facts) ≡ length facts
length-facts [] = refl
length-facts (x ∷ facts) = ap suc (length-facts facts)

get-facts : (facts : List Fact) (i : ℕ) (f : Fact) → i < length facts → get_or (facts_of facts) i (fact_of f) ≡ fact_of (get_or facts i f)
get-facts [] i f within = absurd (omega arith)
get-facts (x ∷ facts) zero f within = refl
get-facts (x ∷ facts) (suc i) f within = get-facts facts i f (omega arith)

pub small-count : (facts : List Fact) (i : ℕ) (f : Fact) → i < length facts → f ≡ get_or facts i f → All IsSmallFact (facts_of facts) → f.n ≤ 2 ^ 20
small-count facts i f within e small =
    let inside : i < length (facts_of facts) = omega (arith, length-facts facts) in
    let at : IsSmallFact (get_or (facts_of facts) i (fact_of f)) = All-get_or IsSmallFact (facts_of facts) i (fact_of f) inside small in
    let same : get_or (facts_of facts) i (fact_of f) ≡ fact_of f = get-facts facts i f within ∙ sym (ap fact_of e) in
    (subst IsSmallFact same at).count

counted-series : (ss : List Series) → counted (map fact_in ss) ≡ count_all ss
counted-series [] = refl
counted-series (s ∷ ss) = ap (λ n. count_of s + n) (counted-series ss)

length-series : (ss : List Series) → length (map fact_in ss) ≡ length ss
length-series [] = refl
length-series (s ∷ ss) = ap suc (length-series ss)

-- the line of the counts, by the facts of a store
pub counts-line : (m : StoreValue) (facts : List Fact) (series readings : ℕ) (text : List ℕ) → facts_of facts ≡ facts_in m → series ≡ length facts → readings ≡ counted (facts_of facts)
    → text ≡ ok_line series readings → text ≡ ok_line (length m.series) (count_all m.series)
counts-line m facts series readings text are few all line =
    let first : series ≡ length m.series = few ∙ sym (length-facts facts) ∙ ap length are ∙ length-series m.series in
    let second : readings ≡ count_all m.series = all ∙ ap counted are ∙ counted-series m.series in
    line ∙ ap₂ ok_line first second

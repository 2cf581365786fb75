-- What is known of the series of a store.
use Rattle.std.specs.Prelude.{ℕ, ◌^◌, ◌≤◌, List, [], length, map, All}
use Rattle.semantics.specs.Admission.{Fact}
use Rattle.segment.specs.Measure.{greatest_reading}
use Rattle.segment.specs.Tree.{all_readings}
use Rattle.store_file.specs.StoreValue.{Series, StoreValue, IsStoreValue, AreNames, count_of}

-- the name, the count of readings and the greatest absolute one
abbrev pub fact_in : Series → Fact
fact_in s = record { name = s.name; count = count_of s; greatest = greatest_reading (all_readings s.tree) }

-- those of all series, in order
abbrev pub facts_in : StoreValue → List Fact
facts_in m = map fact_in m.series

abbrev pub fact_name : Fact → List ℕ
fact_name fact = fact.name

-- at most 2 ^ 20 readings within 10 ^ 9
pub record IsSmallFact (fact : Fact) : Type 0 where
  pub count : fact.count ≤ 2 ^ 20
  pub greatest : fact.greatest ≤ 10 ^ 9

-- what holds of the facts of a store: few, small, and of names that differ
pub record AreFacts (facts : List Fact) : Type 0 where
  pub few : length facts ≤ 16
  pub names : AreNames [] (map fact_name facts)
  pub small : All IsSmallFact facts

abbrev pub StoresHaveFacts : Type 0
StoresHaveFacts = (m : StoreValue) → IsStoreValue m → AreFacts (facts_in m)

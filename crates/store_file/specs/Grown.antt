-- A store with more readings behind those of a series, and why they are not added.
use Rattle.std.specs.Prelude.{◌≡◌, ℕ, ◌+◌, ◌^◌, ◌≤◌, true, false, nat_lt, if◌then◌else◌, ℤ, List, [], ◌∷◌, ◌++◌, length, map, Option, Some, None}
use Rattle.std.specs.Option.{option_or}
use Rattle.semantics.specs.Names.{same_name}
use Rattle.segment.specs.Growth.{made}
use Rattle.segment.specs.Measure.{AreReadings}
use Rattle.segment.specs.Tree.{all_readings, fitted_series}
use Rattle.seg_tree.specs.Grown.{grown_tree}
use Rattle.seg_tree.specs.Linked.{used}
use Rattle.store_file.specs.StoreValue.{Series, StoreValue, IsStoreValue, has_name}
use Rattle.store_file.specs.Stored.{StoreParts, store_value}
use Rattle.store_file.specs.Added.{names_in, with_series, HasRoom}
use Rattle.store_file.specs.declared.adding.SeriesErr.{SeriesErr}
use Rattle.store_file.specs.declared.adding.SeriesErr.TheVariants as refusal

-- the readings of the series of a name; none where there is no such series
abbrev pub readings_named : List Series → List ℕ → List ℤ
readings_named [] name = []
readings_named (s ∷ ss) name = if same_name name s.name then all_readings s.tree else readings_named ss name

-- the series with more readings behind those of the one of a name
abbrev pub grown_series : ℕ → List Series → List ℕ → List ℤ → List Series
grown_series degree [] name more = []
grown_series degree (s ∷ ss) name more =
    if same_name name s.name then record { name = s.name; tree = grown_tree degree s.tree more } ∷ ss
    else s ∷ grown_series degree ss name more

-- the store with more readings behind those of the series of a name: what was there keeps its segments, and each node
-- of another range is fitted
abbrev pub grown_store : StoreValue → List ℕ → List ℤ → StoreValue
grown_store m name more = record {
  scale = m.scale;
  degree = m.degree;
  series = grown_series m.degree m.series name more;
}

-- ---- refusals

-- how many readings the series of a name has with more of them
abbrev pub grown_length : StoreValue → List ℕ → List ℤ → ℕ
grown_length m name more = length (readings_named m.series name) + length more

-- why no readings are added to a series of this name, whatever room there is
abbrev pub growth_refusal : StoreValue → List ℕ → List ℤ → Option SeriesErr
growth_refusal m name more =
    if has_name (names_in m) name
    then (if nat_lt (2 ^ 20) (grown_length m name more) then Some refusal.TooLong else None)
    else Some refusal.Unknown

-- how many nodes are made
abbrev pub made_in : StoreValue → List ℕ → List ℤ → ℕ
made_in m name more = made (length (readings_named m.series name)) (grown_length m name more)

-- why an arena has no room for them
abbrev pub room_refusal : StoreParts → List ℕ → List ℤ → Option SeriesErr
room_refusal s name more =
    if nat_lt s.arena.limit (used s.arena.nodes + made_in (store_value s) name more) then Some refusal.ArenaFull
    else None

-- why readings are not added
abbrev pub append_refusal : StoreParts → List ℕ → List ℤ → Option SeriesErr
append_refusal s name more = option_or (growth_refusal (store_value s) name more) (room_refusal s name more)

-- ---- laws

-- readings that a series of a store may be given: they are within 10 ^ 9, and with them it is no longer than a series
-- may be
pub record IsGrowable (m : StoreValue) (name : List ℕ) (more : List ℤ) : Type 0 where
  pub there : has_name (names_in m) name ≡ true
  pub readings : AreReadings more
  pub short : grown_length m name more ≤ 2 ^ 20

-- with such readings it is a store again
abbrev pub GrowingKeepsStores : Type 0
GrowingKeepsStores = (m : StoreValue) (name : List ℕ) (more : List ℤ) → IsStoreValue m → IsGrowable m name more
    → IsStoreValue (grown_store m name more)

-- with room only a series that isn't there, or would be too long, is refused
abbrev pub GrowthHasRoom : Type 0
GrowthHasRoom = (s : StoreParts) (name : List ℕ) (more : List ℤ) → HasRoom s
    → append_refusal s name more ≡ growth_refusal (store_value s) name more

-- each node of each series is the fit of its readings
abbrev pub AreFitted : ℕ → List Series → Type 0
AreFitted degree [] = Unit {0}
AreFitted degree (s ∷ ss) = (s.tree ≡ fitted_series degree (all_readings s.tree)) × AreFitted degree ss

abbrev pub IsFitted : StoreValue → Type 0
IsFitted m = AreFitted m.degree m.series

-- a series by its name and its readings
pub record NamedReadings : Type 0 where
  pub name : List ℕ
  pub readings : List ℤ

abbrev pub named_readings : Series → NamedReadings
named_readings s = record { name = s.name; readings = all_readings s.tree }

-- the names and readings of all series
abbrev pub contents_of : StoreValue → List NamedReadings
contents_of m = map named_readings m.series

-- a fitted store stays one, however it grows
abbrev pub FittedStoresStay : Type 0
FittedStoresStay = (m : StoreValue) (name : List ℕ) (xs : List ℤ) → IsFitted m
    → IsFitted (with_series m name xs) × IsFitted (grown_store m name xs)

-- two fitted stores of the same scale, degree, names and readings are one, and so are their bytes
abbrev pub FittedStoresAreOne : Type 0
FittedStoresAreOne = (m n : StoreValue) → IsFitted m → IsFitted n → m.scale ≡ n.scale → m.degree ≡ n.degree
    → contents_of m ≡ contents_of n → m ≡ n

-- a series that was loaded and then given more readings is as if it had been loaded with all of them
abbrev pub AppendsAreLoads : Type 0
AppendsAreLoads = (m : StoreValue) (name : List ℕ) (xs more : List ℤ) → has_name (names_in m) name ≡ false
    → grown_store (with_series m name xs) name more ≡ with_series m name (xs ++ more)

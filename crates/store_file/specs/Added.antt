-- A store with one more series, and why a series is not added.
use Rattle.std.specs.Prelude.{◌≡◌, ℕ, ◌+◌, ◌^◌, ◌<◌, ◌≤◌, true, false, nat_le, nat_lt, if◌then◌else◌, ℤ, List, [], ◌∷◌, ◌++◌, length, map, Option, Some, None}
use Rattle.std.specs.Option.{option_or}
use Rattle.semantics.specs.Names.{is_name}
use Rattle.segment.specs.Measure.{AreReadings}
use Rattle.segment.specs.Shape.{node_count}
use Rattle.segment.specs.Tree.{fitted_series}
use Rattle.seg_tree.specs.Linked.{used}
use Rattle.seg_tree.specs.declared.arena.TreeErr.{TreeErr}
use Rattle.seg_tree.specs.declared.arena.TreeErr.TheVariants as tree
use Rattle.store_file.specs.StoreValue.{StoreValue, IsStoreValue, name_of, has_name}
use Rattle.store_file.specs.Stored.{StoreParts, store_value}
use Rattle.store_file.specs.declared.adding.SeriesErr.{SeriesErr}
use Rattle.store_file.specs.declared.adding.SeriesErr.TheVariants as refusal

-- the names of the series, in order
abbrev pub names_in : StoreValue → List (List ℕ)
names_in m = map name_of m.series

-- the store with one more series, which is last and whose nodes are all fitted
abbrev pub with_series : StoreValue → List ℕ → List ℤ → StoreValue
with_series m name xs =
    record {
      scale = m.scale;
      degree = m.degree;
      series = m.series ++ record { name = name; tree = fitted_series m.degree xs } ∷ [];
    }

-- why no series of a name is added, whatever its readings are
abbrev pub name_refusal : StoreValue → List ℕ → Option SeriesErr
name_refusal m name =
    if has_name (names_in m) name then Some refusal.Exists else
    (if nat_le 16 (length m.series) then Some refusal.TooMany else None)

-- why the readings are not added to an arena
abbrev pub readings_refusal : StoreParts → List ℤ → Option SeriesErr
readings_refusal s xs =
    if nat_lt (2 ^ 20) (length xs) then Some refusal.TooLong else
    (if nat_lt s.arena.limit (used s.arena.nodes + node_count (length xs)) then Some refusal.ArenaFull else None)

-- why a series is not added
abbrev pub add_refusal : StoreParts → List ℕ → List ℤ → Option SeriesErr
add_refusal s name xs = option_or (name_refusal (store_value s) name) (readings_refusal s xs)

-- what an arena's refusal is for a store
abbrev pub series_err_of : TreeErr → SeriesErr
series_err_of tree.TooLong = refusal.TooLong
series_err_of tree.ArenaFull = refusal.ArenaFull
series_err_of tree.Memory = refusal.Memory

-- a series that a store may be given: of a new name, and of readings that are few and within 10 ^ 9
pub record IsAddable (m : StoreValue) (name : List ℕ) (xs : List ℤ) : Type 0 where
  pub spelled : is_name name ≡ true
  pub new : has_name (names_in m) name ≡ false
  pub few : length m.series < 16
  pub readings : AreReadings xs
  pub short : length xs ≤ 2 ^ 20

-- with such a series it is a store again
abbrev pub AddingKeepsStores : Type 0
AddingKeepsStores = (m : StoreValue) (name : List ℕ) (xs : List ℤ) → IsStoreValue m → IsAddable m name xs
    → IsStoreValue (with_series m name xs)

-- room for the nodes of the longest series
abbrev pub HasRoom : StoreParts → Type 0
HasRoom s = used s.arena.nodes + 2 ^ 17 ≤ s.arena.limit

-- with room only the name of a short series may be refused
abbrev pub RoomIsEnough : Type 0
RoomIsEnough = (s : StoreParts) (name : List ℕ) (xs : List ℤ) → HasRoom s → length xs ≤ 2 ^ 20
    → add_refusal s name xs ≡ name_refusal (store_value s) name

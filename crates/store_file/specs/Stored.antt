-- What a store means.
use Rattle.std.specs.Prelude.{◌≡◌, ℕ, ◌+◌, ◌^◌, ◌≤◌, List, [], ◌∷◌, ◌++◌, length}
use Rattle.std.specs.Map.{keys_of}
use Rattle.seg_tree.specs.Held.{Held}
use Rattle.seg_tree.specs.Trees.{IsTreeOf, value_of}
use Rattle.seg_tree.specs.Linked.{Places}
use Rattle.tree_file.specs.Image.{tree_size}
use Rattle.store_file.specs.StoreValue.{Series, StoreValue, AreNames, entry_bytes}
use Rattle.store_file.specs.declared.store.Stored.{Stored}

-- the series at the entries of a map, in order
abbrev pub series_of : Places → List (List ℕ × Stored) → List Series
series_of nodes [] = []
series_of nodes (e ∷ es) = record { name = e.0; tree = value_of nodes e.1.tree } ∷ series_of nodes es

-- each tree is of these nodes
abbrev pub AreOf : Places → List (List ℕ × Stored) → Type 0
AreOf nodes [] = Unit {0}
AreOf nodes (e ∷ es) = IsTreeOf nodes e.1.tree × AreOf nodes es

-- each series has at most 2 ^ 20 readings
abbrev pub AreShort : List (List ℕ × Stored) → Type 0
AreShort [] = Unit {0}
AreShort (e ∷ es) = (e.1.tree.n ≤ 2 ^ 20) × AreShort es

-- a store as contracts see it: its entries in order, and its arena
pub record StoreParts : Type 0 where
  pub scale : ℕ
  pub degree : ℕ
  pub entries : List (List ℕ × Stored)
  pub arena : Held

-- what holds of every store
pub record IsSound (s : StoreParts) : Type 0 where
  pub scale : s.scale ≤ 6
  pub degree : s.degree ≤ 2
  pub fitted : s.arena.degree ≡ s.degree
  pub few : length s.entries ≤ 16
  pub names : AreNames [] (keys_of s.entries)
  pub trees : AreOf s.arena.nodes s.entries

abbrev pub store_value : StoreParts → StoreValue
store_value s = record { scale = s.scale; degree = s.degree; series = series_of s.arena.nodes s.entries }

-- the header's entries, by what the map's entries tell
abbrev pub stored_entries : List (List ℕ × Stored) → List ℕ
stored_entries [] = []
stored_entries (e ∷ es) = entry_bytes e.0 e.1.tree.n ++ stored_entries es

-- how many bytes the trees of the entries have
abbrev pub trees_size : List (List ℕ × Stored) → ℕ
trees_size [] = 0
trees_size (e ∷ es) = tree_size e.1.tree.n + trees_size es

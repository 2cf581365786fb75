-- What a store is, as a value, and its bytes.
use Rattle.std.specs.Prelude.{◌≡◌, ℕ, ◌≤◌, Bool, true, false, codes, List, [], ◌∷◌, ◌++◌, length, map, Option, Some, None}
use Rattle.std.specs.List.{list_any}
use Rattle.semantics.specs.Names.{is_name, same_name}
use Rattle.segment.specs.Nodes.{IsSeriesTree}
use Rattle.segment.specs.Tree.{SegTree, all_readings}
use Rattle.tree_file.specs.Bytes.{bytes_of}
use Rattle.tree_file.specs.Image.{image}

-- a series: its name, and its tree where it has readings
pub record Series : Type 0 where
  pub name : List ℕ
  pub tree : Option SegTree

-- a store: its series are in order of loading
pub record StoreValue : Type 0 where
  pub scale : ℕ
  pub degree : ℕ
  pub series : List Series

-- how many readings a series has
abbrev pub count_of : Series → ℕ
count_of s = length (all_readings s.tree)

abbrev pub name_of : Series → List ℕ
name_of s = s.name

abbrev pub has_name : List (List ℕ) → List ℕ → Bool
has_name seen name = list_any (same_name name) seen

-- each is a name, and differs from those before it
abbrev pub AreNames : List (List ℕ) → List (List ℕ) → Type 0
AreNames seen [] = Unit {0}
AreNames seen (n ∷ ns) = (is_name n ≡ true) × (has_name seen n ≡ false) × AreNames (n ∷ seen) ns

-- each tree is that of a series, so that its segments are true of its readings
abbrev pub EachTree : List Series → Type 0
EachTree [] = Unit {0}
EachTree (s ∷ ss) = IsSeriesTree (count_of s) s.tree × EachTree ss

pub record IsStoreValue (m : StoreValue) : Type 0 where
  pub scale : m.scale ≤ 6
  pub degree : m.degree ≤ 2
  pub few : length m.series ≤ 16
  pub names : AreNames [] (map name_of m.series)
  pub trees : EachTree m.series

-- the entry of a series in the header
abbrev pub entry_bytes : List ℕ → ℕ → List ℕ
entry_bytes name n = length name ∷ (name ++ bytes_of 4 n)

abbrev pub entries_bytes : List Series → List ℕ
entries_bytes [] = []
entries_bytes (s ∷ ss) = entry_bytes s.name (count_of s) ++ entries_bytes ss

abbrev pub tree_image : Option SegTree → List ℕ
tree_image None = []
tree_image (Some t) = image t

abbrev pub trees_image : List Series → List ℕ
trees_image [] = []
trees_image (s ∷ ss) = tree_image s.tree ++ trees_image ss

-- the fixed part: `PLAT`, the version, the scale, the degree and the count of series
abbrev pub fixed_bytes : ℕ → ℕ → ℕ → List ℕ
fixed_bytes scale degree count = codes "PLAT" ++ 1 ∷ scale ∷ degree ∷ count ∷ []

unfoldable pub header_of : StoreValue → List ℕ
header_of m = fixed_bytes m.scale m.degree (length m.series) ++ entries_bytes m.series

-- the bytes of a store: the header, and the trees in the same order
unfoldable pub store_image : StoreValue → List ℕ
store_image m = header_of m ++ trees_image m.series

-- two stores never have one image
abbrev pub ImagesDiffer : Type 0
ImagesDiffer = (m n : StoreValue) → IsStoreValue m → IsStoreValue n → store_image m ≡ store_image n → m ≡ n

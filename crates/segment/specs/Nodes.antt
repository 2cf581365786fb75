-- The trees of several series, and the places of their nodes.
use Rattle.std.specs.Prelude.{◌≡◌, ℕ, ◌+◌, ◌-◌, ◌<◌, ◌≤◌, ◌==◌, ◌&&◌, if◌then◌else◌, ℤ, List, [], ◌∷◌, length, get_or, Option, Some, None, slice_index}
use Rattle.std.specs.List.{AllZip, Contains}
use Rattle.segment.specs.declared.segments.Seg.{Seg}
use Rattle.segment.specs.Fit.{readings_in}
use Rattle.segment.specs.Shape.{Range, shape}
use Rattle.segment.specs.Tree.{SegTree, all_readings, all_segs, IsTreeOver}

-- the trees of the series in order; a series without readings has none
abbrev pub Forest : Type 0
Forest = List (Option SegTree)

abbrev pub tree_in : Forest → ℕ → Option SegTree
tree_in forest k = get_or forest k None

-- it is the tree of a series of n readings
abbrev pub IsSeriesTree : ℕ → Option SegTree → Type 0
IsSeriesTree n None = n ≡ 0
IsSeriesTree n (Some t) = IsTreeOver n t

-- these are the trees of series of these lengths
abbrev pub IsForest : List ℕ → Forest → Type 0
IsForest lengths forest = AllZip IsSeriesTree lengths forest

-- where a node lies: its series, and the range of positions that it covers
pub record Place : Type 0 where
  pub series : ℕ
  pub range : Range

-- the place of the root of a series of n readings
abbrev pub root_place : ℕ → ℕ → Place
root_place series n = record { series = series; range = record { start = 0; len = n } }

-- the places of the children, where the left one covers s readings
abbrev pub left_of : Place → ℕ → Place
left_of p s = record { series = p.series; range = record { start = p.range.start; len = s } }

abbrev pub right_of : Place → ℕ → Place
right_of p s = record { series = p.series; range = record { start = p.range.start + s; len = p.range.len - s } }

-- the segment of a range
abbrev pub find_seg : List Seg → Range → Option Seg
find_seg [] r = None
find_seg (g ∷ gs) r = if (g.start == r.start) && (g.len == r.len) then Some g else find_seg gs r

-- the segment of the node at a place
abbrev pub seg_at : Forest → Place → Option Seg
seg_at forest p = find_seg (all_segs (tree_in forest p.series)) p.range

-- the readings that the node at a place covers
abbrev pub readings_at : Forest → Place → List ℤ
readings_at forest p = readings_in (all_readings (tree_in forest p.series)) p.range

-- the root's segment, where it is known
abbrev pub known_root : List (Option Seg) → ℕ → Option Seg
known_root roots k = get_or roots k None

-- a known root stays as it is
abbrev pub KeepsRoots : List (Option Seg) → List (Option Seg) → Type 0
KeepsRoots old new = (k : ℕ) (g : Seg) → known_root old k ≡ Some g → known_root new k ≡ Some g

-- a place in a series of these lengths, whose root is known
pub record IsPlaceOf (lengths : List ℕ) (roots : List (Option Seg)) (p : Place) : Type 0 where
  pub within : p.series < length lengths
  pub shaped : Contains (shape (slice_index lengths p.series)) p.range
  pub rooted : (g : Seg) × (known_root roots p.series ≡ Some g)

-- where the bytes handed out are told now, they were told before, and rose by at most so many
abbrev pub HandsOut : ℕ → Option ℕ → Option ℕ → Type 0
HandsOut most before now = (b : ℕ) → now ≡ Some b → (a : ℕ) × (before ≡ Some a) × (b ≤ a + most)

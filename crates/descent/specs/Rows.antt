-- The rows of a cut, series by series, and the segments that they give.
use Rattle.std.specs.Prelude.{ℕ, ◌+◌, ℤ, Option, Some, None, List, [], ◌∷◌, ◌++◌, map}
use Rattle.segment.specs.declared.segments.Seg.{Seg}
use Rattle.segment.specs.Measure.{unit_seg}
use Rattle.bounds.specs.Cut.{Entry}

-- a row: the segment of a node, and where it is opened the node's readings
pub record Row : Type 0 where
  pub seg : Seg
  pub readings : Option (List ℤ)

-- what a cut has of one series: the number in the store, the name, how many readings there are and the greatest
-- absolute
-- one, and the rows in order
pub record Track (R : Type 0) : Type 0 where
  pub series : ℕ
  pub name : List ℕ
  pub len : ℕ
  pub greatest : ℕ
  pub rows : List R

-- a cut: the rows of each series that the query names, in the order of the store
abbrev pub Cut : Type 0
Cut = List (Track Row)

-- a track with other rows
abbrev pub with_rows : {R S : Type 0} → (R → S) → Track R → Track S
with_rows f track = record {
  series = track.series;
  name = track.name;
  len = track.len;
  greatest = track.greatest;
  rows = map f track.rows;
}

-- exact segments of single readings, from a position on
abbrev pub units : ℕ → List ℤ → List Seg
units start [] = []
units start (x ∷ xs) = unit_seg start x ∷ units (start + 1) xs

-- the segments of a row: its own, or where it is opened one for each reading
abbrev pub segs_given : Seg → Option (List ℤ) → List Seg
segs_given g None = g ∷ []
segs_given g (Some xs) = units g.start xs

abbrev pub segs_of_row : Row → List Seg
segs_of_row row = segs_given row.seg row.readings

abbrev pub segs_of_rows : List Row → List Seg
segs_of_rows [] = []
segs_of_rows (row ∷ rows) = segs_of_row row ++ segs_of_rows rows

abbrev pub entry_of : Track Row → Entry
entry_of track = record { name = track.name; segs = segs_of_rows track.rows }

-- the names with their segments
abbrev pub entries : Cut → List Entry
entries cut = map entry_of cut

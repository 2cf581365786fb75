-- What the readers of a sum read at its offsets.
use Rattle.std.specs.Prelude.{◌≡◌, ℕ, ◌+◌, ◌*◌, ◌<◌, ◌≤◌, ◌⊎◌, true, ℤ, pos, ◌+ℤ◌, ◌≤ℤ◌, List, length}
use Rattle.semantics.specs.Admission.{SumTerm}
use Rattle.semantics.specs.Term.{Term}
use Rattle.segment.specs.declared.segments.Seg.{Seg}
use Rattle.bounds.specs.Segments.{covers, seg_at}
use Rattle.descent.specs.declared.readers.Reader.{Reader}
use Rattle.descent.specs.declared.said.Room.{Room}
use Rattle.descent.specs.Changed.{CanKeep}
use Rattle.descent.specs.Choice.{Has}
use Rattle.descent.specs.Kept.{StaysIn}
use Rattle.descent.specs.Readers.{reader_at, rows_read, track_at, AreReadersOf}
use Rattle.descent.specs.Rows.{Row, Cut, segs_of_rows}
use Rattle.descent.specs.Sound.{IsSoundTrack}
use Rattle.descent.specs.Standing.{IsClosedOver}
use Rattle.descent.specs.Sums.{count_of, first_of}

-- a sum of which something can be kept, by its series and its first position
pub record IsSumFrom (cut : Cut) (s : SumTerm) (t : Term) (l : ℤ) : Type 0 where
  pub series : s.series ≡ t
  pub first : l ≡ first_of cut s
  pub can : CanKeep cut s

-- some of its offsets, and its readers
pub record AreRead (cut : Cut) (s : SumTerm) (t : Term) (l : ℤ) (rs : List Reader) (from n : ℕ) : Type 0 where
  pub sum : IsSumFrom cut s t l
  pub readers : AreReadersOf cut t l (count_of cut s) rs
  pub some : 0 < n
  pub within : from + n ≤ count_of cut s

-- at an offset a reader reads inside of its track
pub record ReadsAt (cut : Cut) (offset : ℕ) (r : Reader) : Type 0 where
  pub track : r.track < length cut
  pub sound : IsSoundTrack (track_at cut r.track)
  pub from : pos 0 ≤ℤ r.at
  pub until : (r.at +ℤ pos (offset + 1)) ≤ℤ pos (track_at cut r.track).len

abbrev pub AllReadAt : Cut → ℕ → List Reader → Type 0
AllReadAt cut offset rs = (o : ℕ) → o < length rs → ReadsAt cut offset (reader_at rs o)

-- the segment that it reads there
abbrev pub seg_read : Cut → ℕ → Reader → Seg
seg_read cut offset r = seg_at (segs_of_rows (rows_read cut r)) (r.at +ℤ pos offset)

-- the row that it reads there
pub record IsRowRead (cut : Cut) (offset : ℕ) (r : Reader) (row : Row) : Type 0 where
  pub there : Has row (rows_read cut r)
  pub covered : covers row.seg (r.at +ℤ pos offset) ≡ true

-- it reads a closed row there
pub record ReadsClosed (cut : Cut) (offset : ℕ) (r : Reader) : Type 0 where
  pub position : ℕ
  pub at : pos position ≡ (r.at +ℤ pos offset)
  pub seg : Seg
  pub over : IsClosedOver (rows_read cut r) position seg

-- it stays in its row, or outside of each other one, at so many offsets from one on, and then comes to the end of the
-- track or to a border of blocks
pub record StaysFor (cut : Cut) (from : ℕ) (r : Reader) (n : ℕ) : Type 0 where
  pub some : 0 < n
  pub still : (row : Row) → Has row (rows_read cut r) → StaysIn r.at from n row
  pub ends : ((r.at +ℤ pos (from + n)) ≡ pos (track_at cut r.track).len)
      ⊎ ((k : ℕ) × ((r.at +ℤ pos (from + n)) ≡ pos (16 * k)))

-- every reader stays in its row
abbrev pub AllStay : Cut → List Reader → ℕ → ℕ → Type 0
AllStay cut rs from n = (o : ℕ) (row : Row) → o < length rs → Has row (rows_read cut (reader_at rs o))
    → StaysIn (reader_at rs o).at from n row

-- some reader comes to a border of blocks at an offset
pub record SomeComes (rs : List Reader) (offset : ℕ) : Type 0 where
  pub o : ℕ
  pub below : o < length rs
  pub k : ℕ
  pub border : ((reader_at rs o).at +ℤ pos offset) ≡ pos (16 * k)

-- every reader reads the same segment at so many offsets from one on
abbrev pub ReadTheSame : Cut → List Reader → ℕ → ℕ → Type 0
ReadTheSame cut rs offset n = (o i : ℕ) → o < length rs → i < n
    → seg_read cut (offset + i) (reader_at rs o) ≡ seg_read cut offset (reader_at rs o)

-- room for the weights of so many occurrences
pub record IsRoomFor (room : Room) (n : ℕ) : Type 0 where
  pub here : length room.here.items ≡ n
  pub weights : length room.weights.items ≡ n

-- The occurrences of a sum, as the code has them.
use Rattle.std.specs.Prelude.{◌≡◌, ◌⊎◌, ℕ, ◌+◌, ◌*◌, ◌%◌, ◌<◌, ℤ, pos, ◌+ℤ◌, ◌≤ℤ◌, suc, if◌then◌else◌, List, [], ◌∷◌, length, get_or}
use Rattle.semantics.specs.Measures.{names_in}
use Rattle.semantics.specs.Names.{same_name}
use Rattle.semantics.specs.Term.{Term}
use Rattle.bounds.specs.Cut.{occurrence_at, Occurrence}
use Rattle.descent.specs.declared.cells.Cells.{Cells}
use Rattle.descent.specs.Cells.{begin_of}
use Rattle.descent.specs.declared.readers.Reader.{Reader}
use Rattle.descent.specs.Rows.{Row, Track, Cut}

abbrev pub no_reader : Reader
no_reader = record { track = 0; at = pos 0 }

abbrev pub reader_at : List Reader → ℕ → Reader
reader_at rs o = get_or rs o no_reader

abbrev pub no_track : Track Row
no_track = record { series = 0; name = []; len = 0; greatest = 0; rows = [] }

abbrev pub track_at : Cut → ℕ → Track Row
track_at cut k = get_or cut k no_track

-- the rows that an occurrence reads
abbrev pub rows_read : Cut → Reader → List Row
rows_read cut r = (track_at cut r.track).rows

-- the first track of a name, and behind all where there is none
abbrev pub track_of : Cut → List ℕ → ℕ
track_of [] name = 0
track_of (track ∷ tracks) name = if same_name track.name name then 0 else suc (track_of tracks name)

abbrev pub reader_of : Cut → Occurrence → Reader
reader_of cut o = record { track = track_of cut o.name; at = o.at }

-- a reader is that of an occurrence, and reads inside of its track at so many offsets
pub record IsReaderOf (cut : Cut) (t : Term) (l : ℤ) (n o : ℕ) (r : Reader) : Type 0 where
  pub track : r.track < length cut
  pub name : (track_at cut r.track).name ≡ (occurrence_at t l o).name
  pub at : r.at ≡ (occurrence_at t l o).at
  pub from : 0 < n → pos 0 ≤ℤ r.at
  pub until : 0 < n → (r.at +ℤ pos n) ≤ℤ pos (track_at cut r.track).len

-- the readers of a sum over n positions from l on, one for each occurrence from left to right
pub record AreReadersOf (cut : Cut) (t : Term) (l : ℤ) (n : ℕ) (rs : List Reader) : Type 0 where
  pub count : length rs ≡ names_in t
  pub each : (o : ℕ) → o < names_in t → IsReaderOf cut t l n o (reader_at rs o)

-- wherever a reader comes to a border of blocks, a cell begins
abbrev pub ComesToCells : Cells → Reader → Type 0
ComesToCells g r = (offset k : ℕ) → (r.at +ℤ pos offset) ≡ pos (16 * k) → (c : ℕ) × (offset + g.pad ≡ begin_of g c)

pub record AreAligned (g : Cells) (rs : List Reader) : Type 0 where
  pub each : (o : ℕ) → o < length rs → 0 < g.count → ComesToCells g (reader_at rs o)

-- a reader reads the first offset at a place of its block
pub record IsInBlock (r : Reader) (place : ℕ) : Type 0 where
  pub block : ℕ
  pub at : r.at ≡ pos (place + 16 * block)

-- and that place is one of two
abbrev pub IsInEither : ℕ → ℕ → Reader → Type 0
IsInEither first other r = IsInBlock r first ⊎ IsInBlock r other

-- an occurrence is read at the same place of its grain as the first one
pub record IsAtPlace (rs : List Reader) (grain o : ℕ) : Type 0 where
  pub place : ℕ
  pub first : ℕ
  pub place_is : pos place ≡ (reader_at rs o).at
  pub first_is : pos first ≡ (reader_at rs 0).at
  pub same : place % grain ≡ first % grain

-- a grain of which 16 positions are so many
pub record IsGrain (grain : ℕ) : Type 0 where
  pub some : 0 < grain
  pub times : ℕ
  pub whole : 16 ≡ grain * times

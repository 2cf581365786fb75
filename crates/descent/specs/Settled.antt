-- What holds of a kept sum while its pieces are put right one after the other.
use Rattle.std.specs.Prelude.{◌≡◌, ℕ, ◌+◌, ◌*◌, ◌-◌, ◌^◌, ◌<◌, ◌≤◌, ◌⊎◌, true, false, ℤ, pos, ◌+ℤ◌, ◌≤ℤ◌, unsigned_abs, length, get_or}
use Rattle.semantics.specs.Admission.{SumTerm}
use Rattle.semantics.specs.Readings.{reading}
use Rattle.semantics.specs.Term.{Term}
use Rattle.segment.specs.declared.segments.Seg.{Seg}
use Rattle.bounds.specs.Segments.{covers}
use Rattle.tops.specs.Tops.{number}
use Rattle.descent.specs.declared.cells.Cells.{Cells}
use Rattle.descent.specs.declared.kept.KeptSum.{KeptSum}
use Rattle.descent.specs.declared.readers.Reader.{Reader}
use Rattle.descent.specs.Cells.{AreCells, cells_in, offset_of}
use Rattle.descent.specs.Changed.{CanKeep, HasChanged}
use Rattle.descent.specs.Choice.{Has}
use Rattle.descent.specs.Kept.{AreTiled, IsBlank, IsJoint, IsKeptAt}
use Rattle.descent.specs.KeptSums.{kept_of, numbers_at, AreCharged, IsKeptSum}
use Rattle.descent.specs.Readers.{reader_at, track_at, AreAligned, AreReadersOf}
use Rattle.descent.specs.Rows.{Row, Cut}
use Rattle.descent.specs.Sound.{IsSound}
use Rattle.descent.specs.Sums.{count_of, first_of}

abbrev pub lens_of : KeptSum → ℕ → ℕ
lens_of k c = get_or k.lens c 0

-- the cells whose first offset is read in a segment, from one to before another
pub record AreReadIn (g : Cells) (at : ℤ) (s : Seg) (from until : ℕ) : Type 0 where
  pub order : from ≤ until
  pub within : until ≤ cells_in g
  pub inside : (c : ℕ) → from ≤ c → c < until → covers s (at +ℤ pos (offset_of g c)) ≡ true
  pub before : (c : ℕ) → c < from → covers s (at +ℤ pos (offset_of g c)) ≡ false
  pub behind : (c : ℕ) → until ≤ c → c < cells_in g → covers s (at +ℤ pos (offset_of g c)) ≡ false

-- lengths, where the piece at a cell keeps so many, and its others are a piece of their own
pub record IsTrimmed (old new : ℕ → ℕ) (c len : ℕ) : Type 0 where
  pub here : new c ≡ len
  pub rest : len < old c → new (c + len) ≡ old c - len
  pub others : (d : ℕ) → (d ≡ c → ⊥) → (len < old c → d ≡ c + len → ⊥) → new d ≡ old d

-- ---- what charges need

-- the weights reach as far as the cells, and are those of the occurrences
pub record CanBeRead (k : KeptSum) : Type 0 where
  pub cells : AreCells k.cells
  pub count : length k.weights.items ≡ length k.readers.items
  pub room : (o : ℕ) → o < length k.weights.items → cells_in k.cells ≤ length (numbers_at k.weights.items o)
  pub near : (o : ℕ) → o < length k.readers.items → 0 < k.cells.count
      → unsigned_abs (reader_at k.readers.items o).at ≤ 2 ^ 60

-- an occurrence reads inside of its track
pub record IsInside (cut : Cut) (n : ℕ) (r : Reader) : Type 0 where
  pub track : r.track < length cut
  pub from : 0 < n → pos 0 ≤ℤ r.at
  pub until : 0 < n → (r.at +ℤ pos n) ≤ℤ pos (track_at cut r.track).len

pub record CanBeCharged (cut : Cut) (k : KeptSum) : Type 0 where
  pub sound : IsSound cut
  pub read : CanBeRead k
  pub inside : (o : ℕ) → o < length k.readers.items → IsInside cut k.cells.count (reader_at k.readers.items o)
  pub charged : AreCharged cut k

-- only weights and charges differ
pub record HasOtherWeights (old new : KeptSum) : Type 0 where
  pub cells : new.cells ≡ old.cells
  pub first : new.first ≡ old.first
  pub readers : new.readers ≡ old.readers
  pub lens : new.lens ≡ old.lens
  pub estimates : new.estimates ≡ old.estimates

-- ---- all that holds but that each piece is right

-- the positions are those of a sum
pub record IsOfSum (cut : Cut) (s : SumTerm) (k : KeptSum) : Type 0 where
  pub first : k.first ≡ first_of cut s
  pub count : k.cells.count ≡ count_of cut s

-- of which something can be kept
pub record CanSay (cut : Cut) (t : Term) (k : KeptSum) : Type 0 where
  pub sum : SumTerm
  pub can : CanKeep cut sum
  pub series : sum.series ≡ t
  pub of : IsOfSum cut sum k

pub record IsShaped (cut : Cut) (t : Term) (k : KeptSum) : Type 0 where
  pub can : CanBeCharged cut k
  pub readers : AreReadersOf cut t k.first k.cells.count k.readers.items
  pub aligned : AreAligned k.cells k.readers.items
  pub lens : length k.lens ≡ cells_in k.cells
  pub estimates : length k.estimates ≡ cells_in k.cells
  pub tiled : AreTiled (lens_of k) (cells_in k.cells)
  pub blank : (c : ℕ) → lens_of k c ≡ 0 → IsBlank (kept_of k) c

abbrev pub IsJointOf : KeptSum → ℕ → Type 0
IsJointOf k c = IsJoint (lens_of k) (cells_in k.cells) c

abbrev pub IsRightAt : Cut → Term → KeptSum → ℕ → Type 0
IsRightAt cut t k c = IsKeptAt cut t k.first k.readers.items (offset_of k.cells) (kept_of k) c

-- the same stands at a cell
pub record IsSameAt (old new : KeptSum) (c : ℕ) : Type 0 where
  pub lens : lens_of new c ≡ lens_of old c
  pub estimates : reading new.estimates c ≡ reading old.estimates c
  pub weights : (o : ℕ) → number (numbers_at new.weights.items o) c ≡ number (numbers_at old.weights.items o) c

-- it is kept of the same sum
pub record IsSameSum (old new : KeptSum) : Type 0 where
  pub cells : new.cells ≡ old.cells
  pub first : new.first ≡ old.first
  pub readers : new.readers ≡ old.readers

-- the pieces from a cell to before c are right, and outside of a range all is as before
pub record IsSettledTo (cut : Cut) (t : Term) (from until c : ℕ) (old new : KeptSum) : Type 0 where
  pub shaped : IsShaped cut t new
  pub same : IsSameSum old new
  pub right : (d : ℕ) → from ≤ d → d < c → 0 < lens_of new d → IsRightAt cut t new d
  pub others : (d : ℕ) → (d < from) ⊎ (until ≤ d) → IsSameAt old new d
  pub joints : (d : ℕ) → 0 < lens_of old d → 0 < lens_of new d

abbrev pub IsSettled : Cut → Term → ℕ → ℕ → KeptSum → KeptSum → Type 0
IsSettled cut t from until old new = IsSettledTo cut t from until until old new

-- where an occurrence reads positions of a segment, a piece begins at the first cell, and one ends behind the last
pub record AreJointsFor (k : KeptSum) (o : ℕ) (s : Seg) : Type 0 where
  pub first : (from until : ℕ) → AreReadIn k.cells (reader_at k.readers.items o).at s from until → from < until
      → 0 < lens_of k from
  pub last : (from until : ℕ) → AreReadIn k.cells (reader_at k.readers.items o).at s from until → from < until
      → IsJointOf k until

-- the pieces of a range of cells are right, and it begins and ends where a piece does
pub record AreRightIn (cut : Cut) (t : Term) (k : KeptSum) (from until : ℕ) : Type 0 where
  pub first : from < until → 0 < lens_of k from
  pub last : from < until → IsJointOf k until
  pub right : (c : ℕ) → from ≤ c → c < until → 0 < lens_of k c → IsRightAt cut t k c

-- a part of a range of cells, beside which all of it is in another one
pub record IsRest (from until other_from other_until rest_from rest_until : ℕ) : Type 0 where
  pub low : from ≤ rest_from
  pub order : rest_from ≤ rest_until
  pub high : rest_until ≤ until
  pub begins : rest_from < rest_until → (rest_from ≡ from) ⊎ ((other_from < other_until) × (rest_from ≡ other_until))
  pub ends : rest_from < rest_until → (rest_until ≡ until) ⊎ ((other_from < other_until) × (rest_until ≡ other_from))
  pub before : (c : ℕ) → from ≤ c → c < rest_from → (other_from ≤ c) × (c < other_until)
  pub behind : (c : ℕ) → rest_until ≤ c → c < until → (other_from ≤ c) × (c < other_until)

-- ---- a change that is to be taken over

-- what is kept of a sum was right before a row of the i-th track gave way
pub record IsKeptBefore (i : ℕ) (row : Row) (now : Cut) (t : Term) (s : SumTerm) (k : KeptSum) : Type 0 where
  pub before : Cut
  pub changed : HasChanged i row before now
  pub can : CanKeep now s
  pub series : s.series ≡ t
  pub kept : IsKeptSum before s k

-- the rows of the tracks before the i-th begin at borders of blocks
abbrev pub AreAtBorders : Cut → ℕ → Type 0
AreAtBorders cut i = (j : ℕ) (row : Row) → j < i → Has row (track_at cut j).rows → (b : ℕ) × (row.seg.start ≡ 16 * b)

-- What a cut keeps of a sum, by the fields of the code.
use Rattle.std.specs.Prelude.{◌≡◌, ℕ, ◌+◌, ◌*◌, ◌/◌, ◌%◌, ◌^◌, ◌<◌, ◌≤◌, ◌==◌, ◌⊎◌, is_some, if◌then◌else◌, List, [], ◌∷◌, length, get_or}
use Rattle.semantics.specs.Admission.{SumTerm}
use Rattle.semantics.specs.Readings.{reading}
use Rattle.semantics.specs.Sums.{sum_below}
use Rattle.segment.specs.declared.segments.Seg.{Seg}
use Rattle.tops.specs.Tops.{number}
use Rattle.descent.specs.declared.kept.KeptSum.{KeptSum}
use Rattle.descent.specs.Cells.{AreCells, cells_in, offset_of}
use Rattle.descent.specs.Choice.{Has}
use Rattle.descent.specs.Kept.{Kept, IsBlank, IsKeptAt, AreTiled, kept_weight}
use Rattle.descent.specs.Laid.{blocks}
use Rattle.descent.specs.Readers.{reader_at, track_at, AreAligned, AreReadersOf}
use Rattle.descent.specs.Rows.{Row, Cut}
use Rattle.descent.specs.Sums.{count_of, first_of}

abbrev pub numbers_at : List (List ℕ) → ℕ → List ℕ
numbers_at ts o = get_or ts o []

-- what the code keeps, by cells
abbrev pub kept_of : KeptSum → Kept
kept_of k = record {
  lens = λ c. get_or k.lens c 0;
  estimates = reading k.estimates;
  weights = λ o. number (numbers_at k.weights.items o);
}

-- ---- charges, modulo 2^128 while pieces are worked in; once all are kept right they are smaller

-- what an occurrence charges a segment of the i-th track: its l times the greatest weight with which it is read
abbrev pub part_of : KeptSum → ℕ → Seg → ℕ → ℕ
part_of k i g o =
    if (reader_at k.readers.items o).track == i
    then g.l * kept_weight (offset_of k.cells) (kept_of k) (cells_in k.cells) o (reader_at k.readers.items o).at g
    else 0

abbrev pub charge_in : KeptSum → ℕ → Seg → ℕ
charge_in k i g = sum_below (part_of k i g) (length k.readers.items) % 2 ^ 128

-- an opened row is charged nothing
abbrev pub row_charge : KeptSum → ℕ → Row → ℕ
row_charge k i row = if is_some row.readings then 0 else charge_in k i row.seg

-- the first place of the rows of the i-th track, where each block of each track has a place
abbrev pub band_of : Cut → ℕ → ℕ
band_of cut i = sum_below (λ j. blocks (track_at cut j).len) i

abbrev pub place_of : Cut → ℕ → Row → ℕ
place_of cut i row = band_of cut i + row.seg.start / 16

-- each row begins at a border of blocks and is charged at its place, and nothing else is
pub record AreCharged (cut : Cut) (k : KeptSum) : Type 0 where
  pub room : band_of cut (length cut) ≤ length k.charges
  pub borders : (i : ℕ) (row : Row) → i < length cut → Has row (track_at cut i).rows
      → (b : ℕ) × (row.seg.start ≡ 16 * b)
  pub each : (i : ℕ) (row : Row) → i < length cut → Has row (track_at cut i).rows
      → number k.charges (place_of cut i row) ≡ row_charge k i row
  pub others : (p : ℕ) → 0 < number k.charges p
      → (i : ℕ) × (row : Row) × (i < length cut) × Has row (track_at cut i).rows × (place_of cut i row ≡ p)

-- ---- all that is kept

-- what is kept of a sum over a cut is right, but perhaps for pieces that are in doubt
pub record IsKeptBut (doubt : ℕ → Type 0) (cut : Cut) (s : SumTerm) (k : KeptSum) : Type 0 where
  pub cells : AreCells k.cells
  pub count : k.cells.count ≡ count_of cut s
  pub first : k.first ≡ first_of cut s
  pub readers : AreReadersOf cut s.series (first_of cut s) (count_of cut s) k.readers.items
  pub aligned : AreAligned k.cells k.readers.items
  pub lens : length k.lens ≡ cells_in k.cells
  pub estimates : length k.estimates ≡ cells_in k.cells
  pub weights : length k.weights.items ≡ length k.readers.items
  pub room : (o : ℕ) → o < length k.weights.items → cells_in k.cells ≤ length (numbers_at k.weights.items o)
  pub tiled : AreTiled (kept_of k).lens (cells_in k.cells)
  pub blank : (c : ℕ) → (kept_of k).lens c ≡ 0 → IsBlank (kept_of k) c
  pub charged : AreCharged cut k
  pub pieces : (c : ℕ) → 0 < (kept_of k).lens c
      → doubt c ⊎ IsKeptAt cut s.series (first_of cut s) k.readers.items (offset_of k.cells) (kept_of k) c

abbrev pub nowhere : ℕ → Type 0
nowhere c = ⊥

abbrev pub IsKeptSum : Cut → SumTerm → KeptSum → Type 0
IsKeptSum cut s k = IsKeptBut nowhere cut s k

-- in doubt, but not on these cells
abbrev pub but : ℕ → ℕ → (ℕ → Type 0) → ℕ → Type 0
but from until doubt c = doubt c × ((c < from) ⊎ (until ≤ c))

-- what is kept of each sum of a query, from left to right
abbrev pub AreKeptSums : Cut → List SumTerm → List KeptSum → Type 0
AreKeptSums cut [] [] = ⊥ → ⊥
AreKeptSums cut [] (k ∷ ks) = ⊥
AreKeptSums cut (s ∷ ss) [] = ⊥
AreKeptSums cut (s ∷ ss) (k ∷ ks) = IsKeptSum cut s k × AreKeptSums cut ss ks

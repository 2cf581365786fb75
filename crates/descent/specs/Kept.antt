-- What is kept of a sum: its cells joined to pieces, and of each piece the estimate and each occurrence's greatest
-- weight.
--
-- On a piece each occurrence stays in one row. Everything stands at the cell where a piece begins; at all other cells
-- there is 0.
use Rattle.std.specs.Prelude.{◌≡◌, ℕ, ◌+◌, ◌-◌, ◌<◌, ◌≤◌, ◌⊎◌, if◌then◌else◌, ℤ, pos, ◌+ℤ◌, List}
use Rattle.semantics.specs.Measures.{names_in}
use Rattle.semantics.specs.Sums.{total_below, most_below}
use Rattle.semantics.specs.Term.{Term}
use Rattle.segment.specs.declared.segments.Seg.{Seg}
use Rattle.bounds.specs.Cut.{segs_of, AreDistinct, weight_at, charge_by, greatest_weight, error_by, estimate_from, sum_estimate, sum_error}
use Rattle.bounds.specs.Segments.{covers}
use Rattle.descent.specs.declared.readers.Reader.{Reader}
use Rattle.descent.specs.Choice.{Has}
use Rattle.descent.specs.Readers.{reader_at, rows_read, AreReadersOf}
use Rattle.descent.specs.Rows.{Row, Cut, entries}
use Rattle.descent.specs.Sound.{IsSound}

pub record Kept : Type 0 where
  -- how many cells the piece has, what it adds to the estimate, and with what weight an occurrence reads it at most
  pub lens : ℕ → ℕ
  pub estimates : ℕ → ℤ
  pub weights : ℕ → ℕ → ℕ

-- a value at the i-th offset behind one
abbrev pub behind : {A : Type 0} → (ℕ → A) → ℕ → ℕ → A
behind f from i = f (from + i)

-- ---- pieces

-- a piece ends where the next one begins, and no other one begins inside of it
pub record IsPieceAt (lens : ℕ → ℕ) (cells c : ℕ) : Type 0 where
  pub within : c + lens c ≤ cells
  pub next : (c + lens c ≡ cells) ⊎ (0 < lens (c + lens c))
  pub inside : (i : ℕ) → 0 < i → i < lens c → lens (c + i) ≡ 0

-- pieces, one behind the other, over so many cells
pub record AreTiled (lens : ℕ → ℕ) (cells : ℕ) : Type 0 where
  pub first : 0 < cells → 0 < lens 0
  pub each : (c : ℕ) → 0 < lens c → IsPieceAt lens cells c

-- a cell at which a piece begins, or the end of all
abbrev pub IsJoint : (ℕ → ℕ) → ℕ → ℕ → Type 0
IsJoint lens cells c = (c ≡ cells) ⊎ (0 < lens c)

-- where no piece begins there is nothing
pub record IsBlank (kept : Kept) (c : ℕ) : Type 0 where
  pub estimate : kept.estimates c ≡ pos 0
  pub weights : (o : ℕ) → kept.weights o c ≡ 0

-- ---- a piece that is kept right, where `offset` is the first offset of each cell

-- an occurrence stays in each row at so many offsets from one on, or outside of it
abbrev pub StaysIn : ℤ → ℕ → ℕ → Row → Type 0
StaysIn at from n row = (i : ℕ) → i < n → covers row.seg (at +ℤ pos (from + i)) ≡ covers row.seg (at +ℤ pos from)

-- so many offsets, from one on, as a cut says them
pub record IsSaid (cut : Cut) (t : Term) (l : ℤ) (from n : ℕ) (e : ℤ) (weight : ℕ → ℕ) : Type 0 where
  pub estimate : e ≡ total_below (behind (estimate_from (segs_of (entries cut)) t l) from) n
  pub greatest : (o : ℕ) → o < names_in t
      → weight o ≡ most_below (behind (weight_at (segs_of (entries cut)) t l o) from) n

pub record IsKeptAt (cut : Cut) (t : Term) (l : ℤ) (rs : List Reader) (offset : ℕ → ℕ) (kept : Kept) (c : ℕ)
    : Type 0 where
  pub said : IsSaid cut t l (offset c) (offset (c + kept.lens c) - offset c) (kept.estimates c) (λ o. kept.weights o c)
  pub still : (o : ℕ) (row : Row) → o < names_in t → Has row (rows_read cut (reader_at rs o))
      → StaysIn (reader_at rs o).at (offset c) (offset (c + kept.lens c) - offset c) row

-- ---- what is kept says the same as the cut does afresh

-- the greatest weight at the cells whose first offset is read in a segment
abbrev pub kept_in : (ℕ → ℕ) → (ℕ → ℕ) → ℤ → Seg → ℕ → ℕ
kept_in offset weights at g c = if covers g (at +ℤ pos (offset c)) then weights c else 0

abbrev pub kept_weight : (ℕ → ℕ) → Kept → ℕ → ℕ → ℤ → Seg → ℕ
kept_weight offset kept cells o at g = most_below (kept_in offset (kept.weights o) at g) cells

pub record AreOffsets (offset : ℕ → ℕ) (cells n : ℕ) : Type 0 where
  pub first : offset 0 ≡ 0
  pub last : offset cells ≡ n
  pub rising : (c d : ℕ) → c < d → d ≤ cells → offset c < offset d

-- every piece of a sum is kept right
pub record IsKept (cut : Cut) (t : Term) (l : ℤ) (n : ℕ) (rs : List Reader) (offset : ℕ → ℕ) (cells : ℕ) (kept : Kept)
    : Type 0 where
  pub offsets : AreOffsets offset cells n
  pub tiled : AreTiled kept.lens cells
  pub pieces : (c : ℕ) → 0 < kept.lens c → IsKeptAt cut t l rs offset kept c
  pub blank : (c : ℕ) → kept.lens c ≡ 0 → IsBlank kept c

pub record SaysAfresh (cut : Cut) (t : Term) (l : ℤ) (n : ℕ) (offset : ℕ → ℕ) (cells : ℕ) (kept : Kept) : Type 0 where
  pub estimate : total_below kept.estimates cells ≡ sum_estimate (entries cut) t l n
  pub charges : (name : List ℕ) (g : Seg) → Has g (segs_of (entries cut) name)
      → charge_by (kept_weight offset kept cells) t l name g
      ≡ charge_by (greatest_weight (segs_of (entries cut)) t l n) t l name g
  pub error : AreDistinct (entries cut)
      → error_by (kept_weight offset kept cells) (entries cut) t l ≡ sum_error (entries cut) t l n

abbrev pub KeptSaysAfresh : Type 0
KeptSaysAfresh = (cut : Cut) (t : Term) (l : ℤ) (n : ℕ) (rs : List Reader) (offset : ℕ → ℕ) (cells : ℕ) (kept : Kept)
    → IsSound cut → AreReadersOf cut t l n rs → IsKept cut t l n rs offset cells kept
    → SaysAfresh cut t l n offset cells kept

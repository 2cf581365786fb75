-- Where a piece of a kept sum is cut off.
use Rattle.std.proofs.Common.{◌≡◌, ℕ, ◌+◌, ◌-◌, ◌^◌, ◌<◌, ◌≤◌, inl, inr, List, length, sym, ap, subst, arith}
use Rattle.std.specs.Prelude.{◌⊎◌}
use Rattle.std.proofs.lemmas.Bool.{cases_lt, cases_eq}
use Rattle.semantics.specs.Term.{Term}
use Rattle.descent.specs.declared.cells.Cells.{Cells}
use Rattle.descent.specs.declared.kept.KeptSum.{KeptSum}
use Rattle.descent.specs.declared.readers.Reader.{Reader}
use Rattle.descent.specs.Cells.{begin_of, cells_in, offset_of, AreCells}
use Rattle.descent.specs.Readers.{AreAligned}
use Rattle.descent.specs.Rows.{Cut}
use Rattle.descent.specs.Said.{AreRead, SomeComes}
use Rattle.descent.specs.Settled.{lens_of, CanSay, IsShaped}
use Rattle.descent.proofs.CellLaws.{behind-first, offsets}

-- a piece lies in the sum
pub record LiesIn (k : KeptSum) (c : ℕ) : Type 0 where
  pub within : c + lens_of k c ≤ cells_in k.cells
  pub low : offset_of k.cells c < offset_of k.cells (c + lens_of k c)
  pub high : offset_of k.cells (c + lens_of k c) ≤ k.cells.count
  pub listed : c < length k.lens
  pub whole : c + lens_of k c ≤ length k.lens
  pub room : k.cells.count ≤ 2 ^ 41
  pub few : cells_in k.cells ≤ 2 ^ 20

below-end : (g : Cells) (c : ℕ) → AreCells g → c ≤ cells_in g → offset_of g c ≤ g.count
below-end g c are le = omega arith

pub piece-in : (cut : Cut) (t : Term) (k : KeptSum) (c : ℕ) → IsShaped cut t k → 0 < lens_of k c → LiesIn k c
piece-in cut t k c h some =
    let cells = h.can.read.cells in
    let w = (h.tiled.each c some).within in
    let os = offsets k.cells cells in
    let n = h.lens in
    record {
      within = w;
      low = os.rising c (c + lens_of k c) (omega arith) w;
      high = below-end k.cells (c + lens_of k c) cells w;
      listed = omega arith;
      whole = omega arith;
      room = cells.room;
      few = cells.few;
    }

pub are-read : (cut : Cut) (t : Term) (k : KeptSum) (c n : ℕ) → (say : CanSay cut t k) → IsShaped cut t k → 0 < lens_of k c → 0 < n → offset_of k.cells c + n ≤ k.cells.count
    → AreRead cut say.sum t k.first k.readers.items (offset_of k.cells c) n
are-read cut t k c n say h some more within = record {
  sum = record { series = say.series; first = say.of.first; can = say.can };
  readers = rw (← say.of.count) h.readers;
  some = more;
  within = rw (← say.of.count) within;
}

-- ---- cells begin where pieces are cut off

abbrev pub IsCellBorder : Cells → ℕ → Type 0
IsCellBorder g offset = (offset ≡ g.count) ⊎ ((c : ℕ) × (offset + g.pad ≡ begin_of g c))

cell-border : (g : Cells) (d : ℕ) → AreCells g → 0 < d → IsCellBorder g (offset_of g d)
cell-border g d are some =
    let b = behind-first g d are some in
    elim (cases_lt (begin_of g d - g.pad) g.count) [
      | inl lt ↦ inr (d, omega arith)
      | inr ge ↦ inl (omega arith)
    ]

come-border : (g : Cells) (rs : List Reader) (offset : ℕ) → AreAligned g rs → 0 < g.count → SomeComes rs offset → IsCellBorder g offset
come-border g rs offset aligned some s = inr (aligned.each s.o s.below some offset s.k s.border)

pub cut-border : (k : KeptSum) (c n most : ℕ) → AreCells k.cells → AreAligned k.cells k.readers.items → LiesIn k c → 0 < lens_of k c → most ≡ offset_of k.cells (c + lens_of k c) - offset_of k.cells c
    → (n ≡ most) ⊎ SomeComes k.readers.items (offset_of k.cells c + n) → IsCellBorder k.cells (offset_of k.cells c + n)
cut-border k c n most cells aligned piece some size (inl e) =
    let low = piece.low in
    let at : offset_of k.cells c + n ≡ offset_of k.cells (c + lens_of k c) = omega arith in
    subst (IsCellBorder k.cells) (sym at) (cell-border k.cells (c + lens_of k c) cells (omega arith))
cut-border k c n most cells aligned piece some size (inr comes) =
    let low = piece.low in
    let high = piece.high in
    come-border k.cells k.readers.items (offset_of k.cells c + n) aligned (omega arith) comes

-- the cell at which the rest begins
pub record IsCutAt (k : KeptSum) (c next : ℕ) : Type 0 where
  pub low : c < next
  pub high : next ≤ c + lens_of k c

pub cut-at : (k : KeptSum) (c next n : ℕ) → AreCells k.cells → LiesIn k c → next ≤ cells_in k.cells → offset_of k.cells next ≡ offset_of k.cells c + n → 0 < n
    → n ≤ offset_of k.cells (c + lens_of k c) - offset_of k.cells c → IsCutAt k c next
cut-at k c next n cells piece le at some most =
    let os = offsets k.cells cells in
    let w = piece.within in
    let l = piece.low in
    record {
      low = elim (cases_lt c next) [
        | inl lt ↦ lt
        | inr ge ↦ elim (cases_eq next c) [
          | inl e ↦ let z = ap (offset_of k.cells) e in absurd (omega arith)
          | inr ne ↦ let r = os.rising next c (omega arith) (omega arith) in absurd (omega arith)
        ]
      ];
      high = elim (cases_lt (c + lens_of k c) next) [
        | inr ge ↦ ge
        | inl lt ↦ let r = os.rising (c + lens_of k c) next lt le in absurd (omega arith)
      ];
    }

-- how many offsets are left
pub cut-size : (k : KeptSum) (c next n len : ℕ) → c < next → len ≡ next - c → offset_of k.cells next ≡ offset_of k.cells c + n → n ≡ offset_of k.cells (c + len) - offset_of k.cells c
cut-size k c next n len lt e at =
    let q : c + len ≡ next = omega arith in
    let r = ap (offset_of k.cells) q in
    omega arith

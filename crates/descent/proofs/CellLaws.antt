-- The first offsets of cells rise from 0 to the end of the sum; the cell that begins at an offset, and the first one that
-- is read from a position on.
use Rattle.std.proofs.Common.{◌≡◌, ℕ, zero, suc, ◌+◌, ◌-◌, ◌*◌, ◌/◌, ◌%◌, ◌^◌, ◌<◌, ◌≤◌, ◌⊎◌, min, refl, inl, inr, ℤ, pos, ◌+ℤ◌, arith}
use Rattle.std.specs.Prelude.{◌≤ℤ◌}
use Rattle.std.proofs.Math.Nat.{mul-le-mul_right}
use Rattle.std.proofs.lemmas.Bool.{cases_lt}
use Rattle.std.proofs.lemmas.Int.{ints}
use Rattle.descent.specs.declared.cells.Cells.{Cells}
use Rattle.descent.specs.Cells.{begin_by, begin_of, cells_in, first_by, first_from, offset_of, AreCells, IsBorder}
use Rattle.descent.specs.Kept.{AreOffsets}

-- ---- where cells begin

-- the first cell from a place on begins there or behind, and those before it do not
pub record Spans (second grain n : ℕ) : Type 0 where
  pub enough : n ≤ begin_by second grain (first_by second grain n)
  pub tight : (c : ℕ) → c < first_by second grain n → begin_by second grain c < n
  pub small : (c : ℕ) → c ≤ first_by second grain n → begin_by second grain c ≤ n + grain + 32

next-cell : (grain c d : ℕ) → c < d → c * grain + grain ≤ d * grain
next-cell grain c d lt = let m : (c + 1) * grain ≤ d * grain = mul-le-mul_right grain (omega arith) in omega arith

pub spans : (second grain n : ℕ) → 0 < grain → second < 16 → Spans second grain n
spans zero grain n some inside =
    let k = (n + (grain - 1)) / grain in
    let low : n ≤ k * grain = omega arith in
    let high : k * grain < n + grain = omega arith in
    record {
      enough = low;
      tight = λ c lt. let m = next-cell grain c k lt in omega arith;
      small = λ c le. let m : c * grain ≤ k * grain = mul-le-mul_right grain le in omega arith;
    }
spans (suc s) grain n some inside =
    record { enough = omega arith; tight = λ c lt. omega arith; small = λ c le. omega arith }

rises : (second grain c d : ℕ) → 0 < grain → second < 16 → c < d → begin_by second grain c < begin_by second grain d
rises zero grain c d some inside lt = let m = next-cell grain c d lt in omega arith
rises (suc s) grain c d some inside lt = omega arith

rises-le : (second grain c d : ℕ) → 0 < grain → second < 16 → c ≤ d → begin_by second grain c ≤ begin_by second grain d
rises-le second grain c d some inside le = elim (cases_lt c d) [
  | inl lt ↦ let r = rises second grain c d some inside lt in omega arith
  | inr ge ↦ let e : c ≡ d = omega arith in rw e (omega arith)
]

first-begin : (second grain : ℕ) → begin_by second grain 0 ≡ 0
first-begin zero grain = omega arith
first-begin (suc s) grain = omega arith

-- with a second cell, as the code has it
pub begin-two : (second grain c : ℕ) → (second ≡ 0 → ⊥) → begin_by second grain c ≡ 16 * (c / 2) + min second (16 * (c % 2))
begin-two zero grain c some = absurd (some refl)
begin-two (suc s) grain c some = refl

pub first-two : (second grain n : ℕ) → (second ≡ 0 → ⊥)
    → first_by second grain n ≡ 2 * (n / 16) + min 1 (n % 16) + min 1 (n % 16 - second)
first-two zero grain n some = absurd (some refl)
first-two (suc s) grain n some = refl

pub begin-small : (g : Cells) (c : ℕ) → AreCells g → c ≤ cells_in g → begin_of g c ≤ 2 ^ 43
begin-small g c are le =
    let s = (spans g.second g.grain (g.count + g.pad) are.some are.inside).small c le in
    let fine = are.fine in
    let pad = are.pad in
    let room = are.room in
    omega arith

-- ---- the first cell from an offset on

abbrev pub cell_from : Cells → ℕ → ℕ
cell_from g n = first_from g (n + g.pad)

some-count : (g : Cells) → AreCells g → 0 < g.count + g.pad → 0 < g.count
some-count g are some = elim (cases_lt 0 g.count) [
  | inl lt ↦ lt
  | inr ge ↦ let z : g.count ≡ 0 = omega arith in let p = are.none z in absurd (omega arith)
]

pub behind-first : (g : Cells) (d : ℕ) → AreCells g → 0 < d → g.pad < begin_of g d
behind-first g d are some =
    let n = are.next in
    let r = rises-le g.second g.grain 1 d are.some are.inside (omega arith) in
    omega arith

rising : (g : Cells) → AreCells g → (c d : ℕ) → c < d → d ≤ cells_in g → offset_of g c < offset_of g d
rising g are c d lt le =
    let s = (spans g.second g.grain (g.count + g.pad) are.some are.inside).tight c (omega arith) in
    let r = rises g.second g.grain c d are.some are.inside lt in
    let b = behind-first g d are (omega arith) in
    let count = some-count g are (omega arith) in
    omega arith

pub offsets : (g : Cells) → AreCells g → AreOffsets (offset_of g) (cells_in g) g.count
offsets g are =
    let enough = (spans g.second g.grain (g.count + g.pad) are.some are.inside).enough in
    let z = first-begin g.second g.grain in
    record { first = omega arith; last = omega arith; rising = rising g are }

-- ---- the cell that begins at an offset

pub cell-at : (g : Cells) (n : ℕ) → AreCells g → n ≤ g.count
    → (n ≡ g.count) ⊎ ((c : ℕ) × (n + g.pad ≡ begin_of g c)) → offset_of g (cell_from g n) ≡ n
cell-at g n are le (inl e) =
    let enough = (spans g.second g.grain (n + g.pad) are.some are.inside).enough in
    omega arith
cell-at g n are le (inr h) =
    let s = spans g.second g.grain (n + g.pad) are.some are.inside in
    let enough = s.enough in
    let e = h.1 in
    elim (cases_lt h.0 (cell_from g n)) [
      | inl lt ↦ let t = s.tight h.0 lt in absurd (omega arith)
      | inr ge ↦ let r = rises-le g.second g.grain (cell_from g n) h.0 are.some are.inside ge in omega arith
    ]

pub cell-within : (g : Cells) (n : ℕ) → AreCells g → n ≤ g.count → cell_from g n ≤ cells_in g
cell-within g n are le =
    let s = spans g.second g.grain (n + g.pad) are.some are.inside in
    let enough = (spans g.second g.grain (g.count + g.pad) are.some are.inside).enough in
    elim (cases_lt (cells_in g) (cell_from g n)) [
      | inl lt ↦ let t = s.tight (cells_in g) lt in absurd (omega arith)
      | inr ge ↦ ge
    ]

-- ---- the first cell that is read from a position on

border-low : (g : Cells) (d c : ℕ) → AreCells g → 0 < d → c < cell_from g (min g.count d) → offset_of g c < d
border-low g d c are some lt =
    let t = (spans g.second g.grain (min g.count d + g.pad) are.some are.inside).tight c lt in
    omega arith

border-high : (g : Cells) (d c : ℕ) → AreCells g → cell_from g (min g.count d) ≤ c → c < cells_in g → d ≤ offset_of g c
border-high g d c are le lt =
    let enough = (spans g.second g.grain (min g.count d + g.pad) are.some are.inside).enough in
    let t = (spans g.second g.grain (g.count + g.pad) are.some are.inside).tight c lt in
    let r = rises-le g.second g.grain (cell_from g (min g.count d)) c are.some are.inside le in
    omega arith

pub border-at : (g : Cells) (at : ℤ) (position d : ℕ) → AreCells g → (at +ℤ pos d) ≡ pos position → 0 < d
    → IsBorder g at position (cell_from g (min g.count d))
border-at g at position d are e some = record {
  within = cell-within g (min g.count d) are (omega arith);
  low = λ c lt. let b = border-low g d c are some lt in omega (arith, ints);
  high = λ c le lt. let b = border-high g d c are le lt in omega (arith, ints);
}

pub border-first : (g : Cells) (at : ℤ) (position : ℕ) → pos position ≤ℤ at → IsBorder g at position 0
border-first g at position le = record {
  within = omega arith;
  low = λ c lt. absurd (omega arith);
  high = λ c low lt. omega (arith, ints);
}

-- ---- cells that begin at two places of blocks

second-next : (second grain pad most : ℕ) → grain ≡ 16 → pad ≤ most → most < 16 → second ≡ (16 + pad - most) % 16
    → pad < begin_by second grain 1
second-next zero grain pad most sixteen order within is = omega arith
second-next (suc s) grain pad most sixteen order within is = omega arith

second-few : (second grain n : ℕ) → grain ≡ 16 → n ≤ 2 ^ 20 + 16 → first_by second grain n ≤ 2 ^ 20
second-few zero grain n sixteen few = rw sixteen (omega arith)
second-few (suc s) grain n sixteen few = omega arith

pub two-cells : (g : Cells) (most : ℕ) → 0 < g.count → g.count ≤ 2 ^ 20 → g.grain ≡ 16 → g.pad ≤ most → most < 16
    → g.second ≡ (16 + g.pad - most) % 16 → AreCells g
two-cells g most some room sixteen order within is = record {
  some = omega arith;
  fine = omega arith;
  inside = omega arith;
  pad = omega arith;
  next = second-next g.second g.grain g.pad most sixteen order within is;
  none = λ z. absurd (omega arith);
  room = omega arith;
  few = second-few g.second g.grain (g.count + g.pad) sixteen (omega arith);
}

-- where a reader at one of the two places comes to a block, a cell begins
pub comes-first : (second grain pad most block offset k : ℕ) → grain ≡ 16 → pad ≤ most → most < 16
    → second ≡ (16 + pad - most) % 16 → pad + 16 * block + offset ≡ 16 * k
    → (c : ℕ) × (offset + pad ≡ begin_by second grain c)
comes-first zero grain pad most block offset k sixteen order within is e = (k - block, rw sixteen (omega arith))
comes-first (suc s) grain pad most block offset k sixteen order within is e = (2 * (k - block), omega arith)

pub comes-second : (second grain pad most block offset k : ℕ) → grain ≡ 16 → pad ≤ most → most < 16
    → second ≡ (16 + pad - most) % 16 → most + 16 * block + offset ≡ 16 * k
    → (c : ℕ) × (offset + pad ≡ begin_by second grain c)
comes-second zero grain pad most block offset k sixteen order within is e = (k - block, rw sixteen (omega arith))
comes-second (suc s) grain pad most block offset k sixteen order within is e = (2 * (k - block - 1) + 1, omega arith)

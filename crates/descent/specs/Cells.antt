-- The offsets of a sum, from its first position on, cut into cells: wherever an occurrence reads the first position of
-- a row, a cell begins.
use Rattle.std.specs.Prelude.{◌≡◌, ℕ, zero, suc, ◌+◌, ◌-◌, ◌*◌, ◌/◌, ◌%◌, ◌^◌, ◌<◌, ◌≤◌, ℤ, pos, ◌+ℤ◌, ◌≤ℤ◌, min}
use Rattle.descent.specs.declared.cells.Cells.{Cells}

-- where a cell begins: one at each grain, or where there is a second one two in each 16
abbrev pub begin_by : ℕ → ℕ → ℕ → ℕ
begin_by zero grain c = c * grain
begin_by (suc second) grain c = 16 * (c / 2) + min (suc second) (16 * (c % 2))

-- the first cell that begins there or behind
abbrev pub first_by : ℕ → ℕ → ℕ → ℕ
first_by zero grain n = (n + (grain - 1)) / grain
first_by (suc second) grain n = 2 * (n / 16) + min 1 (n % 16) + min 1 (n % 16 - suc second)

abbrev pub begin_of : Cells → ℕ → ℕ
begin_of g c = begin_by g.second g.grain c

abbrev pub first_from : Cells → ℕ → ℕ
first_from g n = first_by g.second g.grain n

-- the first offset of a cell; the first cell is shorter by the pad, and none goes beyond the sum
abbrev pub offset_of : Cells → ℕ → ℕ
offset_of g c = min g.count (begin_of g c - g.pad)

abbrev pub cells_in : Cells → ℕ
cells_in g = first_from g (g.count + g.pad)

-- a sum of constants alone, which may have 2^41 positions, is one cell
pub record AreCells (g : Cells) : Type 0 where
  pub some : 0 < g.grain
  pub fine : g.grain ≤ 2 ^ 41
  pub inside : g.second < 16
  pub pad : g.pad < g.grain
  pub next : g.pad < begin_of g 1
  pub none : g.count ≡ 0 → g.pad ≡ 0
  pub room : g.count ≤ 2 ^ 41
  pub few : cells_in g ≤ 2 ^ 20

-- the first cell that is read from a position on, where the first offset of all is read at another
pub record IsBorder (g : Cells) (at : ℤ) (position a : ℕ) : Type 0 where
  pub within : a ≤ cells_in g
  pub low : (c : ℕ) → c < a → (at +ℤ pos (offset_of g c + 1)) ≤ℤ pos position
  pub high : (c : ℕ) → a ≤ c → c < cells_in g → pos position ≤ℤ (at +ℤ pos (offset_of g c))

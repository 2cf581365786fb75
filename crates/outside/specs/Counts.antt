-- Counts that are kept in a word.
use Rattle.std.specs.Prelude.{ℕ, ◌+◌, ◌-◌, ◌^◌, min}

-- the greatest number of a word
abbrev pub last_number : ℕ
last_number = 2 ^ 64 - 1

-- a count after one more, which stands still at the last number
abbrev pub count_after : ℕ → ℕ
count_after count = min (count + 1) last_number

-- how often a folder's calls have failed
pub record FaultCounts : Type 0 where
  pub reads : ℕ
  pub replaces : ℕ

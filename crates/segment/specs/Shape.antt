-- The shape of a tree over n readings: blocks of 16, and a node of more than one block is split at the greatest power
-- of two below its blocks.
use Rattle.std.specs.Prelude.{◌≡◌, ℕ, zero, suc, ◌+◌, ◌-◌, ◌*◌, ◌/◌, ◌^◌, ◌<◌, ◌≤◌, ◌↔◌, min, nat_le, if◌then◌else◌, List, [], ◌∷◌, ◌++◌, length}
use Rattle.std.specs.List.{Contains}

-- len positions from start on
pub record Range : Type 0 where
  pub start : ℕ
  pub len : ℕ

-- the ranges of a tree, each by its start and length, as the tree has them
pub data Plan : Type 0 where
  leaf : ℕ → ℕ → Plan
  fork : ℕ → ℕ → Plan → Plan → Plan

-- how many readings 2 ^ level blocks have
abbrev pub room : ℕ → ℕ
room level = 16 * 2 ^ level

-- the tree over len readings from start, where len is at most room level
unfoldable pub plan_below : ℕ → ℕ → ℕ → Plan
plan_below zero start len = leaf start len
plan_below (suc level) start len =
    if nat_le len (room level) then plan_below level start len
    else fork start len (plan_below level start (room level)) (plan_below level (start + room level) (len - room level))

-- the tree over len readings from start
unfoldable pub plan : ℕ → ℕ → Plan
plan start len = plan_below len start len

-- s is 16 times the greatest power of two below the number of blocks of len
pub record IsSplit (len s : ℕ) : Type 0 where
  pub power : (level : ℕ) × (s ≡ room level)
  pub below : s < len
  pub greatest : len ≤ 2 * s

-- the ranges in preorder
abbrev pub ranges : Plan → List Range
ranges (leaf start len) = record { start = start; len = len } ∷ []
ranges (fork start len left right) = record { start = start; len = len } ∷ ranges left ++ ranges right

-- the ranges of the tree over n readings; none has no tree
abbrev pub shape : ℕ → List Range
shape zero = []
shape (suc n) = ranges (plan 0 (suc n))

-- how many ranges there are
abbrev pub count : Plan → ℕ
count (leaf start len) = 1
count (fork start len left right) = 1 + count left + count right

-- how many nodes the tree over n readings has: one less than twice its blocks
abbrev pub node_count : ℕ → ℕ
node_count n = 2 * ((n + 15) / 16) - 1

-- the closed form of the ranges of the tree over n readings: a room at a multiple of itself, cut at n
pub record IsAligned (n : ℕ) (r : Range) : Type 0 where
  pub level : ℕ
  pub row : ℕ
  pub starts : r.start ≡ row * room level
  pub within : r.start < n
  pub spans : r.len ≡ min (room level) (n - r.start)

-- the ranges of the shape are the aligned ones
abbrev pub ShapeIsAligned : Type 0
ShapeIsAligned = (n : ℕ) (r : Range) → (Contains (shape n) r ↔ IsAligned n r)

abbrev pub ShapeIsCounted : Type 0
ShapeIsCounted = (n : ℕ) → length (shape n) ≡ node_count n

-- a range that is a whole room stays when readings are added
abbrev pub WholeRoomsStay : Type 0
WholeRoomsStay = (n more level : ℕ) (r : Range) → Contains (shape n) r → r.len ≡ room level
    → Contains (shape (n + more)) r

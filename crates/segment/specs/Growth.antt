-- What becomes of a tree when readings are added behind its own.
use Rattle.std.specs.Prelude.{◌≡◌, ℕ, ◌+◌, ◌*◌, ◌/◌, ◌≤◌, ◌^◌, ◌==◌, nat_lt, ◌&&◌, ◌||◌, Bool, false, if◌then◌else◌, ℤ, List, [], ◌∷◌, take, drop, unwrap_or}
use Rattle.segment.specs.declared.segments.Seg.{Seg}
use Rattle.segment.specs.Fit.{fit_over}
use Rattle.segment.specs.Nodes.{find_seg}
use Rattle.segment.specs.Shape.{Range, Plan, leaf, fork, shape}
use Rattle.segment.specs.Tree.{SegTree, tip, node, width}

-- the old segment of a range where there is one, else the fit of its readings
abbrev pub kept_or_fit : ℕ → List ℤ → List Seg → Range → Seg
kept_or_fit degree xs old r = unwrap_or (find_seg old r) (fit_over degree xs r)

abbrev pub same_range : Range → Range → Bool
same_range a b = (a.start == b.start) && (a.len == b.len)

abbrev pub is_among : List Range → Range → Bool
is_among [] r = false
is_among (q ∷ qs) r = same_range q r || is_among qs r

-- how many of the ranges are not among the old ones
abbrev pub lacking : List Range → List Range → ℕ
lacking old [] = 0
lacking old (r ∷ rs) = (if is_among old r then 0 else 1) + lacking old rs

-- how many of the ranges end behind n
abbrev pub behind : ℕ → List Range → ℕ
behind n [] = 0
behind n (r ∷ rs) = (if nat_lt n (r.start + r.len) then 1 else 0) + behind n rs

-- how many nodes a tree over n readings lacks, of those of the tree over m
abbrev pub made : ℕ → ℕ → ℕ
made n m = lacking (shape n) (shape m)

-- an append makes few nodes: two for each block that is begun, and some for the levels
abbrev pub FewAreMade : Type 0
FewAreMade = (n k : ℕ) → n + k ≤ 2 ^ 20 → made n (n + k) ≤ 2 * ((k + 15) / 16) + 44

-- none for none
abbrev pub NoneAreMade : Type 0
NoneAreMade = (n : ℕ) → made n n ≡ 0

-- the tree with these ranges over the readings, in which each range has the segment that f tells
abbrev pub tree_by : (Range → Seg) → Plan → List ℤ → SegTree
tree_by f (leaf start len) xs = tip (f (record { start = start; len = len })) xs
tree_by f (fork start len left right) xs =
    node (f (record { start = start; len = len })) (tree_by f left (take (width left) xs))
    (tree_by f right (drop (width left) xs))

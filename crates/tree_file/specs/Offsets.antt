-- Where the record of a node stands in the bytes of a tree.
use Rattle.std.specs.Prelude.{ℕ, zero, suc, ◌+◌, ◌==◌, ◌&&◌, if◌then◌else◌, Bool, Option, Some, None}
use Rattle.segment.specs.Shape.{Range, Plan, leaf, fork, plan}
use Rattle.tree_file.specs.Image.{size}

abbrev pub range : ℕ → ℕ → Range
range start len = record { start = start; len = len }

abbrev pub is_range : ℕ → ℕ → Range → Bool
is_range start len r = (start == r.start) && (len == r.len)

abbrev pub moved : ℕ → Option ℕ → Option ℕ
moved by None = None
moved by (Some k) = Some (k + by)

-- the first of the two that there is
abbrev pub first_of : {X : Type 0} → Option X → Option X → Option X
first_of None o = o
first_of (Some x) o = Some x

-- the root's record comes first, then the left part, then the right one
abbrev pub offset_in : Plan → Range → Option ℕ
offset_in (leaf start len) r = if is_range start len r then Some 0 else None
offset_in (fork start len left right) r =
    if is_range start len r then Some 0
    else first_of (moved 56 (offset_in left r)) (moved (56 + size left) (offset_in right r))

-- the same of the tree over n readings; none has no tree
abbrev pub record_offset : ℕ → Range → Option ℕ
record_offset zero r = None
record_offset (suc n) r = offset_in (plan 0 (suc n)) r

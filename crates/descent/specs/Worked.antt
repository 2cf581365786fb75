-- Worked descents over the readings 0 and 10 in turn.
use Rattle.std.specs.Prelude.{◌≡◌, ℕ, ◌*◌, ℤ, pos, negsuc, Bool, true, false, Option, Some, None, List, [], ◌∷◌, codes}
use Rattle.std.specs.Option.{option_map}
use Rattle.semantics.specs.Term.{base, bare, constant, plus, minus, times, shift, Range, QueryTerm, sum, add, mul}
use Rattle.interval.specs.Interval.{Interval}
use Rattle.segment.specs.declared.segments.Seg.{Seg}
use Rattle.segment.specs.Measure.{unit}
use Rattle.segment.specs.Nodes.{Forest}
use Rattle.segment.specs.Tree.{SegTree, tip, node}
use Rattle.bounds.specs.Worked.{turns, turns_root, steps, steps_root, y}
use Rattle.descent.specs.declared.rows.CutRow.{CutRow}
use Rattle.descent.specs.Told.{told}
use Rattle.descent.specs.Rows.{Track}
use Rattle.descent.specs.Sums.{interval_in, width_of}
use Rattle.descent.specs.Descents.{Nodes, Node, closed, opened, cut_of, roots, after}

-- the leaf of 8 turns from a position on: it estimates 5
abbrev pub turns_leaf : ℕ → Seg
turns_leaf start = record {
  start = start;
  len = 16;
  a = pos (5 * unit);
  b = pos 0;
  c = pos 0;
  l = 80 * unit;
  d = 10;
  f = 5 * unit;
}

abbrev pub left : SegTree
left = tip (turns_leaf 0) (turns 8)

abbrev pub right : SegTree
right = tip (turns_leaf 16) (turns 8)

abbrev pub turns_tree : SegTree
turns_tree = node turns_root left right

abbrev pub x : List ℕ
x = codes "x"

abbrev pub forest : Forest
forest = Some turns_tree ∷ []

-- the sum of all readings
abbrev pub whole : QueryTerm
whole = sum (base x) None

abbrev pub from_roots : Nodes
from_roots = roots whole forest (x ∷ [])

abbrev pub track_of : List Node → Track Node
track_of rows = record { series = 0; name = x; len = 32; greatest = 10; rows = rows }

abbrev pub between : ℤ → ℤ → Option Interval
between lo hi = Some (record { lo = lo; hi = hi })

abbrev pub over : ℕ → ℕ → Option Range
over l r = Some (record { left = pos l; right = pos r })

-- moved up by two; with itself, moved up by one; three times; times itself, moved up by one; twice
abbrev pub moved_sum : QueryTerm
moved_sum = sum (shift (base x) (pos 2)) (over 2 34)

abbrev pub double_sum : QueryTerm
double_sum = sum (plus (base x) (shift (base x) (pos 1))) (over 1 32)

abbrev pub triple_sum : QueryTerm
triple_sum = sum (times (bare (pos 3)) (base x)) None

abbrev pub square_sum : QueryTerm
square_sum = sum (times (base x) (shift (base x) (pos 1))) (over 1 32)

abbrev pub two_sums : QueryTerm
two_sums = add whole whole

abbrev pub roots_for : QueryTerm → Nodes
roots_for q = roots q forest (x ∷ [])

abbrev pub interval_after : QueryTerm → ℕ → Option Interval
interval_after q k = interval_in (cut_of (after q (roots_for q) k)) q

abbrev pub width_after : QueryTerm → ℕ → Option ℕ
width_after q k = option_map width_of (interval_after q k)

pub record OtherSumsAreWorked : Type 0 where
  pub moved : interval_after moved_sum 0 ≡ between (pos 0) (pos 320)
  pub triple : interval_after triple_sum 0 ≡ between (pos 0) (pos 960)
  pub square : interval_after square_sum 0 ≡ between (negsuc 1624) (pos 3175)
  pub two : interval_after two_sums 0 ≡ between (pos 0) (pos 640)
  pub double_first : width_after double_sum 0 ≡ Some 640
  pub double_split : width_after double_sum 1 ≡ Some 640
  pub double_half : width_after double_sum 2 ≡ Some 320
  pub double_last : interval_after double_sum 3 ≡ between (pos 310) (pos 310)
  pub double_rows : after double_sum (roots_for double_sum) 3 ≡ track_of (opened left ∷ opened right ∷ []) ∷ []

abbrev pub told_row : ℕ → ℕ → ℕ → Bool → CutRow
told_row series start len is_open = record { series = series; start = start; len = len; opened = is_open }

-- a second series of three readings
abbrev pub two_series : Forest
two_series = Some turns_tree ∷ Some (tip steps_root steps) ∷ []

abbrev pub mixed_sum : QueryTerm
mixed_sum = sum (times (base x) (base y)) None

abbrev pub mixed_after : ℕ → Nodes
mixed_after k = after mixed_sum (roots mixed_sum two_series (x ∷ y ∷ [])) k

abbrev pub less_sum : QueryTerm
less_sum = sum (minus (base x) (constant (pos 5) (pos 0) (pos 32))) None

pub record ProductsAreWorked : Type 0 where
  pub less : interval_after less_sum 0 ≡ between (negsuc 159) (pos 160)
  pub product_of_sums : interval_after (mul whole whole) 0 ≡ between (pos 0) (pos 102400)
  pub square_last : interval_after square_sum 3 ≡ between (pos 0) (pos 0)
  pub mixed_half : interval_in (cut_of (mixed_after 2)) mixed_sum ≡ between (pos 0) (pos 40)
  pub mixed_half_told : told (cut_of (mixed_after 2)) ≡ told_row 0 0 16 true ∷ told_row 0 16 16 false
      ∷ told_row 1 0 3 false ∷ []
  pub mixed_full : interval_in (cut_of (mixed_after 3)) mixed_sum ≡ between (pos 20) (pos 20)
  pub mixed_full_told : told (cut_of (mixed_after 3)) ≡ told_row 0 0 16 true ∷ told_row 0 16 16 false
      ∷ told_row 1 0 3 true ∷ []

pub record DescentsAreWorked : Type 0 where
  -- the root, its children, a leaf opened on a tie of the charges, both leaves opened
  pub at_first : after whole from_roots 0 ≡ track_of (closed turns_tree ∷ []) ∷ []
  pub split : after whole from_roots 1 ≡ track_of (closed left ∷ closed right ∷ []) ∷ []
  pub half : after whole from_roots 2 ≡ track_of (opened left ∷ closed right ∷ []) ∷ []
  pub full : after whole from_roots 3 ≡ track_of (opened left ∷ opened right ∷ []) ∷ []
  pub stays : after whole from_roots 4 ≡ after whole from_roots 3
  -- their intervals
  pub first_interval : interval_in (cut_of (after whole from_roots 0)) whole ≡ between (pos 0) (pos 320)
  pub half_interval : interval_in (cut_of (after whole from_roots 2)) whole ≡ between (pos 80) (pos 240)
  pub full_interval : interval_in (cut_of (after whole from_roots 3)) whole ≡ between (pos 160) (pos 160)

-- Whether the nodes of a tree are true of their readings.
use Rattle.std.specs.Prelude.{ℕ, ◌+◌, ◌^◌, ◌<◌, ◌≤◌, nat_le, Bool, not, ◌&&◌, ◌==◌, ℤ, List, length, Option}
use Rattle.std.specs.List.{find}
use Rattle.segment.specs.declared.segments.Seg.{Seg}
use Rattle.segment.specs.Fit.{readings_in}
use Rattle.segment.specs.Measure.{miss, greatest_reading, greatest_estimate, curve_of, is_bounded}
use Rattle.segment.specs.Tree.{SegTree, readings_of, segs_of}
use Rattle.tree_file.specs.Offsets.{range}

-- whether a segment tells the measures of its curve over the readings
unfoldable pub is_measured : List ℤ → Seg → Bool
is_measured xs g = (g.len == length xs)
    && ((g.l == miss (curve_of g) xs)
    && ((g.d == greatest_reading xs) && (g.f == greatest_estimate (curve_of g) (length xs))))

-- whether a segment is true of the readings, which are within 10 ^ 9
unfoldable pub is_good : List ℤ → Seg → Bool
is_good xs g = nat_le (greatest_reading xs) (10 ^ 9)
    && (is_bounded (curve_of g) (length xs) (greatest_reading xs) && is_measured xs g)

-- the readings of a segment, of those of its series
abbrev pub own_readings : List ℤ → Seg → List ℤ
own_readings xs g = readings_in xs (range g.start g.len)

-- whether a segment isn't true of its readings, or one of them is beyond 10 ^ 9
abbrev pub is_bad : List ℤ → Seg → Bool
is_bad xs g = not (is_good (own_readings xs g) g)

-- the first bad node of a tree, in preorder
abbrev pub first_bad : SegTree → Option Seg
first_bad t = find (is_bad (readings_of t)) (segs_of t)

-- a segment is over some of n readings
pub record IsOver (n : ℕ) (g : Seg) : Type 0 where
  pub some : 0 < g.len
  pub within : g.start + g.len ≤ n

-- The fit of readings: of a constant, a line and a parabola the one that misses least.
use Rattle.std.specs.Prelude.{ℕ, zero, suc, ◌+◌, ◌-◌, ◌*◌, ◌/◌, nat_le, nat_lt, if◌then◌else◌, Option, Some, None, ℤ, pos, ◌+ℤ◌, ◌-ℤ◌, ◌*ℤ◌, List, length, take, drop}
use Rattle.semantics.specs.Quotients.{floor_of}
use Rattle.semantics.specs.Readings.{reading}
use Rattle.semantics.specs.Sums.{total_below}
use Rattle.segment.specs.declared.curves.Curve.{Curve}
use Rattle.segment.specs.declared.segments.Seg.{Seg}
use Rattle.segment.specs.Measure.{unit, is_bounded, miss, greatest_reading, seg_of}
use Rattle.segment.specs.Shape.{Range}

-- a reading in the units of estimates
abbrev pub scaled : List ℤ → ℕ → ℤ
scaled xs i = pos unit *ℤ reading xs i

-- the same less the bend c
abbrev pub straightened : List ℤ → ℤ → ℕ → ℤ
straightened xs c i = scaled xs i -ℤ c *ℤ pos (i * i)

-- a value times its place
abbrev pub moment_at : (ℕ → ℤ) → ℕ → ℤ
moment_at y i = pos i *ℤ y i

-- the slope and the level of the line through n values, by the values' sum and the sum of their moments
abbrev pub slope_by : ℕ → ℤ → ℤ → ℤ
slope_by n sum moment = floor_of (pos 12 *ℤ moment -ℤ pos (6 * (n - 1)) *ℤ sum) (n * (n * n - 1))

abbrev pub level_by : ℕ → ℤ → ℤ → ℤ
level_by n sum slope = floor_of (sum -ℤ slope *ℤ pos (n * (n - 1) / 2)) n

-- the curve with the bend c and the line through n values, by the values' sum and the sum of their moments
abbrev pub curve_by : ℕ → ℤ → ℤ → ℤ → Curve
curve_by n sum moment c = record { a = level_by n sum (slope_by n sum moment); b = slope_by n sum moment; c = c }

-- the curve with the bend c and the line through what the bend leaves of the readings
abbrev pub curve_with : List ℤ → ℤ → Curve
curve_with xs c = curve_by (length xs) (total_below (straightened xs c) (length xs))
    (total_below (moment_at (straightened xs c)) (length xs)) c

-- a reading, counted from a place
abbrev pub in_block : List ℤ → ℕ → ℕ → ℤ
in_block xs from i = reading xs (from + i)

-- the sum of m values from a place
abbrev pub block_of : List ℤ → ℕ → ℕ → ℤ
block_of xs from m = pos unit *ℤ total_below (in_block xs from) m

-- the bend by three blocks of m values: half of their second difference, a place
abbrev pub bend_of : List ℤ → ℕ → ℤ
bend_of xs m = floor_of (block_of xs 0 m -ℤ pos 2 *ℤ block_of xs m m +ℤ block_of xs (2 * m) m) (2 * (m * m * m))

-- the mean, rounded down
unfoldable pub flat_of : List ℤ → Curve
flat_of xs = record {
  a = floor_of (pos unit *ℤ total_below (reading xs) (length xs)) (length xs);
  b = pos 0;
  c = pos 0;
}

unfoldable pub line_of : List ℤ → Curve
line_of xs = curve_by (length xs) (total_below (scaled xs) (length xs))
    (total_below (moment_at (scaled xs)) (length xs)) (pos 0)

unfoldable pub parabola_of : List ℤ → Curve
parabola_of xs = curve_with xs (bend_of xs (length xs / 3))

-- a candidate over n readings of magnitude at most d, dropped where it breaks the bound on coefficients
abbrev pub kept : ℕ → ℕ → Curve → Option Curve
kept n d p = if is_bounded p n d then Some p else None

-- the candidate of higher degree where it misses less
abbrev pub better : List ℤ → Curve → Option Curve → Curve
better xs p None = p
better xs p (Some q) = if nat_lt (miss q xs) (miss p xs) then q else p

-- the best up to degree 1; a line takes two readings
abbrev pub with_line : List ℤ → Curve
with_line xs =
    if nat_le 2 (length xs)
    then better xs (flat_of xs) (kept (length xs) (greatest_reading xs) (line_of xs))
    else flat_of xs

-- the best up to degree 2; a parabola takes three readings
abbrev pub with_parabola : List ℤ → Curve
with_parabola xs =
    if nat_le 3 (length xs)
    then better xs (with_line xs) (kept (length xs) (greatest_reading xs) (parabola_of xs))
    else with_line xs

-- the curve of the fit: the least miss, the least degree on a tie
abbrev pub best_curve : ℕ → List ℤ → Curve
best_curve zero xs = flat_of xs
best_curve (suc zero) xs = with_line xs
best_curve (suc (suc degree)) xs = with_parabola xs

-- the fit of readings that stand from start on
abbrev pub fit_of : ℕ → ℕ → List ℤ → Seg
fit_of degree start xs = seg_of start (best_curve degree xs) xs

-- the readings of a range, of those of a series
abbrev pub readings_in : List ℤ → Range → List ℤ
readings_in xs r = take r.len (drop r.start xs)

-- the fit of a range, of the readings of a series
abbrev pub fit_over : ℕ → List ℤ → Range → Seg
fit_over degree xs r = fit_of degree r.start (readings_in xs r)

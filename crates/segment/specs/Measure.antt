-- What a segment says of its readings.
use Rattle.std.specs.Prelude.{◌≡◌, ℕ, ◌*◌, ◌^◌, ◌≤◌, max, ◌&&◌, nat_le, Bool, ℤ, pos, ◌+ℤ◌, ◌-ℤ◌, ◌*ℤ◌, unsigned_abs, List, length, take, drop}
use Rattle.semantics.specs.Readings.{reading}
use Rattle.semantics.specs.Sums.{sum_below, most_below}
use Rattle.segment.specs.declared.curves.Curve.{Curve}
use Rattle.segment.specs.declared.segments.Seg.{Seg}

-- estimates are in units of 1 / 2 ^ 14
abbrev pub unit : ℕ
unit = 16384

-- a + b * i + c * i ^ 2
abbrev pub estimate_at : Curve → ℕ → ℤ
estimate_at p i = p.a +ℤ p.b *ℤ pos i +ℤ p.c *ℤ pos (i * i)

-- how far the estimate is from the reading
abbrev pub miss_at : Curve → List ℤ → ℕ → ℕ
miss_at p xs i = unsigned_abs (pos unit *ℤ reading xs i -ℤ estimate_at p i)

abbrev pub magnitude_at : List ℤ → ℕ → ℕ
magnitude_at xs i = unsigned_abs (reading xs i)

abbrev pub estimate_magnitude_at : Curve → ℕ → ℕ
estimate_magnitude_at p i = unsigned_abs (estimate_at p i)

-- the sum of all misses
unfoldable pub miss : Curve → List ℤ → ℕ
miss p xs = sum_below (miss_at p xs) (length xs)

-- the greatest magnitude of a reading
unfoldable pub greatest_reading : List ℤ → ℕ
greatest_reading xs = most_below (magnitude_at xs) (length xs)

-- the greatest magnitude of an estimate
unfoldable pub greatest_estimate : Curve → ℕ → ℕ
greatest_estimate p n = most_below (estimate_magnitude_at p) n

-- readings within 10 ^ 9
abbrev pub AreReadings : List ℤ → Type 0
AreReadings xs = (i : ℕ) → unsigned_abs (reading xs i) ≤ 10 ^ 9

-- the most that a coefficient may come to over readings of magnitude at most d
abbrev pub coefficient_bound : ℕ → ℕ
coefficient_bound d = 8 * unit * max 1 d

-- the bound on the coefficients of a curve over n readings of magnitude at most d
pub record IsBounded (p : Curve) (n d : ℕ) : Type 0 where
  pub constant : unsigned_abs p.a ≤ coefficient_bound d
  pub linear : unsigned_abs p.b * n ≤ coefficient_bound d
  pub square : unsigned_abs p.c * (n * n) ≤ coefficient_bound d

-- the same as a test
abbrev pub is_bounded : Curve → ℕ → ℕ → Bool
is_bounded p n d = nat_le (unsigned_abs p.a) (coefficient_bound d)
    && nat_le (unsigned_abs p.b * n) (coefficient_bound d)
    && nat_le (unsigned_abs p.c * (n * n)) (coefficient_bound d)

-- the segment with this curve that is true of the readings
abbrev pub seg_of : ℕ → Curve → List ℤ → Seg
seg_of start p xs = record {
  start = start;
  len = length xs;
  a = p.a;
  b = p.b;
  c = p.c;
  l = miss p xs;
  d = greatest_reading xs;
  f = greatest_estimate p (length xs);
}

abbrev pub curve_of : Seg → Curve
curve_of s = record { a = s.a; b = s.b; c = s.c }

-- the segment is true of the readings
pub record IsTrueOf (xs : List ℤ) (s : Seg) : Type 0 where
  pub measured : s ≡ seg_of s.start (curve_of s) xs
  pub bounded : IsBounded (curve_of s) (length xs) (greatest_reading xs)

-- the exact segment of one reading
abbrev pub unit_seg : ℕ → ℤ → Seg
unit_seg start x = record {
  start = start;
  len = 1;
  a = pos unit *ℤ x;
  b = pos 0;
  c = pos 0;
  l = 0;
  d = unsigned_abs x;
  f = unit * unsigned_abs x;
}

-- what is known of a segment of a series whose readings have at most the magnitude root_d
pub record IsSane (s : Seg) (root_d : ℕ) : Type 0 where
  pub bounded : IsBounded (curve_of s) s.len s.d
  pub below_root : s.d ≤ root_d
  pub root : root_d ≤ 10 ^ 9
  pub estimates : s.f ≤ 24 * unit * max 1 s.d
  pub misses : s.l ≤ 25 * unit * max 1 s.d * s.len

-- every true segment of a part of a series is sane for the greatest magnitude of the series
abbrev pub EveryTrueIsSane : Type 0
EveryTrueIsSane = (xs : List ℤ) (from len : ℕ) (s : Seg) → AreReadings xs → IsTrueOf (take len (drop from xs)) s
    → IsSane s (greatest_reading xs)

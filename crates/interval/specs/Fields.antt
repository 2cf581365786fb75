-- What the ends of an `Iv` keep to, and the interval for which they stand.
use Rattle.std.specs.Prelude.{◌≤◌, ◌^◌, ◌≤ℤ◌, unsigned_abs}
use Rattle.interval.specs.declared.Iv.TheInside.{Inside}
use Rattle.interval.specs.Interval.{Interval}

abbrev pub view_of : Inside → Interval
view_of a = record { lo = a.lo; hi = a.hi }

pub record IsIv (a : Inside) : Type 0 where
  pub ordered : a.lo ≤ℤ a.hi
  pub low : unsigned_abs a.lo ≤ 2 ^ 126
  pub high : unsigned_abs a.hi ≤ 2 ^ 126

abbrev pub fields_of : Interval → Inside
fields_of iv = record { lo = iv.lo; hi = iv.hi }

-- The row that stands at a position.
use Rattle.std.specs.Prelude.{◌≡◌, ℕ, ◌+◌, ◌*◌, ◌⊎◌, is_some, true, pos, None, List}
use Rattle.segment.specs.declared.segments.Seg.{Seg}
use Rattle.bounds.specs.Segments.{covers}
use Rattle.descent.specs.Choice.{Has}
use Rattle.descent.specs.Rows.{Row}

-- the row at a position is closed, and has this segment
pub record IsClosedOver (rows : List Row) (position : ℕ) (g : Seg) : Type 0 where
  pub row : Row
  pub there : Has row rows
  pub covered : covers row.seg (pos position) ≡ true
  pub closed : row ≡ record { seg = g; readings = None }

-- the row at a position is opened
pub record IsOpenedOver (rows : List Row) (position : ℕ) : Type 0 where
  pub row : Row
  pub there : Has row rows
  pub covered : covers row.seg (pos position) ≡ true
  pub opened : is_some row.readings ≡ true

-- the row at a position ends before another one: where the series of so many readings ends, or at a border of blocks
pub record IsEndOver (rows : List Row) (len position end : ℕ) : Type 0 where
  pub row : Row
  pub there : Has row rows
  pub covered : covers row.seg (pos position) ≡ true
  pub end_is : end ≡ row.seg.start + row.seg.len
  pub border : (end ≡ len) ⊎ ((k : ℕ) × (end ≡ 16 * k))

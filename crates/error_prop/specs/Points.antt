-- A series at a single position.
use Rattle.std.specs.Prelude.{◌≡◌, ℕ, ◌+◌, ◌*◌, ◌^◌, ◌≤◌, ℤ, unsigned_abs, List, [], map}
use Rattle.semantics.specs.Term.{Term}
use Rattle.segment.specs.declared.segments.Seg.{Seg}
use Rattle.bounds.specs.Form.{Form, lift}
use Rattle.bounds.specs.Shape.{Shape, estimate_by, shape, weight_in_use}
use Rattle.error_prop.specs.declared.points.Point.{Point}
use Rattle.error_prop.specs.Sizes.{shape_at, CanAdd, CanMultiply, IsSize}

-- the estimate and the weights of a local form
pub record IsPointOf (m : Form) (z : ℤ) (ws : List ℕ) : Type 0 where
  pub estimate : z ≡ m.estimate
  pub weights : ws ≡ map weight_in_use m.uses

-- a point has the size of a shape, an estimate and a magnitude that the shape's norm bounds
pub record IsPoint (p : Point) (s : Shape) (z : ℤ) : Type 0 where
  pub size : IsSize p.size s
  pub small : unsigned_abs p.value ≤ s.norm
  pub value : p.value ≡ z

-- the shape of a point
abbrev pub shape_of : Point → Shape
shape_of p = shape_at p.size (unsigned_abs p.value) []

-- the numbers of a sum are small
pub record SumFits (u v : Point) : Type 0 where
  pub sizes : CanAdd u.size v.size
  pub norm :
      lift u.size.rank v.size.rank * unsigned_abs u.value + lift v.size.rank u.size.rank * unsigned_abs v.value
      ≤ 2 ^ 125

-- those of a product are small
pub record ProductFits (u v : Point) : Type 0 where
  pub sizes : CanMultiply u.size v.size
  pub norm : unsigned_abs u.value * unsigned_abs v.value ≤ 2 ^ 125

-- the weights of a series and what it is at a position
pub record IsFormedAt (t : Term) (gs : List Seg) (ws : List ℕ) (p : Point) (i : ℤ) : Type 0 where
  pub weights : ws ≡ (shape t gs).weights
  pub point : IsPoint p (shape t gs) (estimate_by t gs i)

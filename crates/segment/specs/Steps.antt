-- Estimates place by place.
use Rattle.std.specs.Prelude.{ℕ, ◌+◌, ◌*◌, ℤ, pos, ◌+ℤ◌, ◌*ℤ◌}
use Rattle.segment.specs.declared.curves.Curve.{Curve}

-- by how much the estimate of the next place is greater
abbrev pub step_at : Curve → ℕ → ℤ
step_at p i = p.b +ℤ p.c *ℤ pos (2 * i + 1)

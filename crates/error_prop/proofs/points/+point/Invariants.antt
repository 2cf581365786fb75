use Rattle.std.proofs.Common.{◌+◌, ◌*◌, max}
use Rattle.expr.specs.Terms.{term_of}
use Rattle.semantics.specs.Limits.{series_depth}
use Rattle.error_prop.proofs.points.+point.Given as goal

-- a series of two goes on with its parts, and a part is less deep
abbrev pub decreases-point_of : goal.decreases-point_of
decreases-point_of l = 2 * series_depth (term_of l.t.now)

abbrev pub decreases-plus_at : goal.decreases-plus_at
decreases-plus_at l = 2 * max (series_depth (term_of l.u.now)) (series_depth (term_of l.v.now)) + 1

abbrev pub decreases-minus_at : goal.decreases-minus_at
decreases-minus_at l = 2 * max (series_depth (term_of l.u.now)) (series_depth (term_of l.v.now)) + 1

abbrev pub decreases-times_at : goal.decreases-times_at
decreases-times_at l = 2 * max (series_depth (term_of l.u.now)) (series_depth (term_of l.v.now)) + 1

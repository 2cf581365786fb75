use Rattle.std.proofs.Common.{◌+◌, ◌*◌, max}
use Rattle.expr.specs.Terms.{term_of}
use Rattle.semantics.specs.Limits.{series_depth}
use Rattle.error_prop.proofs.local.+form.Given as goal

-- a series of two goes on with its parts, and a part is less deep
abbrev pub decreases-head_of : goal.decreases-head_of
decreases-head_of l = 2 * series_depth (term_of l.t.now)

abbrev pub decreases-plus_of : goal.decreases-plus_of
decreases-plus_of l = 2 * max (series_depth (term_of l.u.now)) (series_depth (term_of l.v.now)) + 1

abbrev pub decreases-minus_of : goal.decreases-minus_of
decreases-minus_of l = 2 * max (series_depth (term_of l.u.now)) (series_depth (term_of l.v.now)) + 1

abbrev pub decreases-times_of : goal.decreases-times_of
decreases-times_of l = 2 * max (series_depth (term_of l.u.now)) (series_depth (term_of l.v.now)) + 1

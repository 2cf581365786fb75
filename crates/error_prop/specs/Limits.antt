-- How far a series may go whose sums are worked out.
use Rattle.std.specs.Prelude.{◌≤◌}
use Rattle.semantics.specs.Limits.{series_depth, IsNearSeries}
use Rattle.semantics.specs.Measures.{names_in, rank_of}
use Rattle.semantics.specs.Most.{most_depth, most_names, most_rank}
use Rattle.semantics.specs.Term.{Term}

-- those of the series of a sum in a query that is within the limits and is not refused for its ranks
pub record IsSeriesWithinLimits (t : Term) : Type 0 where
  pub names : names_in t ≤ most_names
  pub rank : rank_of t ≤ most_rank
  pub depth : series_depth t ≤ most_depth
  pub near : IsNearSeries t

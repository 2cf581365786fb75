use Rattle.bounds.proofs.SumsWithin.{sums_within}
use Rattle.bounds.proofs.sums_are_within.Goals as goal

pub returns : goal.returns
returns c = sums_within

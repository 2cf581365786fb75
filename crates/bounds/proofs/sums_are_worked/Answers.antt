use Rattle.bounds.proofs.Examples.{sums_worked}
use Rattle.bounds.proofs.sums_are_worked.Goals as goal

pub returns : goal.returns
returns c = sums_worked

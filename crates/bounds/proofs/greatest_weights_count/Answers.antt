use Rattle.bounds.proofs.Examples.{greatest_weights}
use Rattle.bounds.proofs.greatest_weights_count.Goals as goal

pub returns : goal.returns
returns c = greatest_weights

use Rattle.bounds.proofs.NumberBounds.{numbers_within}
use Rattle.bounds.proofs.numbers_are_within.Goals as goal

pub returns : goal.returns
returns c = numbers_within

use Rattle.bounds.proofs.Examples.{cross_terms}
use Rattle.bounds.proofs.cross_terms_count.Goals as goal

pub returns : goal.returns
returns c = cross_terms

use Rattle.bounds.proofs.TouchLaws.{segs_found}
use Rattle.bounds.proofs.segs_are_found.Goals as goal

pub returns : goal.returns
returns c = segs_found

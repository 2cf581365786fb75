use Rattle.semantics.proofs.DomainLaws.{ReadsInside-admitted}
use Rattle.expr.proofs.laws.sums_read_inside.Goals as goal

pub returns : goal.returns
returns c = ReadsInside-admitted

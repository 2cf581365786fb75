use Rattle.semantics.proofs.DomainLaws.{ending_value-domain}
use Rattle.expr.proofs.laws.constants_may_end.Goals as goal

pub returns : goal.returns
returns c = ending_value-domain

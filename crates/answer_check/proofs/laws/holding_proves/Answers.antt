use Rattle.answer_check.proofs.Holding.{holding_proves}
use Rattle.answer_check.proofs.laws.holding_proves.Goals as goal

pub returns : goal.returns
returns c = holding_proves

use Rattle.std.proofs.Common.{rules}
use Rattle.error_prop.proofs.Arms.{base_weights}
use Rattle.error_prop.proofs.local.base_of.Goals as goal

pub returns : goal.returns
returns c = λ name can. record { weights = base_weights c.args.weights.now can.room; head = search rules }

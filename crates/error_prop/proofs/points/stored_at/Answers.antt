use Rattle.std.proofs.Common.{rules}
use Rattle.error_prop.proofs.Arms.{base_weights}
use Rattle.error_prop.proofs.points.stored_at.Goals as goal

pub returns : goal.returns
returns c = λ name can. record { weights = base_weights c.args.weights.now can.room; point = search rules }

use Rattle.std.proofs.Common.{arith}
use Rattle.expr_parse.proofs.Bounds.{few_said, small_said}
use Rattle.expr_parse.proofs.text.scanned.Goals as goal

pub returns-clause-few : goal.returns-clause-few
returns-clause-few c = few_said c.args.text.now _ _ c.in_ok-found.ensures.lexemes c.in_ok-found.ensures.order (omega arith)

pub returns-clause-small : goal.returns-clause-small
returns-clause-small c = small_said c.args.text.now _ _ c.in_ok-found.ensures.lexemes

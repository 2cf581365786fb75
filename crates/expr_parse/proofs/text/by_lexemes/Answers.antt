use Rattle.expr_parse.proofs.Bounds.{query_has_few}
use Rattle.expr_parse.proofs.Whole.{none_where_stuck, within_limits}
use Rattle.expr_parse.proofs.text.by_lexemes.Goals as goal

pub returns-in_ok-q-in-Ok-clause-limits : goal.returns-in_ok-q-in-Ok-clause-limits
returns-in_ok-q-in-Ok-clause-limits c =
    let ensured = c.in_ok-q-in-Ok.ensures in
    rw ensured.same (within_limits c.args.said.now _ c.in-Ok.ensures.found c.requires.few c.requires.small ensured.depth ensured.sums ensured.names)

pub returns-in-Err-At-clause-outside : goal.returns-in-Err-At-clause-outside
returns-in-Err-At-clause-outside c = none_where_stuck c.args.said.now _ (rw c.in-Err-At.field-0-is at c.in-Err-At.ensures.stuck)

pub returns-in_ok-q-in-Ok-clause-nodes : goal.returns-in_ok-q-in-Ok-clause-nodes
returns-in_ok-q-in-Ok-clause-nodes c =
    rw c.in_ok-q-in-Ok.ensures.same (query_has_few c.args.said.now _ _ c.in-Ok.ensures.found c.requires.few)

use Rattle.answer_check.specs.Walked.{tree_over}
use Rattle.answer_check.proofs.Walks.{node-found, node-long, short-if}
use Rattle.answer_check.proofs.walking.node_for.Goals as goal

pub returns-then-row-gt16-clause-node : goal.returns-then-row-gt16-clause-node
returns-then-row-gt16-clause-node c =
    node-long c.args.arena.now.nodes (tree_over c.args.arena.now.nodes c.args.root 0 c.args.n) c.args.row c.in_ok-place.place c.in_ok-place.ensures.part c.in_ok-place.ensures.over c.if-row.true c.if-row-gt16.true

pub returns-clause-node : goal.returns-clause-node
returns-clause-node c =
    node-found c.args.arena.now.nodes (tree_over c.args.arena.now.nodes c.args.root 0 c.args.n) c.args.row c.in_ok-place.place c.in_ok-place.ensures.part c.in_ok-place.ensures.over
    (short-if c.args.row.2 c.args.row.1 c.else-row.either)

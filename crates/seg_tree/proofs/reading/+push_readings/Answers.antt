use Rattle.std.proofs.Common.{arith, ap, take, ◌∙◌, ◌++◌}
use Rattle.segment.specs.Shape.{IsSplit}
use Rattle.seg_tree.specs.declared.nodes.Node.{Node}
use Rattle.seg_tree.specs.Linked.{left_child, right_child, kept}
use Rattle.seg_tree.proofs.Extended.{IsLinked-within, leaf_at, fork_at, readings_leaf, readings_fork}
use Rattle.seg_tree.proofs.reading.+push_readings.Goals as goal

pub node-requires : goal.node-requires
node-requires t c = IsLinked-within _ _ _ c.requires.linked

pub node-requires-in-Some : goal.node-requires-in-Some
node-requires-in-Some t c = IsLinked-within _ _ _ c.requires.linked

pub children-left-requires : goal.children-left-requires
children-left-requires t c = rw c.node-in-Some.ensures (fork_at _ _ _ _ _ c.in-Some.ensures.1 c.requires.linked).forks

pub push_readings-requires : goal.push_readings-requires
push_readings-requires t c =
    let split : IsSplit c.args.len c.in-Some.s = c.in-Some.ensures.1 in
    let at = fork_at c.args.nodes.now.nodes c.args.place c.args.start c.args.len c.in-Some.s split c.requires.linked in
    (omega (arith, c.decreases, split.below), (omega (arith, split.below), (omega (arith, split.below, split.greatest), rw (c.children-left.ensures.left, c.node-in-Some.ensures) at.left)))

pub push_readings-requires-in-Some : goal.push_readings-requires-in-Some
push_readings-requires-in-Some t c =
    let split : IsSplit c.args.len c.in-Some.s = c.in-Some.ensures.1 in
    let at = fork_at c.args.nodes.now.nodes c.args.place c.args.start c.args.len c.in-Some.s split c.requires.linked in
    (omega (arith, c.decreases, split.below, split.greatest), (omega (arith, split.below), (omega (arith, split.below), rw (c.children-left.ensures.right, c.node-in-Some.ensures) at.right)))

pub readings-requires-clause-leaf : goal.readings-requires-clause-leaf
readings-requires-clause-leaf t c = rw c.node.ensures (leaf_at _ _ _ _ c.in-None.ensures c.requires.linked).at_end

pub returns-in_ok-extend_from_slice-in-None : goal.returns-in_ok-extend_from_slice-in-None
returns-in_ok-extend_from_slice-in-None t c =
    readings_leaf c.args.nodes.now.nodes c.args.place c.args.start c.args.len _ _ (leaf_at _ _ _ _ c.in-None.ensures c.requires.linked)
    (c.in_ok-extend_from_slice-in-None.ensures.items ∙ ap (λ xs. c.args.into.now.items ++ xs) (c.readings.ensures ∙ ap (λ (x : Node). take c.args.len (kept x.below)) c.node.ensures))

pub returns-in_ok-push_readings-in-Some-2 : goal.returns-in_ok-push_readings-in-Some-2
returns-in_ok-push_readings-in-Some-2 t c =
    readings_fork c.args.nodes.now.nodes c.args.place c.args.start c.args.len c.in-Some.s _ _ _ _ _ (fork_at _ _ _ _ _ c.in-Some.ensures.1 c.requires.linked)
    (c.children-left.ensures.left ∙ ap (λ (x : Node). left_child x.below) c.node-in-Some.ensures) (c.children-left.ensures.right ∙ ap (λ (x : Node). right_child x.below) c.node-in-Some.ensures) c.in_ok-push_readings-in-Some.ensures c.in_ok-push_readings-in-Some-2.ensures

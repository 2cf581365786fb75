use Rattle.std.proofs.Common.{◌-◌, pos, arith, rules, ap, take, ◌∙◌, get_or, sym, Some}
use Rattle.std.proofs.lemmas.Int.{to_z-of_z}
use Rattle.segment.specs.Shape.{IsSplit}
use Rattle.seg_tree.specs.declared.nodes.Node.{Node}
use Rattle.seg_tree.specs.Linked.{right_child, kept, node_at}
use Rattle.seg_tree.proofs.Extended.{IsLinked-within, leaf_at, fork_at}
use Rattle.seg_tree.proofs.LastLaws.{leaf-long, last-fork, last-leaf}
use Rattle.seg_tree.proofs.last.+last_below.Goals as goal
use mir.Syntax.{w32}
use mir.Val.{SFits}

pub node-requires : goal.node-requires
node-requires t c = IsLinked-within _ _ _ c.requires.linked

pub readings-requires-clause-leaf : goal.readings-requires-clause-leaf
readings-requires-clause-leaf t c = rw c.node.ensures (leaf_at _ _ _ _ c.in-None.ensures c.requires.linked).at_end

pub bounds-readings-len : goal.bounds-readings-len
bounds-readings-len t c =
    let leaf = leaf_at c.args.nodes.now.nodes c.args.place c.args.start c.args.len c.in-None.ensures c.requires.linked in
    let long = leaf-long c.args.len (node_at c.args.nodes.now.nodes c.args.place).below leaf.at_end in
    rw (c.readings.ensures, c.node.ensures) (omega (arith, long, c.requires.some))

pub node-requires-in-Some : goal.node-requires-in-Some
node-requires-in-Some t c = IsLinked-within _ _ _ c.requires.linked

pub children-left-requires : goal.children-left-requires
children-left-requires t c = rw c.node-in-Some.ensures (fork_at _ _ _ _ _ c.in-Some.ensures.1 c.requires.linked).forks

pub last_below-requires : goal.last_below-requires
last_below-requires t c =
    let split : IsSplit c.args.len c.in-Some.s = c.in-Some.ensures.1 in
    let at = fork_at c.args.nodes.now.nodes c.args.place c.args.start c.args.len c.in-Some.s split c.requires.linked in
    (omega (arith, c.decreases, split.below, split.greatest), (omega (arith, split.below), (omega (arith, split.below), rw (c.children-left.ensures.right, c.node-in-Some.ensures) at.right)))

pub returns-in-None : goal.returns-in-None
returns-in-None t c = λ before.
    let leaf = leaf_at c.args.nodes.now.nodes c.args.place c.args.start c.args.len c.in-None.ensures c.requires.linked in
    let readings = c.readings.ensures ∙ ap (λ (x : Node). take c.args.len (kept x.below)) c.node.ensures in
    let fits : SFits w32 (get_or c.readings.result.now (c.args.len - 1) (pos 0)) = search rules in
    last-leaf c.args.nodes.now.nodes c.args.place c.args.start c.args.len c.readings.result.now before leaf readings c.requires.some
    ∙ ap Some (sym (to_z-of_z w32 _ fits))

pub returns-in-Some : goal.returns-in-Some
returns-in-Some t c = λ before.
    let at = fork_at c.args.nodes.now.nodes c.args.place c.args.start c.args.len c.in-Some.s c.in-Some.ensures.1 c.requires.linked in
    let right = c.children-left.ensures.right ∙ ap (λ (x : Node). right_child x.below) c.node-in-Some.ensures in
    let fits : SFits w32 c.last_below.result = search rules in
    last-fork c.args.nodes.now.nodes c.args.place c.args.start c.args.len c.in-Some.s c.children-left.result.1 c.last_below.result before at right c.last_below.ensures
    ∙ ap Some (sym (to_z-of_z w32 _ fits))

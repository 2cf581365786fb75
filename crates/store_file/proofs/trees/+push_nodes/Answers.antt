use Rattle.std.proofs.Common.{◌++◌, arith, ap, subst, sym, ◌∙◌, take}
use Rattle.segment.specs.Shape.{IsSplit}
use Rattle.seg_tree.specs.Linked.{IsFork, IsLeaf, kept, left_child, right_child}
use Rattle.seg_tree.specs.declared.nodes.Node.{Node}
use Rattle.seg_tree.proofs.Extended.{IsLinked-within, leaf_at, fork_at}
use Rattle.tree_file.specs.Record.{record_of}
use Rattle.store_file.proofs.TreeImages.{image-leaf, image-fork}
use Rattle.store_file.proofs.trees.+push_nodes.Goals as goal

pub node-node-requires : goal.node-node-requires
node-node-requires t c = IsLinked-within _ _ _ c.requires.linked

pub readings-requires-clause-leaf : goal.readings-requires-clause-leaf
readings-requires-clause-leaf t c =
    subst (λ (x : Node). IsLeaf c.args.len x.below) (sym c.node-node.ensures) (leaf_at _ _ _ _ c.in-None.ensures c.requires.linked).at_end

pub children-left-requires : goal.children-left-requires
children-left-requires t c =
    subst (λ (x : Node). IsFork x.below) (sym c.node-node.ensures) (fork_at _ _ _ _ _ c.in-Some.ensures.1 c.requires.linked).forks

pub push_nodes-requires : goal.push_nodes-requires
push_nodes-requires t c =
    let split : IsSplit c.args.len c.in-Some.s = c.in-Some.ensures.1 in
    let at = fork_at c.args.arena.now.nodes c.args.place c.args.start c.args.len c.in-Some.s split c.requires.linked in
    let left = c.children-left.ensures.left ∙ ap (λ (x : Node). left_child x.below) c.node-node.ensures in
    (omega (arith, c.decreases, split.below), (omega (arith, split.below), (omega (arith, split.below, split.greatest), rw left at.left)))

pub push_nodes-requires-in-Some : goal.push_nodes-requires-in-Some
push_nodes-requires-in-Some t c =
    let split : IsSplit c.args.len c.in-Some.s = c.in-Some.ensures.1 in
    let at = fork_at c.args.arena.now.nodes c.args.place c.args.start c.args.len c.in-Some.s split c.requires.linked in
    let right = c.children-left.ensures.right ∙ ap (λ (x : Node). right_child x.below) c.node-node.ensures in
    (omega (arith, c.decreases, split.below, split.greatest), (omega (arith, split.below), (omega (arith, split.below), rw right at.right)))

pub returns-in_ok-push_words-in-None : goal.returns-in_ok-push_words-in-None
returns-in_ok-push_words-in-None t c =
    image-leaf c.args.arena.now.nodes c.args.place c.args.start c.args.len _ _ _ _ (leaf_at _ _ _ _ c.in-None.ensures c.requires.linked)
    (c.readings.ensures ∙ ap (λ (x : Node). take c.args.len (kept x.below)) c.node-node.ensures)
    (c.in_ok-push_record.ensures ∙ ap (λ (x : Node). c.args.into.now.items ++ record_of x.seg) c.node-node.ensures)
    c.in_ok-push_words-in-None.ensures

pub returns-in_ok-push_nodes-in-Some-2 : goal.returns-in_ok-push_nodes-in-Some-2
returns-in_ok-push_nodes-in-Some-2 t c =
    image-fork c.args.arena.now.nodes c.args.place c.args.start c.args.len c.in-Some.s _ _ _ _ _ _ (fork_at _ _ _ _ _ c.in-Some.ensures.1 c.requires.linked)
    (c.children-left.ensures.left ∙ ap (λ (x : Node). left_child x.below) c.node-node.ensures)
    (c.children-left.ensures.right ∙ ap (λ (x : Node). right_child x.below) c.node-node.ensures)
    (c.in_ok-push_record.ensures ∙ ap (λ (x : Node). c.args.into.now.items ++ record_of x.seg) c.node-node.ensures)
    c.in_ok-push_nodes-in-Some.ensures c.in_ok-push_nodes-in-Some-2.ensures

use Rattle.std.proofs.Common.{◌∙◌, ap, arith, subst, sym}
use Rattle.segment.specs.Shape.{IsSplit}
use Rattle.seg_tree.specs.Linked.{IsFork, left_child, right_child}
use Rattle.seg_tree.specs.declared.nodes.Node.{Node}
use Rattle.seg_tree.proofs.Extended.{IsLinked-within, fork_at}
use Rattle.answer_check.proofs.Walks.{children-over, walk-here, walk-leaf, walk-left, walk-right}
use Rattle.answer_check.proofs.walking.+place_with.Goals as goal

pub returns-then-has_range-clause-part : goal.returns-then-has_range-clause-part
returns-then-has_range-clause-part t c =
    walk-here c.args.arena.now.nodes c.args.place c.args.start c.args.len c.args.row c.requires.over (sym c.has_range.ensures ∙ c.if-has_range.true)

pub node-requires : goal.node-requires
node-requires t c = IsLinked-within _ _ _ c.requires.over.linked

pub children-left-requires : goal.children-left-requires
children-left-requires t c =
    subst (λ (x : Node). IsFork x.below) (sym c.node.ensures) (fork_at _ _ _ _ _ c.in-Some.ensures.1 c.requires.over.linked).forks

pub place_with-requires : goal.place_with-requires
place_with-requires t c =
    let split : IsSplit c.args.len c.in-Some.s = c.in-Some.ensures.1 in
    let at = children-over c.args.arena.now.nodes c.args.place c.args.start c.args.len c.in-Some.s c.requires.over split in
    let left = c.children-left.ensures.left ∙ ap (λ (x : Node). left_child x.below) c.node.ensures in
    (omega (arith, c.decreases, split.below), (omega (arith, split.below), (omega (arith, split.below, split.greatest), rw left at.left)))

pub place_with-requires-else-row-start : goal.place_with-requires-else-row-start
place_with-requires-else-row-start t c =
    let split : IsSplit c.args.len c.in-Some.s = c.in-Some.ensures.1 in
    let at = children-over c.args.arena.now.nodes c.args.place c.args.start c.args.len c.in-Some.s c.requires.over split in
    let right = c.children-left.ensures.right ∙ ap (λ (x : Node). right_child x.below) c.node.ensures in
    (omega (arith, c.decreases, split.below, split.greatest), (omega (arith, split.below), (omega (arith, split.below), rw right at.right)))

pub returns-in-None-clause-part : goal.returns-in-None-clause-part
returns-in-None-clause-part t c =
    walk-leaf c.args.arena.now.nodes c.args.place c.args.start c.args.len c.args.row c.requires.over c.in-None.ensures (sym c.has_range.ensures ∙ c.if-has_range.false)

pub returns-then-row-start-clause-part : goal.returns-then-row-start-clause-part
returns-then-row-start-clause-part t c =
    let left = c.children-left.ensures.left ∙ ap (λ (x : Node). left_child x.below) c.node.ensures in
    walk-left c.args.arena.now.nodes c.args.place c.args.start c.args.len c.in-Some.s c.children-left.result.0 c.args.row c.requires.over c.in-Some.ensures.1
    (sym c.has_range.ensures ∙ c.if-has_range.false) left c.if-row-start.true ∙ c.place_with.ensures.part

pub returns-else-row-start-clause-part : goal.returns-else-row-start-clause-part
returns-else-row-start-clause-part t c =
    let right = c.children-left.ensures.right ∙ ap (λ (x : Node). right_child x.below) c.node.ensures in
    walk-right c.args.arena.now.nodes c.args.place c.args.start c.args.len c.in-Some.s c.children-left.result.1 c.args.row c.requires.over c.in-Some.ensures.1
    (sym c.has_range.ensures ∙ c.if-has_range.false) right c.if-row-start.false ∙ c.place_with-else-row-start.ensures.part

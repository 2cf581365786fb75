use Rattle.std.proofs.Common.{◌<◌, ◌+◌, refl, arith, ◌∙◌, ap₂, take, drop}
use Rattle.segment.specs.Shape.{IsSplit}
use Rattle.seg_tree.proofs.Extended.{Extends_refl}
use Rattle.seg_tree.proofs.Adopted.{adopted_leaf, adopted_fork, adopted_part, all_behind}
use Rattle.seg_tree.proofs.adopting.+adopt_nodes.Goals as goal

pub returns-in-None-clause-holds : goal.returns-in-None-clause-holds
returns-in-None-clause-holds t c = λ start.
    adopted_leaf c.args.nodes.now.nodes c.put-leaf.new.self.nodes c.put-leaf.result start c.args.segs.now c.args.xs.now _ (omega (arith, c.in-None.ensures)) c.put-leaf.ensures.put refl (omega (arith, c.block.ensures.len)) c.block.ensures.front

pub returns-in-Some-clause-holds : goal.returns-in-Some-clause-holds
returns-in-Some-clause-holds t c = λ start.
    let parts : IsSplit _ c.in-Some.s = c.in-Some.ensures.1 in
    let some : 0 < c.in-Some.s = omega (arith, parts.below, parts.greatest) in
    adopted_fork c.adopt_nodes-left.new.nodes.nodes c.adopt_nodes-right.new.nodes.nodes c.adopt_nodes-right.new.nodes.nodes c.put-fork.new.self.nodes c.put-fork.result start c.in-Some.s c.args.segs.now c.args.xs.now _ parts some
    (adopted_part _ _ _ _ _ _ _ _ (c.split_at-in-Some.ensures.front ∙ ap₂ take c.nodes_for.ensures.value (all_behind c.args.segs.now)) c.split_at.ensures.front c.split_at.ensures.front_len (c.adopt_nodes-left.ensures.holds start))
    (adopted_part _ _ _ _ _ _ _ _ (c.split_at-in-Some.ensures.back ∙ ap₂ drop c.nodes_for.ensures.value (all_behind c.args.segs.now)) c.split_at.ensures.back (omega (arith, c.split_at.ensures.back_len)) (c.adopt_nodes-right.ensures.holds (start + c.in-Some.s)))
    c.adopt_nodes-right.ensures.extends (Extends_refl _) c.put-fork.ensures.put refl tt

use Rattle.std.proofs.Common.{ap, ◌∙◌, arith}
use Rattle.seg_tree.specs.Held.{Held}
use Rattle.seg_tree.specs.Reached.{Reached}
use Rattle.seg_tree.proofs.ReachedNodes.{node_is, stands-within, leaf_node, one_length}
use Rattle.seg_tree.proofs.lasting_nodes.LastingNodesNodes.readings.Goals as goal

pub leaf_of-requires-clause-within : goal.leaf_of-requires-clause-within
leaf_of-requires-clause-within c =
    let same = ap (λ (h : Held). h.nodes) c.arena.view_is ∙ ap (λ (s : Reached). s.nodes) c.self.view_is in
    rw same (stands-within c.args.self.now c.args.id c.requires.0 c.requires.1)

pub leaf_of-requires-clause-leaf : goal.leaf_of-requires-clause-leaf
leaf_of-requires-clause-leaf c =
    let same = ap (λ (h : Held). h.nodes) c.arena.view_is ∙ ap (λ (s : Reached). s.nodes) c.self.view_is in
    rw same (leaf_node c.args.self.now c.args.id c.requires.0 c.requires.1 c.requires.2).at_end

pub returns-clause-len : goal.returns-clause-len
returns-clause-len c = λ p h.
    let same = ap (λ (h : Held). h.nodes) c.arena.view_is ∙ ap (λ (s : Reached). s.nodes) c.self.view_is in
    rw (c.leaf_of.ensures.len, same) (node_is c.args.self.now c.args.id p h).spans

pub returns-clause-small : goal.returns-clause-small
returns-clause-small c = λ p g i h known lt.
    let same = ap (λ (h : Held). h.nodes) c.arena.view_is ∙ ap (λ (s : Reached). s.nodes) c.self.view_is in
    let one = one_length c.args.self.now c.args.id p c.requires.0 h c.requires.1 in
    let len = returns-clause-len c p h in
    rw (c.leaf_of.ensures.readings, same) ((leaf_node c.args.self.now c.args.id p h (omega (arith, c.requires.2))).small g i known (omega arith))

pub returns-clause-readings : goal.returns-clause-readings
returns-clause-readings c = λ p forest h means.
    let same = ap (λ (h : Held). h.nodes) c.arena.view_is ∙ ap (λ (s : Reached). s.nodes) c.self.view_is in
    let one = one_length c.args.self.now c.args.id p c.requires.0 h c.requires.1 in
    let len = returns-clause-len c p h in
    rw (len, c.leaf_of.ensures.readings, same) ((leaf_node c.args.self.now c.args.id p h (omega (arith, c.requires.2))).readings forest means.1)

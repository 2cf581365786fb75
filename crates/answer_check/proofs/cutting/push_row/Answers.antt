use Rattle.std.proofs.Common.{◌≡◌, ◌++◌, ◌∙◌, ap, subst, sym, take}
use Rattle.std.specs.Result.{OnOk}
use Rattle.segment.specs.Measure.{AreReadings}
use Rattle.seg_tree.specs.Linked.{IsLeaf, kept}
use Rattle.seg_tree.specs.declared.nodes.Node.{Node}
use Rattle.seg_tree.proofs.Extended.{IsLinked-within, leaf_at}
use Rattle.answer_check.proofs.Walks.{leaf-reads, row-opened}
use Rattle.answer_check.proofs.cutting.push_row.Goals as goal

pub node-node-requires : goal.node-node-requires
node-node-requires c = IsLinked-within _ _ _ c.requires.over.linked

pub readings-requires-clause-leaf : goal.readings-requires-clause-leaf
readings-requires-clause-leaf c =
    subst (λ (x : Node). IsLeaf c.args.row.1 x.below) (sym c.node-node.ensures) (leaf_at _ _ _ _ (c.requires.leaf c.if-row.true) c.requires.over.linked).at_end

pub push_units-requires-clause-small : goal.push_units-requires-clause-small
push_units-requires-clause-small c =
    let reads = leaf-reads c.args.arena.now.nodes c.args.place c.args.row.0 c.args.row.1 c.requires.over (c.requires.leaf c.if-row.true) in
    let own = c.readings.ensures ∙ ap (λ (x : Node). take c.args.row.1 (kept x.below)) c.node-node.ensures ∙ sym reads in
    subst AreReadings (sym own) c.requires.small

pub returns-then-row : goal.returns-then-row
returns-then-row c =
    let reads = leaf-reads c.args.arena.now.nodes c.args.place c.args.row.0 c.args.row.1 c.requires.over (c.requires.leaf c.if-row.true) in
    let own = c.readings.ensures ∙ ap (λ (x : Node). take c.args.row.1 (kept x.below)) c.node-node.ensures ∙ sym reads in
    let same = row-opened c.args.arena.now.nodes c.args.row c.args.place c.readings.result.now c.requires.over c.if-row.true own in
    subst (λ gs. OnOk c.push_units.result (c.push_units.new.segs.items ≡ c.args.segs.now.items ++ gs)) (sym same) c.push_units.ensures

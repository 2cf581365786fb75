use Rattle.std.proofs.Common.{◌≡◌, ◌+◌, get_or, take, ◌++◌, [], ◌∷◌}
use Rattle.std.proofs.lemmas.List.{take_more}
use Rattle.segment.specs.Shape.{plan}
use Rattle.seg_tree.proofs.ReachedNodes.{no_tree}
use Rattle.seg_tree.proofs.SweepLaws.{AreMarked, trees-start, trees-skip, trees-more}
use Rattle.seg_tree.proofs.sweeping.mark_trees.Goals.{in-Some, in_default}
use Rattle.seg_tree.proofs.sweeping.mark_trees.Goals as goal

pub loop-tree-init : goal.loop-tree-init
loop-tree-init c = trees-start c.args.slots.now c.requires.unmarked

pub loop-tree-preserved : goal.loop-tree-preserved
loop-tree-preserved c =
    let t = get_or c.args.live.now c.loop-tree.tree-index no_tree in
    let more : take (c.loop-tree.tree-index + 1) c.args.live.now ≡ take c.loop-tree.tree-index c.args.live.now ++ t ∷ [] = take_more c.args.live.now c.loop-tree.tree-index no_tree c.loop-tree-test.true in
    elim c.match-tree.branch [
      | in-Some w ↦
          let a : AreMarked c.loop-tree.slots w.mark.new.slots w.in-Some.root (plan 0 t.n) = record { nodes = w.mark.ensures.nodes; marks = w.mark.ensures.marked; closed = w.mark.ensures.closed } in
          rw (w.slots-is, more) (trees-more c.args.slots.now c.loop-tree.slots w.mark.new.slots (take c.loop-tree.tree-index c.args.live.now) t w.in-Some.root w.in-Some.is c.loop-tree.invariant a)
      | in_default w ↦ rw (w.slots-is, more) (trees-skip c.args.slots.now c.loop-tree.slots (take c.loop-tree.tree-index c.args.live.now) t w.in_default.is c.loop-tree.invariant)
    ]

use Rattle.seg_tree.proofs.SweepLaws.{swept}
use Rattle.seg_tree.proofs.sweeping.sweep_slots.Goals as goal

pub returns-clause-reached : goal.returns-clause-reached
returns-clause-reached c = (swept c.args.slots.now c.mark_trees.new.slots c.settle.new.slots c.args.live.now c.mark_trees.ensures.nodes c.mark_trees.ensures.marked c.settle.ensures.nodes).reached

pub returns-clause-same : goal.returns-clause-same
returns-clause-same c = (swept c.args.slots.now c.mark_trees.new.slots c.settle.new.slots c.args.live.now c.mark_trees.ensures.nodes c.mark_trees.ensures.marked c.settle.ensures.nodes).same

pub returns-clause-fewer : goal.returns-clause-fewer
returns-clause-fewer c = (swept c.args.slots.now c.mark_trees.new.slots c.settle.new.slots c.args.live.now c.mark_trees.ensures.nodes c.mark_trees.ensures.marked c.settle.ensures.nodes).fewer

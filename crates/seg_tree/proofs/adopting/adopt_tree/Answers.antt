use Rattle.seg_tree.proofs.Adopted.{few, length-nodes, adopted-tree, adopted-value}
use Rattle.seg_tree.proofs.adopting.adopt_tree.Goals as goal

pub adopt_nodes-root-requires-clause-few : goal.adopt_nodes-root-requires-clause-few
adopt_nodes-root-requires-clause-few c = few c.args.segs.now c.args.xs.now c.requires.whole

pub adopt_nodes-root-requires-clause-whole : goal.adopt_nodes-root-requires-clause-whole
adopt_nodes-root-requires-clause-whole c = length-nodes c.args.segs.now c.args.xs.now c.requires.whole c.requires.some

pub returns-clause-tree : goal.returns-clause-tree
returns-clause-tree c = adopted-tree c.adopt_nodes-root.new.nodes.nodes c.adopt_nodes-root.result c.args.segs.now c.args.xs.now c.requires.some (c.adopt_nodes-root.ensures.holds 0) c.requires.whole

pub returns-clause-value : goal.returns-clause-value
returns-clause-value c = λ whole h. adopted-value c.adopt_nodes-root.new.nodes.nodes c.adopt_nodes-root.result c.args.segs.now c.args.xs.now whole c.requires.some (c.adopt_nodes-root.ensures.holds 0) h

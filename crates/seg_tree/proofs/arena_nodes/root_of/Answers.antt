use Rattle.seg_tree.proofs.ReachedNodes.{root-within}
use Rattle.seg_tree.proofs.arena_nodes.root_of.Goals as goal

pub seg_of-requires : goal.seg_of-requires
seg_of-requires c = root-within c.args.nodes.now.nodes c.args.tree c.in_ok-place.place c.requires c.in_ok-place.was

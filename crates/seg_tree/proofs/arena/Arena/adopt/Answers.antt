use Rattle.seg_tree.proofs.Adopted.{few}
use Rattle.seg_tree.proofs.arena.Arena.adopt.Goals as goal

pub has_room-requires : goal.has_room-requires
has_room-requires c = few c.args.segs.now c.args.xs.now c.requires

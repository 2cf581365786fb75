use Rattle.sessions.proofs.LiveLaws.{room-kept}
use Rattle.sessions.proofs.live.push_kept.Goals as goal

pub push_all-requires : goal.push_all-requires
push_all-requires c =
    room-kept c.loop-slot.live c.args.live.now c.trees_in.result.now c.args.slots.now c.loop-slot.slot-index 272 c.slot-item.result
    c.loop-slot.invariant c.loop-slot-test.true c.slot-item.is c.trees_in.ensures c.requires.few c.requires.room

use Rattle.std.proofs.Common.{◌<◌, ◌≤◌, ◌+◌, arith, length, map}
use Rattle.std.proofs.lemmas.List.{length-map}
use Rattle.sessions.specs.Kept.{entry_tree}
use Rattle.sessions.proofs.LiveLaws.{room-stored}
use Rattle.sessions.proofs.live.push_stored.Goals as goal

pub push-requires : goal.push-requires
push-requires c =
    let es = c.args.series.now.entries in
    let ts = map entry_tree es in
    let lt : c.loop-i.i < length ts = omega (arith, c.loop-i-test.true, c.len-i-end.ensures.len, length-map es entry_tree) in
    let room : length c.args.live.now + length ts ≤ 272 = omega (arith, c.requires, length-map es entry_tree) in
    room-stored c.loop-i.live c.args.live.now ts c.loop-i.i 272 c.loop-i.invariant lt room

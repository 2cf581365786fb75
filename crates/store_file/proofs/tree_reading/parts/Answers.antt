use Rattle.std.proofs.Common.{length, ap, arith, length-drop}
use Rattle.tree_file.proofs.PlanLaws.{size-tree_size, split_some}
use Rattle.store_file.proofs.TreeReading.{size-fork}
use Rattle.store_file.proofs.tree_reading.parts.Goals as goal

pub behind-left-requires : goal.behind-left-requires
behind-left-requires c = omega (arith, size-fork c.args.start c.args.len c.args.s c.requires.split, c.requires.room)

pub behind-right-requires : goal.behind-right-requires
behind-right-requires c =
    omega (arith, size-fork c.args.start c.args.len c.args.s c.requires.split, ap length c.behind-left.ensures, length-drop 56 c.args.bytes.now, c.tree_bytes.ensures.value, c.requires.room)

pub returns-clause-room_left : goal.returns-clause-room_left
returns-clause-room_left c =
    let left = size-tree_size c.args.start c.args.s (split_some c.args.len c.args.s c.requires.split) in
    omega (arith, size-fork c.args.start c.args.len c.args.s c.requires.split, left, ap length c.behind-left.ensures, length-drop 56 c.args.bytes.now, c.requires.room)

pub returns-clause-room_right : goal.returns-clause-room_right
returns-clause-room_right c =
    let len = ap length c.behind-left.ensures in
    let cut = length-drop 56 c.args.bytes.now in
    let rest = ap length c.behind-right.ensures in
    let cut_rest = length-drop c.tree_bytes.result c.behind-left.result.now in
    omega (arith, size-fork c.args.start c.args.len c.args.s c.requires.split, len, cut, rest, cut_rest, c.tree_bytes.ensures.value, c.requires.room)

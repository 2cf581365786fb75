use Rattle.std.proofs.Common.{◌≤◌, length, ap, arith, length-drop}
use Rattle.segment.specs.Shape.{plan}
use Rattle.store_file.proofs.TreeReading.{size-least, size-leaf, segs-leaf, segs-fork, readings-leaf, readings-fork}
use Rattle.store_file.proofs.tree_reading.+push_nodes.Goals as goal

pub root_in-requires : goal.root_in-requires
root_in-requires t c = omega (arith, size-least (plan c.args.start c.args.len), c.requires.room)

pub behind-requires : goal.behind-requires
behind-requires t c = omega (arith, size-least (plan c.args.start c.args.len), c.requires.room)

pub push_readings-requires : goal.push_readings-requires
push_readings-requires t c =
    let short : c.args.len ≤ 16 = c.in-None.ensures in
    omega (arith, size-leaf c.args.start c.args.len short, c.requires.room, ap length c.behind.ensures, length-drop 56 c.args.bytes.now)

pub returns-in_ok-push_readings-in-None-clause-segs : goal.returns-in_ok-push_readings-in-None-clause-segs
returns-in_ok-push_readings-in-None-clause-segs t c = segs-leaf c.args.start c.args.len c.args.bytes.now c.args.segs.now.items _ c.root_in.result c.in-None.ensures c.root_in.ensures c.in_ok-push.ensures.items

pub returns-in_ok-push_readings-in-None-clause-readings : goal.returns-in_ok-push_readings-in-None-clause-readings
returns-in_ok-push_readings-in-None-clause-readings t c =
    readings-leaf c.args.start c.args.len c.args.bytes.now c.behind.result.now c.args.xs.now.items _ c.in-None.ensures c.behind.ensures c.in_ok-push_readings-in-None.ensures

pub returns-in_ok-push_nodes-in-Some-2-clause-segs : goal.returns-in_ok-push_nodes-in-Some-2-clause-segs
returns-in_ok-push_nodes-in-Some-2-clause-segs t c =
    segs-fork c.args.start c.args.len c.in-Some.s c.args.bytes.now c.parts.result.0.now c.parts.result.1.now c.args.segs.now.items _ _ _ c.root_in.result
    c.in-Some.ensures.1 c.parts.ensures.left c.parts.ensures.right c.root_in.ensures c.in_ok-push.ensures.items c.in_ok-push_nodes-in-Some.ensures.segs c.in_ok-push_nodes-in-Some-2.ensures.segs

pub returns-in_ok-push_nodes-in-Some-2-clause-readings : goal.returns-in_ok-push_nodes-in-Some-2-clause-readings
returns-in_ok-push_nodes-in-Some-2-clause-readings t c =
    readings-fork c.args.start c.args.len c.in-Some.s c.args.bytes.now c.parts.result.0.now c.parts.result.1.now c.args.xs.now.items _ _
    c.in-Some.ensures.1 c.parts.ensures.left c.parts.ensures.right c.in_ok-push_nodes-in-Some.ensures.readings c.in_ok-push_nodes-in-Some-2.ensures.readings

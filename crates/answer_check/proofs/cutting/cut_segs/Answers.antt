use Rattle.std.proofs.Common.{false, get_or}
use Rattle.answer_check.specs.Certificate.{Triple}
use Rattle.answer_check.specs.Walked.{tree_over}
use Rattle.answer_check.proofs.Walks.{part-is, part-small}
use Rattle.answer_check.proofs.cutting.cut_segs.Goals as goal

pub push_row-requires-clause-small : goal.push_row-requires-clause-small
push_row-requires-clause-small c =
    let nodes = c.args.arena.now.nodes in
    let t = tree_over nodes c.args.root 0 c.args.n in
    let row : Triple = get_or c.args.rows.now c.loop-i.i (0, 0, false) in
    let part = tree_over nodes c.in-Some.place row.0 row.1 in
    part-small c.args.n t part c.requires.tree (part-is row t part c.in-Some.ensures.part)

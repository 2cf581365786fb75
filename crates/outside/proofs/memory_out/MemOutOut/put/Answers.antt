use Rattle.std.proofs.Common.{sym, take, drop, take-append-drop}
use Rattle.outside.proofs.memory_out.MemOutOut.put.Goals as goal

pub returns-clause-cut : goal.returns-clause-cut
returns-clause-cut c = λ _.
    let n = c.min.result in
    (take n c.args.piece.now, drop n c.args.piece.now, sym (take-append-drop n c.args.piece.now), c.in_ok-append-2.ensures.ok)

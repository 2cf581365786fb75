use Rattle.descent.proofs.Settling.{read-between}
use Rattle.descent.proofs.kept.cells_read.Goals as goal

pub returns : goal.returns
returns c =
    read-between c.args.cells.now c.args.reader.now.at c.args.seg.now c.border-from.result c.border-until.result
    c.border-from.ensures c.border-until.ensures

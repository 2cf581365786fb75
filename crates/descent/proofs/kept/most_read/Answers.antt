use Rattle.std.proofs.Common.{◌∙◌}
use Rattle.descent.proofs.ReadRuns.{kept-run}
use Rattle.descent.proofs.kept.most_read.Goals as goal

pub returns : goal.returns
returns c =
    let read = c.cells_read-from in
    c.most.ensures ∙ kept-run c.args.weights.now c.args.cells.now c.args.reader.now.at c.args.seg.now read.result.0 read.result.1 read.ensures

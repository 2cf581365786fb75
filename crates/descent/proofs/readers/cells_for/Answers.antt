use Rattle.std.proofs.Common.{arith}
use Rattle.descent.proofs.readers.cells_for.Goals as goal

pub read_cells-requires-clause-from : goal.read_cells-requires-clause-from
read_cells-requires-clause-from c = λ o lt. c.requires.from o lt (omega arith)

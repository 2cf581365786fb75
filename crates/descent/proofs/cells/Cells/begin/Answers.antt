use Rattle.std.proofs.Common.{ap, sym, arith}
use Rattle.descent.specs.Cells.{begin_by}
use Rattle.descent.proofs.CellLaws.{begin-two}
use Rattle.descent.proofs.cells.Cells.begin.Goals as goal

pub returns-then-second-eq0 : goal.returns-then-second-eq0
returns-then-second-eq0 c = sym (ap (λ s. begin_by s c.args.self.now.grain c.args.c) c.if-second-eq0.true)

pub returns : goal.returns
returns c =
    omega (arith, begin-two c.args.self.now.second c.args.self.now.grain c.args.c c.if-second-eq0.false, c.min.ensures)

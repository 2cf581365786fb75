use Rattle.std.proofs.Common.{ap, sym, arith}
use Rattle.descent.specs.Cells.{first_by}
use Rattle.descent.proofs.CellLaws.{first-two}
use Rattle.descent.proofs.cells.Cells.first_from.Goals as goal

pub returns-then-second-eq0 : goal.returns-then-second-eq0
returns-then-second-eq0 c = sym (ap (λ s. first_by s c.args.self.now.grain c.args.n) c.if-second-eq0.true)

pub returns : goal.returns
returns c =
    omega (arith, first-two c.args.self.now.second c.args.self.now.grain c.args.n c.if-second-eq0.false)

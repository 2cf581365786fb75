use Rattle.std.proofs.Common.{◌<◌, arith}
use Rattle.tree_file.proofs.PlanLaws.{tree_size-is}
use Rattle.tree_file.proofs.offsets.tree_bytes.Goals as goal

pub returns-clause-value : goal.returns-clause-value
returns-clause-value c =
    let some : 0 < c.args.n = omega arith in
    omega (arith, tree_size-is c.args.n some, c.div_ceil.ensures, c.from.ensures, c.from-2.ensures)

use Rattle.std.proofs.Common.{arith, unsigned_abs}
use Rattle.std.proofs.Math.Nat.{le-max_left, le-max_right}
use Rattle.answer_check.proofs.writing.ends_of.Goals as goal

pub returns-clause-low : goal.returns-clause-low
returns-clause-low c = omega (arith, le-max_left (unsigned_abs c.args.iv.now.lo) (unsigned_abs c.args.iv.now.hi), c.most-most.ensures.value, c.most-most.ensures.bound)

pub returns-clause-high : goal.returns-clause-high
returns-clause-high c = omega (arith, le-max_right (unsigned_abs c.args.iv.now.lo) (unsigned_abs c.args.iv.now.hi), c.most-most.ensures.value, c.most-most.ensures.bound)

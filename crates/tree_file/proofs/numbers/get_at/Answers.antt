use Rattle.std.proofs.Common.{arith, length, ◌-◌}
use Rattle.tree_file.specs.Bytes.{number_of}
use Rattle.tree_file.proofs.Digits.{number-part}
use Rattle.tree_file.proofs.numbers.get_at.Goals as goal

pub returns-clause-bound : goal.returns-clause-bound
unfolding number_of
returns-clause-bound c = number-part c.args.bytes.now c.args.at c.args.n (length c.args.bytes.now - c.args.at) c.read_uint128.result (λ i. omega (arith, c.type_inv.bytes i)) c.read_uint128.ensures

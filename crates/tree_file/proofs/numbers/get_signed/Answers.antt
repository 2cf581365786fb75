use Rattle.std.proofs.Common.{arith, length, SFits, rules, ◌∙◌}
use Rattle.std.specs.Int.{w128}
use Rattle.std.proofs.lemmas.Int.{to_z-of_z}
use Rattle.tree_file.specs.Bytes.{number_of}
use Rattle.tree_file.proofs.Digits.{number_of-lt}
use Rattle.tree_file.proofs.SignedLaws.{twos_complement-unwrapped}
use Rattle.tree_file.proofs.numbers.get_signed.Goals as goal

pub returns : goal.returns
unfolding number_of
returns c =
    let n = length c.args.bytes.now in
    let fits : SFits w128 c.read_int128.result = search rules in
    to_z-of_z w128 c.read_int128.result fits ∙ c.read_int128.ensures
    ∙ twos_complement-unwrapped n (number_of n c.args.bytes.now) c.requires.some (number_of-lt n c.args.bytes.now (λ i. omega (arith, c.type_inv.bytes i)))

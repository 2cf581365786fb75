use Rattle.std.proofs.Common.{w64}
use Rattle.std.proofs.lemmas.Int.{to_z-of_z}
use Rattle.tree_file.proofs.SignedLaws.{cast-wrapped}
use Rattle.tree_file.proofs.records.bits.Goals as goal

pub returns-clause-value : goal.returns-clause-value
returns-clause-value c = rw (c.from.ensures, c.cast_unsigned.ensures, to_z-of_z w64 c.args.v c.ranges.v) (cast-wrapped c.args.v)

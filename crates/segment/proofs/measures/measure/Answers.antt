use Rattle.std.proofs.Common.{w64}
use Rattle.std.proofs.lemmas.Int.{to_z-of_z}
use Rattle.segment.proofs.Bounds.{bounded-wide}
use Rattle.segment.proofs.measures.measure.Goals as goal

pub greatest_estimate-requires-clause-bounded : goal.greatest_estimate-requires-clause-bounded
greatest_estimate-requires-clause-bounded c =
    rw (to_z-of_z w64 c.args.a c.ranges.a, to_z-of_z w64 c.args.b c.ranges.b, to_z-of_z w64 c.args.c c.ranges.c)
    (bounded-wide _ _ c.args.xs.now c.requires.small c.requires.bounded)

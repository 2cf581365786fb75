use Rattle.std.proofs.Common.{arith}
use Rattle.segment.proofs.ReadingLaws.{AreReadings-within}
use Rattle.sessions.proofs.hub_tests.are_readings.Goals as goal

pub returns : goal.returns
returns c = λ _. AreReadings-within c.args.xs.now (λ i lt. c.loop-x.invariant i (omega arith))

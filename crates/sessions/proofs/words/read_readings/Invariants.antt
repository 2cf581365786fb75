use Rattle.std.proofs.Common.{length}
use Rattle.sessions.proofs.WordLaws.{Read}
use Rattle.sessions.proofs.words.read_readings.Given as goal

abbrev pub invariant-words : goal.invariant-words
invariant-words l = Read l.fn.text l.xs.items l.rest

abbrev pub decreases-words : goal.decreases-words
decreases-words l = length l.rest

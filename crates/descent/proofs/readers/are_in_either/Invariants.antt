use Rattle.std.proofs.Common.{ℕ, ◌<◌}
use Rattle.descent.specs.Readers.{reader_at, IsInEither}
use Rattle.descent.proofs.readers.are_in_either.Given as goal

abbrev pub invariant-loop-o : goal.invariant-loop-o
invariant-loop-o l = (k : ℕ) → k < l.o → IsInEither l.first l.other (reader_at l.readers k)

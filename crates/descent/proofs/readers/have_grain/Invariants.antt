use Rattle.std.proofs.Common.{ℕ, ◌<◌}
use Rattle.descent.specs.Readers.{IsAtPlace}
use Rattle.descent.proofs.readers.have_grain.Given as goal

abbrev pub invariant-loop-o : goal.invariant-loop-o
invariant-loop-o l = (k : ℕ) → k < l.o → IsAtPlace l.readers l.grain k

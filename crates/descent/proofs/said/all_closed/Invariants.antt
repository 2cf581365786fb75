use Rattle.std.proofs.Common.{ℕ, ◌<◌}
use Rattle.descent.specs.Held.{shown}
use Rattle.descent.specs.Readers.{reader_at}
use Rattle.descent.specs.Said.{ReadsClosed}
use Rattle.descent.proofs.said.all_closed.Given as goal

abbrev pub invariant-loop-o : goal.invariant-loop-o
invariant-loop-o g l = (k : ℕ) → k < l.o → ReadsClosed (shown l.tables) l.offset (reader_at l.readers k)

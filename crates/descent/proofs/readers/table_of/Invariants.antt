use Rattle.std.proofs.Common.{◌≡◌, ◌+◌, drop}
use Rattle.descent.specs.Held.{shown}
use Rattle.descent.specs.Readers.{track_of}
use Rattle.descent.proofs.readers.table_of.Given as goal

abbrev pub invariant-loop-i : goal.invariant-loop-i
invariant-loop-i g l = track_of (shown l.tables) l.name ≡ l.i + track_of (drop l.i (shown l.tables)) l.name

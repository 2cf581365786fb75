use Rattle.std.proofs.Common.{◌≡◌, map, take}
use Rattle.descent.specs.Held.{shown}
use Rattle.descent.specs.Said.{seg_read}
use Rattle.descent.proofs.said.gather.Given as goal

abbrev pub invariant-loop-o : goal.invariant-loop-o
invariant-loop-o g l = l.segs.items ≡ map (seg_read (shown l.tables) l.offset) (take l.o l.readers)

use Rattle.std.proofs.Common.{take}
use Rattle.std.specs.List.{All}
use Rattle.descent.specs.Held.{shown}
use Rattle.descent.specs.Sound.{IsSoundTrack}
use Rattle.descent.proofs.keeping.are_sound.Given as goal

abbrev pub invariant-loop-i : goal.invariant-loop-i
invariant-loop-i g l = All IsSoundTrack (shown (take l.i l.tables))

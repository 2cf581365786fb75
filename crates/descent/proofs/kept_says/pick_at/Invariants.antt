use Rattle.std.proofs.Common.{◌≡◌, ◌+◌}
use Rattle.descent.specs.Held.{shown}
use Rattle.descent.specs.KeptSums.{band_of}
use Rattle.descent.proofs.kept_says.pick_at.Given as goal

abbrev pub invariant-loop-i : goal.invariant-loop-i
invariant-loop-i g l = l.place ≡ band_of (shown l.tables) l.i + l.rest

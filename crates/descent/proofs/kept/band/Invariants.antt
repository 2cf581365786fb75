use Rattle.std.proofs.Common.{◌≡◌, ◌*◌, ◌^◌, ◌≤◌}
use Rattle.descent.specs.Held.{shown}
use Rattle.descent.specs.KeptSums.{band_of}
use Rattle.descent.specs.Settled.{AreAtBorders}
use Rattle.descent.proofs.kept.band.Given as goal

abbrev pub invariant-loop-j : goal.invariant-loop-j
invariant-loop-j g l = record {
  place : l.band ≡ band_of (shown l.tables) l.j;
  bound : l.band ≤ 2 ^ 16 * l.j;
  borders : AreAtBorders (shown l.tables) l.j;
}

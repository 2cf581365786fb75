use Rattle.std.proofs.Common.{◌≡◌, ◌≤◌, ◌*◌, ◌^◌, length, take}
use Rattle.descent.specs.Held.{shown}
use Rattle.descent.specs.Told.{told}
use Rattle.descent.proofs.cuts.Cut.rows.Given as goal

abbrev pub invariant-loop-i : goal.invariant-loop-i
invariant-loop-i g l = record {
  told : l.rows.items ≡ told (shown (take l.i l.self-inside.tables.items));
  few : length l.rows.items ≤ l.i * 2 ^ 16;
}

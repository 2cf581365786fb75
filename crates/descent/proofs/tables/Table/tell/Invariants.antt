use Rattle.std.proofs.Common.{◌≡◌, ◌≤◌, ◌+◌, ◌++◌, length, take}
use Rattle.descent.proofs.Telling.{told_places}
use Rattle.descent.proofs.tables.Table.tell.Given as goal

abbrev pub invariant-loop-i : goal.invariant-loop-i
invariant-loop-i g l = record {
  told : l.rows.items ≡ l.fn.rows.items ++ told_places l.self-inside.series (take l.i l.self-inside.places);
  few : length l.rows.items ≤ length l.fn.rows.items + l.i;
}

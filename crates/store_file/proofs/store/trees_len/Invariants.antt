use Rattle.std.proofs.Common.{◌≡◌, ◌+◌, ◌*◌, ◌^◌, ◌≤◌, drop}
use Rattle.store_file.specs.Stored.{AreShort, trees_size}
use Rattle.store_file.proofs.store.trees_len.Given as goal

abbrev pub invariant-loop-i : goal.invariant-loop-i
invariant-loop-i l = record {
  bound : l.len ≤ l.i * 2 ^ 24;
  short : AreShort (drop l.i l.series.entries);
  rest : l.len + trees_size (drop l.i l.series.entries) ≡ trees_size l.series.entries;
}

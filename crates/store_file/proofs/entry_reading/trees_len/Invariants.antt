use Rattle.std.proofs.Common.{◌≡◌, ◌≤◌, ◌+◌, ◌*◌, ◌^◌, drop}
use Rattle.store_file.specs.Decoded.{trees_size}
use Rattle.store_file.proofs.entry_reading.trees_len.Given as goal

abbrev pub invariant-loop-entry : goal.invariant-loop-entry
invariant-loop-entry l = record {
  rest : l.len + trees_size (drop l.entry-index l.entries) ≡ trees_size l.entries;
  small : l.len ≤ l.entry-index * 2 ^ 24;
}

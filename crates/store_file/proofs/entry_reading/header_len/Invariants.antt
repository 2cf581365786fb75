use Rattle.std.proofs.Common.{◌≡◌, ◌≤◌, ◌+◌, ◌*◌, drop}
use Rattle.store_file.specs.Decoded.{entries_size}
use Rattle.store_file.proofs.entry_reading.header_len.Given as goal

abbrev pub invariant-loop-entry : goal.invariant-loop-entry
invariant-loop-entry l = record {
  rest : l.len + entries_size (drop l.entry-index l.entries) ≡ 8 + entries_size l.entries;
  small : l.len ≤ 8 + 37 * l.entry-index;
}

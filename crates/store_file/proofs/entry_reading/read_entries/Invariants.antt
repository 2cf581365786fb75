use Rattle.std.proofs.Common.{◌≡◌, ◌≤◌, ◌-◌, length, drop, []}
use Rattle.store_file.specs.Decoded.{entries_in}
use Rattle.store_file.proofs.EntryReading.{entries_left}
use Rattle.store_file.proofs.entry_reading.read_entries.Given as goal

-- what is read and what is left give the whole
abbrev pub invariant-entries : goal.invariant-entries
invariant-entries l = record {
  within : l.place ≤ length l.bytes;
  rest : entries_left (l.count - l.counter) l.place l.entries.items l.bytes ≡ entries_in l.count 8 [] (drop 8 l.bytes);
}

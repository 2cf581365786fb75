use Rattle.std.proofs.Common.{◌≡◌, drop}
use Rattle.store_file.specs.Decoded.{names_of}
use Rattle.store_file.specs.StoreValue.{has_name}
use Rattle.store_file.proofs.entry_reading.has.Given as goal

-- the names that are left decide
abbrev pub invariant-loop-entry : goal.invariant-loop-entry
invariant-loop-entry l = has_name (names_of (drop l.entry-index l.entries)) l.name ≡ has_name (names_of l.entries) l.name

use Rattle.std.proofs.Common.{◌≡◌, ◌++◌, drop}
use Rattle.store_file.specs.Stored.{stored_entries}
use Rattle.store_file.proofs.header.push_entries.Given as goal

-- what is written and what is left give the whole
abbrev pub invariant-loop-i : goal.invariant-loop-i
invariant-loop-i l = l.into.items ++ stored_entries (drop l.i l.series.entries) ≡ l.fn.into.items ++ stored_entries l.series.entries

use Rattle.std.proofs.Common.{◌≡◌, ◌++◌, drop, map}
use Rattle.sessions.specs.Kept.{entry_tree}
use Rattle.sessions.proofs.live.push_stored.Given as goal

-- what is put and what is left give the whole
abbrev pub invariant-loop-i : goal.invariant-loop-i
invariant-loop-i l = l.live ++ drop l.i (map entry_tree l.series.entries) ≡ l.fn.live ++ map entry_tree l.series.entries

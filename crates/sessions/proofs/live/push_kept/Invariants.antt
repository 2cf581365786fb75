use Rattle.std.proofs.Common.{◌≡◌, ◌++◌, take}
use Rattle.std.specs.List.{flat_map}
use Rattle.sessions.specs.Kept.{trees_kept}
use Rattle.sessions.proofs.live.push_kept.Given as goal

abbrev pub invariant-loop-slot : goal.invariant-loop-slot
invariant-loop-slot l = l.live ≡ l.fn.live ++ flat_map trees_kept (take l.slot-index l.slots)

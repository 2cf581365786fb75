use Rattle.std.proofs.Common.{◌≡◌, ◌++◌, take}
use Rattle.sessions.proofs.live.push_all.Given as goal

abbrev pub invariant-loop-tree : goal.invariant-loop-tree
invariant-loop-tree l = l.live ≡ l.fn.live ++ take l.tree-index l.trees

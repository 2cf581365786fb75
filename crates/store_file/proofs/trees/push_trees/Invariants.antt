use Rattle.std.proofs.Common.{◌++◌, drop}
use Rattle.store_file.specs.StoreValue.{trees_image}
use Rattle.store_file.specs.Stored.{series_of}
use Rattle.store_file.proofs.StoredLaws.{TreesLeft}
use Rattle.store_file.proofs.trees.push_trees.Given as goal

-- what is written and what is left give the whole
abbrev pub invariant-loop-i : goal.invariant-loop-i
invariant-loop-i l = TreesLeft l.arena.nodes (drop l.i l.series.entries) l.into.items (l.fn.into.items ++ trees_image (series_of l.arena.nodes l.series.entries))

use Rattle.std.proofs.Common.{[]}
use Rattle.std.proofs.lemmas.List.Elements.{All-head}
use Rattle.seg_tree.specs.Trees.{IsTreeOf}
use Rattle.seg_tree.proofs.tests.appends_and_sweeps.Goals as goal

-- a sweep keeps the tree that it was given
pub append-requires-4-clause-of_arena : goal.append-requires-4-clause-of_arena
append-requires-4-clause-of_arena g c =
    All-head (IsTreeOf c.sweep-2.new.self.nodes) c.in_ok-longer.longer [] c.sweep-2.ensures.trees

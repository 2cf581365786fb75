use Rattle.pieces.specs.ViewOf.{view_all}
use Rattle.pieces.proofs.Sweeps.{Swept}
use Rattle.pieces.proofs.refinement.sweep.Given as goal

abbrev pub invariant-loop-left : goal.invariant-loop-left
invariant-loop-left l = Swept l.spans l.occs l.fn.l l.fn.r l.at l.left l.cursors.items (view_all l.items.items)

abbrev pub decreases-loop-left : goal.decreases-loop-left
decreases-loop-left l = l.left

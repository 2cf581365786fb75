use Rattle.pieces.specs.Cursors.{IsStepped}
use Rattle.pieces.proofs.cursors.step.Given as goal

abbrev pub invariant-loop-o : goal.invariant-loop-o
invariant-loop-o l = IsStepped l.spans l.occs l.at l.fn.most l.fn.cursors l.cursors l.len l.o

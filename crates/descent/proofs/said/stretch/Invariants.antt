use Rattle.descent.specs.Held.{shown}
use Rattle.descent.proofs.SayLaws.{IsStretch}
use Rattle.descent.proofs.said.stretch.Given as goal

abbrev pub invariant-loop-o : goal.invariant-loop-o
invariant-loop-o g l = IsStretch (shown l.tables) l.readers l.from l.most l.o l.len

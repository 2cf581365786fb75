use Rattle.expr.specs.Terms.{term_of}
use Rattle.descent.specs.Held.{shown}
use Rattle.descent.specs.Kept.{IsSaid}
use Rattle.descent.proofs.said.say_alone.Given as goal

abbrev pub invariant-loop-i : goal.invariant-loop-i
invariant-loop-i g l = IsSaid (shown l.tables) (term_of l.t) l.first l.from l.i l.estimate (λ _. l.most)

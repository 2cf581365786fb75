use Rattle.expr.specs.Terms.{term_of}
use Rattle.descent.specs.Held.{row_in, shown}
use Rattle.descent.specs.Laid.{held}
use Rattle.descent.specs.Settled.{AreRightIn}
use Rattle.descent.proofs.Taking.{IsTakenTo}
use Rattle.descent.proofs.kept.KeptSum.take_over.Given as goal

abbrev pub invariant-loop-o : goal.invariant-loop-o
invariant-loop-o g l = record {
  taken : IsTakenTo (shown l.tables) (term_of l.t) l.change.table (row_in (held l.change.row)) l.o l.fn.self l.self;
  right : AreRightIn (shown l.tables) (term_of l.t) l.self l.right.0 l.right.1;
}

use Rattle.std.proofs.Common.{get_or}
use Rattle.expr.specs.Terms.{term_of}
use Rattle.semantics.specs.Measures.{names_in}
use Rattle.descent.specs.Held.{shown}
use Rattle.descent.specs.Kept.{IsSaid}
use Rattle.descent.specs.Said.{IsRoomFor}
use Rattle.descent.proofs.said.say_each.Given as goal

abbrev pub invariant-loop-i : goal.invariant-loop-i
invariant-loop-i g l = record {
  said : IsSaid (shown l.tables) (term_of l.t) l.first l.from l.i l.estimate (λ o. get_or l.room.weights.items o 0);
  room : IsRoomFor l.room (names_in (term_of l.t));
}

use Rattle.std.proofs.Common.{◌-◌, ◌<◌, ◌≤◌}
use Rattle.expr.specs.Terms.{term_of}
use Rattle.semantics.specs.Measures.{names_in}
use Rattle.descent.specs.Held.{shown}
use Rattle.descent.specs.Said.{IsRoomFor}
use Rattle.descent.specs.Settled.{lens_of, IsSettledTo}
use Rattle.descent.proofs.kept.KeptSum.settle.Given as goal

abbrev pub invariant-loop-c : goal.invariant-loop-c
invariant-loop-c g l = record {
  low : l.from ≤ l.c;
  high : l.c ≤ l.until;
  begins : l.c < l.until → 0 < lens_of l.self l.c;
  settled : IsSettledTo (shown l.tables) (term_of l.t) l.from l.until l.c l.fn.self l.self;
  room : IsRoomFor l.room (names_in (term_of l.t));
}

abbrev pub decreases-loop-c : goal.decreases-loop-c
decreases-loop-c g l = l.until - l.c

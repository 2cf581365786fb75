use Rattle.std.proofs.Common.{take}
use Rattle.semantics.specs.Admission.{sums_of}
use Rattle.expr.specs.Terms.{query_term_of}
use Rattle.descent.specs.Held.{shown}
use Rattle.descent.specs.KeptSums.{AreKeptSums}
use Rattle.descent.proofs.keeping.build_all.Given as goal

abbrev pub invariant-loop-k : goal.invariant-loop-k
invariant-loop-k g l = AreKeptSums (shown l.tables) (take l.k (sums_of (query_term_of l.q))) l.kept.items

use Rattle.semantics.specs.Admission.{sums_of}
use Rattle.expr.specs.Terms.{query_term_of}
use Rattle.descent.specs.Changed.{HasChanged}
use Rattle.descent.specs.Held.{row_in, shown}
use Rattle.descent.specs.Keeping.{AreTakenOver}
use Rattle.descent.specs.Laid.{held}
use Rattle.descent.specs.Rows.{Cut}
use Rattle.descent.proofs.keeping.take_over_all.Given as goal

abbrev pub invariant-loop-k : goal.invariant-loop-k
invariant-loop-k g l =
    (before : Cut) × HasChanged l.change.table (row_in (held l.change.row)) before (shown l.tables)
    × AreTakenOver l.k before (shown l.tables) (sums_of (query_term_of l.q)) l.kept.items

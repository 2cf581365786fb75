use Rattle.std.proofs.Common.{◌≡◌}
use Rattle.csv.specs.Records.{field_at}
use Rattle.series_csv.specs.Lines.{fields_in}
use Rattle.series_csv.proofs.lines.field_of.Given as goal

abbrev pub invariant-loop-left : goal.invariant-loop-left
invariant-loop-left l = field_at (fields_in l.line) l.place ≡ field_at (fields_in l.rest) l.left

abbrev pub decreases-loop-left : goal.decreases-loop-left
decreases-loop-left l = l.left

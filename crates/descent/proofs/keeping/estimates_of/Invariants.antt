use Rattle.std.proofs.Common.{◌≡◌, take, map, List}
use Rattle.semantics.specs.Admission.{SumTerm}
use Rattle.descent.specs.Keeping.{CanKeepAll}
use Rattle.descent.specs.KeptSums.{AreKeptSums}
use Rattle.descent.specs.Rows.{Cut}
use Rattle.descent.specs.Sums.{sum_in}
use Rattle.descent.proofs.keeping.estimates_of.Given as goal

abbrev pub invariant-loop-k : goal.invariant-loop-k
invariant-loop-k l = (cut : Cut) (ss : List SumTerm) → CanKeepAll cut ss → AreKeptSums cut ss l.kept → l.sums.items ≡ take l.k (map (sum_in cut) ss)

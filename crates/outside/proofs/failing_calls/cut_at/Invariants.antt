use Rattle.std.proofs.Common.{◌≡◌, drop}
use Rattle.outside.specs.Calls.{cut_at}
use Rattle.outside.proofs.failing_calls.cut_at.Given as goal

abbrev pub invariant-loop-k : goal.invariant-loop-k
invariant-loop-k l = cut_at l.pairs l.number ≡ cut_at (drop l.k-index l.pairs) l.number

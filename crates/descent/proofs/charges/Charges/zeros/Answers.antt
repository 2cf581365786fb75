use Rattle.std.proofs.Common.{◌%◌, ◌^◌, ap, sym}
use Rattle.descent.proofs.SumLaws.{sum-zeros}
use Rattle.descent.proofs.charges.Charges.zeros.Goals as goal

pub invariant_of-result : goal.invariant_of-result
invariant_of-result c = sym (ap (λ k. k % 2 ^ 128) (sum-zeros c.in_ok-tops.tops c.in_ok-tops.ensures.zeros))

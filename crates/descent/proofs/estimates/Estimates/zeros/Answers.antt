use Rattle.std.proofs.Common.{◌≡◌, length, pos, List, ℤ, replicate, ap, sym, ◌∙◌, rules}
use Rattle.std.specs.Int.{int_wrap, w128}
use Rattle.std.proofs.lemmas.Int.{int_wrap_fits}
use Rattle.semantics.specs.Readings.{reading}
use Rattle.semantics.specs.Sums.{total_below}
use Rattle.descent.proofs.SumLaws.{total-zeros}
use Rattle.descent.proofs.estimates.Estimates.zeros.Goals as goal

pub invariant_of-result : goal.invariant_of-result
invariant_of-result c =
    let xs = c.in_ok-items.items in
    let e : xs ≡ replicate c.args.count (pos 0) = c.in_ok-items.ensures in
    sym (ap (λ (ys : List ℤ). int_wrap w128 (total_below (reading ys) (length xs))) e
    ∙ ap (int_wrap w128) (total-zeros c.args.count (length xs)) ∙ int_wrap_fits w128 (pos 0) (search rules))

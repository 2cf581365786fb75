use Rattle.std.proofs.Common.{◌≡◌, length, arith, ap, ◌∙◌}
use Rattle.semantics.specs.Sums.{sum_below}
use Rattle.segment.specs.Measure.{miss, miss_at}
use Rattle.segment.proofs.measures.miss.Goals as goal

pub returns : goal.returns
unfolding miss
returns c =
    let e : c.loop-from.from ≡ length c.args.xs.now = omega (arith, c.loop-from.invariant.within, c.loop-from-test.false) in
    record { value = c.loop-from.invariant.sum ∙ ap (sum_below (miss_at c.args.curve.now c.args.xs.now)) e }

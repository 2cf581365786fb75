use Rattle.std.proofs.Common.{arith, SFits, rules}
use Rattle.std.specs.Int.{w128}
use Rattle.std.proofs.lemmas.Int.{ints, to_z-of_z}
use Rattle.interval.proofs.Operations.{difference_holds}
use Rattle.interval.proofs.Iv.sub.Goals as goal

pub invariant_of-result : goal.invariant_of-result
invariant_of-result c =
    let low_fits : SFits w128 c.minus.result = search rules in
    let high_fits : SFits w128 c.minus-2.result = search rules in
    let self_low : SFits w128 c.self.inside.lo = search rules in
    let self_high : SFits w128 c.self.inside.hi = search rules in
    let other_low : SFits w128 c.o.inside.lo = search rules in
    let other_high : SFits w128 c.o.inside.hi = search rules in
    let within = rw (← c.self.view_is, ← c.o.view_is) at c.requires in
    simp to_z-of_z (record {
      ordered = grind (arith, ints, to_z-of_z);
      low = omega (arith, within, simp to_z-of_z at c.minus.ensures.bound);
      high = omega (arith, within, simp to_z-of_z at c.minus-2.ensures.bound);
    })

pub returns-clause-ends : goal.returns-clause-ends
returns-clause-ends c = search rules

pub returns-clause-holds : goal.returns-clause-holds
returns-clause-holds c = rw (returns-clause-ends c) (difference_holds c.args.self c.args.o)

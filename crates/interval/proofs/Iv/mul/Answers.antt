use Rattle.std.proofs.Common.{arith, SFits, rules, unsigned_abs, ◌∙◌}
use Rattle.std.specs.Int.{w128}
use Rattle.std.proofs.lemmas.Int.{to_z-of_z}
use Rattle.interval.proofs.Operations.{product_within, product_from, product_holds, product_least}
use Rattle.interval.proofs.Iv.mul.Goals as goal

pub times-c-requires : goal.times-c-requires
times-c-requires c =
    let left_fits : SFits w128 c.self.inside.hi = search rules in
    let right_fits : SFits w128 c.o.inside.lo = search rules in
    simp to_z-of_z (product_within _ _ _ _ _ (rw (← c.self.view_is, ← c.o.view_is) at c.requires) (omega arith) (omega arith))

pub times-d-requires : goal.times-d-requires
times-d-requires c =
    let left_fits : SFits w128 c.self.inside.hi = search rules in
    let right_fits : SFits w128 c.o.inside.hi = search rules in
    simp to_z-of_z (product_within _ _ _ _ _ (rw (← c.self.view_is, ← c.o.view_is) at c.requires) (omega arith) (omega arith))

pub around-requires-clause-a : goal.around-requires-clause-a
around-requires-clause-a c =
    let left_fits : SFits w128 c.self.inside.lo = search rules in
    let right_fits : SFits w128 c.o.inside.lo = search rules in
    let product_fits : SFits w128 c.times-a.result = search rules in
    let within = product_within (unsigned_abs c.self.inside.lo) (unsigned_abs c.o.inside.lo) _ _ _ (rw (← c.self.view_is, ← c.o.view_is) at c.requires) (omega arith) (omega arith) in
    simp to_z-of_z (omega (arith, within, simp to_z-of_z at c.times-a.ensures.bound))

pub around-requires-clause-b : goal.around-requires-clause-b
around-requires-clause-b c =
    let left_fits : SFits w128 c.self.inside.lo = search rules in
    let right_fits : SFits w128 c.o.inside.hi = search rules in
    let product_fits : SFits w128 c.times-b.result = search rules in
    let within = product_within (unsigned_abs c.self.inside.lo) (unsigned_abs c.o.inside.hi) _ _ _ (rw (← c.self.view_is, ← c.o.view_is) at c.requires) (omega arith) (omega arith) in
    simp to_z-of_z (omega (arith, within, simp to_z-of_z at c.times-b.ensures.bound))

pub around-requires-clause-c : goal.around-requires-clause-c
around-requires-clause-c c =
    let left_fits : SFits w128 c.self.inside.hi = search rules in
    let right_fits : SFits w128 c.o.inside.lo = search rules in
    let product_fits : SFits w128 c.times-c.result = search rules in
    let within = product_within (unsigned_abs c.self.inside.hi) (unsigned_abs c.o.inside.lo) _ _ _ (rw (← c.self.view_is, ← c.o.view_is) at c.requires) (omega arith) (omega arith) in
    simp to_z-of_z (omega (arith, within, simp to_z-of_z at c.times-c.ensures.bound))

pub around-requires-clause-d : goal.around-requires-clause-d
around-requires-clause-d c =
    let left_fits : SFits w128 c.self.inside.hi = search rules in
    let right_fits : SFits w128 c.o.inside.hi = search rules in
    let product_fits : SFits w128 c.times-d.result = search rules in
    let within = product_within (unsigned_abs c.self.inside.hi) (unsigned_abs c.o.inside.hi) _ _ _ (rw (← c.self.view_is, ← c.o.view_is) at c.requires) (omega arith) (omega arith) in
    simp to_z-of_z (omega (arith, within, simp to_z-of_z at c.times-d.ensures.bound))

pub returns-clause-ends : goal.returns-clause-ends
returns-clause-ends c =
    let self_low : SFits w128 c.self.inside.lo = search rules in
    let self_high : SFits w128 c.self.inside.hi = search rules in
    let other_low : SFits w128 c.o.inside.lo = search rules in
    let other_high : SFits w128 c.o.inside.hi = search rules in
    let a_fits : SFits w128 c.times-a.result = search rules in
    let b_fits : SFits w128 c.times-b.result = search rules in
    let c_fits : SFits w128 c.times-c.result = search rules in
    let d_fits : SFits w128 c.times-d.result = search rules in
    rw (← c.self.view_is, ← c.o.view_is)
    (simp to_z-of_z at c.around.ensures ∙ product_from record { lo = c.self.inside.lo; hi = c.self.inside.hi } record { lo = c.o.inside.lo; hi = c.o.inside.hi } _ _ _ _
    (simp to_z-of_z at c.times-a.ensures.value) (simp to_z-of_z at c.times-b.ensures.value) (simp to_z-of_z at c.times-c.ensures.value) (simp to_z-of_z at c.times-d.ensures.value))

pub returns-clause-holds : goal.returns-clause-holds
returns-clause-holds c = rw (returns-clause-ends c) (product_holds c.args.self c.args.o)

pub returns-clause-least : goal.returns-clause-least
returns-clause-least c =
    let self_ordered = c.self.invariant.ordered in
    let other_ordered = c.o.invariant.ordered in
    rw (returns-clause-ends c) (product_least c.args.self c.args.o (rw (← c.self.view_is) self_ordered) (rw (← c.o.view_is) other_ordered))

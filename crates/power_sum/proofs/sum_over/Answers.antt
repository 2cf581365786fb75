use Rattle.std.proofs.Common.{◌≡◌, ◌-◌, ◌*◌, ◌^◌, ℕ, ℤ, pos, ◌+ℤ◌, get_or, SFits, rules, arith, sym, ap, ap₂, ◌∙◌, to_z, unsigned_abs}
use Rattle.std.specs.Int.{w128}
use Rattle.std.proofs.lemmas.Int.{ints, to_z-of_z}
use Rattle.std.proofs.Math.Nat.{pow-zero}
use Rattle.poly.specs.declared.TheConstants.{N_TERMS}
use Rattle.poly.specs.Terms.{norm_at}
use Rattle.power_sum.proofs.Weighted.{weighted-past, weighted-before, weighted_is_total, weighted-le, fits, size_of-at}
use Rattle.power_sum.proofs.sum_over.Goals as goal

pub loop-k-init : goal.loop-k-init
loop-k-init c = sym (weighted-past c.args.p.now.c N_TERMS c.args.m (omega arith))

pub term-part-requires-clause-fewer : goal.term-part-requires-clause-fewer
term-part-requires-clause-fewer c =
    let term_fits : SFits w128 (get_or c.args.p.now.c (c.loop-k.k - 1) (pos 0)) = search rules in
    simp to_z-of_z (λ some high. c.requires.fewer (omega (arith, size_of-at c.args.p.now.c (c.loop-k.k - 1) some)))

pub term-part-requires-clause-small : goal.term-part-requires-clause-small
term-part-requires-clause-small c =
    let term_fits : SFits w128 (get_or c.args.p.now.c (c.loop-k.k - 1) (pos 0)) = search rules in
    let step = fits c.args.p.now.c c.loop-k.k c.args.m (omega arith) (omega arith) in
    simp to_z-of_z (omega (arith, step.part))

pub plus-sum-requires : goal.plus-sum-requires
plus-sum-requires c =
    let term_fits : SFits w128 (get_or c.args.p.now.c (c.loop-k.k - 1) (pos 0)) = search rules in
    let part_fits : SFits w128 c.term-part.result = search rules in
    let part = simp to_z-of_z at c.term-part.ensures in
    let step = fits c.args.p.now.c c.loop-k.k c.args.m (omega arith) (omega arith) in
    simp to_z-of_z (omega (arith, step.both, part.bound, ap unsigned_abs c.loop-k.invariant))

swap : (a b : ℤ) → a +ℤ b ≡ b +ℤ a
swap a b = omega (arith, ints)

pub loop-k-preserved : goal.loop-k-preserved
loop-k-preserved c =
    let term_fits : SFits w128 (get_or c.args.p.now.c (c.loop-k.k - 1) (pos 0)) = search rules in
    let part_fits : SFits w128 c.term-part.result = search rules in
    let sum_fits : SFits w128 c.plus-sum.result = search rules in
    let part = simp to_z-of_z at c.term-part.ensures in
    let sum = simp to_z-of_z at c.plus-sum.ensures in
    to_z-of_z w128 c.plus-sum.result sum_fits ∙ sum.value ∙ swap (to_z w128 c.loop-k.sum-bits) c.term-part.result ∙ ap₂ ◌+ℤ◌ part.value c.loop-k.invariant ∙ sym (weighted-before c.args.p.now.c c.loop-k.k c.args.m (omega arith) (omega arith))

pub returns-clause-value : goal.returns-clause-value
returns-clause-value c =
    let last : c.loop-k.k ≡ 0 = omega arith in
    rw last at c.loop-k.invariant ∙ weighted_is_total c.args.p.now.c c.args.m

whole : (m n : ℕ) → m * (m ^ 0 * n) ≡ m * n
whole m n = rw pow-zero (omega arith)

pub returns-clause-bound : goal.returns-clause-bound
returns-clause-bound c =
    let last : c.loop-k.k ≡ 0 = omega arith in
    rw (rw last at c.loop-k.invariant) (omega (arith, weighted-le c.args.p.now.c 0 c.args.m, whole c.args.m (norm_at c.args.p.now.c c.args.m)))

use Rattle.std.proofs.Common.{arith, SFits, rules, refl, ◌∙◌, unsigned_abs}
use Rattle.std.specs.Int.{w128}
use Rattle.std.proofs.lemmas.Int.{to_z-of_z}
use Rattle.segment.proofs.FitLaws.{pairs-le}
use Rattle.segment.proofs.fitting.level.Goals as goal

pub less-rest-requires : goal.less-rest-requires
less-rest-requires c =
    let h : SFits w128 c.pairs-half.result = search rules in
    let b = pairs-le (unsigned_abs c.args.slope) c.args.n c.requires.few c.requires.slope in
    rw (to_z-of_z w128 c.args.sum c.ranges.sum, to_z-of_z w128 c.args.slope c.ranges.slope, to_z-of_z w128 c.pairs-half.result h, c.pairs-half.ensures.value) (omega (arith, b))

pub returns-clause-value : goal.returns-clause-value
returns-clause-value c =
    let h : SFits w128 c.pairs-half.result = search rules in
    let g : SFits w128 c.less-rest.result = search rules in
    let f : SFits w128 c.quotient.result = search rules in
    to_z-of_z w128 c.quotient.result f ∙ c.quotient.ensures.value ∙ rw (to_z-of_z w128 c.less-rest.result g, c.less-rest.ensures.value, to_z-of_z w128 c.args.sum c.ranges.sum, to_z-of_z w128 c.args.slope c.ranges.slope, to_z-of_z w128 c.pairs-half.result h, c.pairs-half.ensures.value) refl

pub returns-clause-bound : goal.returns-clause-bound
returns-clause-bound c =
    let h : SFits w128 c.pairs-half.result = search rules in
    let g : SFits w128 c.less-rest.result = search rules in
    let f : SFits w128 c.quotient.result = search rules in
    let b = pairs-le (unsigned_abs c.args.slope) c.args.n c.requires.few c.requires.slope in
    let rest = rw (to_z-of_z w128 c.args.sum c.ranges.sum, to_z-of_z w128 c.args.slope c.ranges.slope, to_z-of_z w128 c.pairs-half.result h, c.pairs-half.ensures.value) at c.less-rest.ensures.bound in
    let q = rw (to_z-of_z w128 c.less-rest.result g) at c.quotient.ensures.bound in
    rw (to_z-of_z w128 c.quotient.result f) (omega (arith, b, rest, q))

use Rattle.std.proofs.Common.{arith, SFits, rules, refl, ◌∙◌, unsigned_abs}
use Rattle.std.specs.Int.{w128}
use Rattle.std.proofs.lemmas.Int.{to_z-of_z}
use Rattle.segment.proofs.FitLaws.{sixes-le}
use Rattle.segment.proofs.fitting.slope.Goals as goal

pub less-rest-requires : goal.less-rest-requires
less-rest-requires c =
    let t : SFits w128 c.times-twelve.result = search rules in
    let h : SFits w128 c.sixes-six.result = search rules in
    let b = sixes-le c.args.n (unsigned_abs c.args.sum) c.requires.few c.requires.sum in
    let twelve = rw (to_z-of_z w128 c.args.moment c.ranges.moment) at c.times-twelve.ensures.bound in
    rw (to_z-of_z w128 c.times-twelve.result t, to_z-of_z w128 c.args.sum c.ranges.sum, to_z-of_z w128 c.sixes-six.result h, c.sixes-six.ensures.value) (omega (arith, b, twelve))

pub returns-clause-value : goal.returns-clause-value
returns-clause-value c =
    let t : SFits w128 c.times-twelve.result = search rules in
    let h : SFits w128 c.sixes-six.result = search rules in
    let g : SFits w128 c.less-rest.result = search rules in
    let f : SFits w128 c.quotient.result = search rules in
    to_z-of_z w128 c.quotient.result f ∙ c.quotient.ensures.value ∙ rw (to_z-of_z w128 c.less-rest.result g, c.less-rest.ensures.value, to_z-of_z w128 c.times-twelve.result t, c.times-twelve.ensures.value, to_z-of_z w128 c.args.moment c.ranges.moment, to_z-of_z w128 c.args.sum c.ranges.sum, to_z-of_z w128 c.sixes-six.result h, c.sixes-six.ensures.value) refl

pub returns-clause-bound : goal.returns-clause-bound
returns-clause-bound c =
    let t : SFits w128 c.times-twelve.result = search rules in
    let h : SFits w128 c.sixes-six.result = search rules in
    let g : SFits w128 c.less-rest.result = search rules in
    let f : SFits w128 c.quotient.result = search rules in
    let b = sixes-le c.args.n (unsigned_abs c.args.sum) c.requires.few c.requires.sum in
    let twelve = rw (to_z-of_z w128 c.args.moment c.ranges.moment) at c.times-twelve.ensures.bound in
    let rest = rw (to_z-of_z w128 c.times-twelve.result t, to_z-of_z w128 c.args.sum c.ranges.sum, to_z-of_z w128 c.sixes-six.result h, c.sixes-six.ensures.value) at c.less-rest.ensures.bound in
    let q = rw (to_z-of_z w128 c.less-rest.result g) at c.quotient.ensures.bound in
    rw (to_z-of_z w128 c.quotient.result f) (omega (arith, b, twelve, rest, q))

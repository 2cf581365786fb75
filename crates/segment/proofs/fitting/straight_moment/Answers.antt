use Rattle.std.proofs.Common.{length, arith, SFits, rules, sym, ◌∙◌, unsigned_abs}
use Rattle.std.specs.Int.{w128}
use Rattle.std.proofs.lemmas.Int.{to_z-of_z}
use Rattle.segment.proofs.FitLaws.{straight-le, moment-straightened}
use Rattle.segment.proofs.fitting.straight_moment.Goals as goal

pub less-requires : goal.less-requires
less-requires c =
    let s : SFits w128 c.scaled_moment-sum.result = search rules in
    let p : SFits w128 c.power-cubes.result = search rules in
    let b = straight-le (unsigned_abs c.args.bend) (length c.args.xs.now) c.requires.few c.requires.bend in
    let small = b.1 in
    rw (to_z-of_z w128 c.scaled_moment-sum.result s, to_z-of_z w128 c.args.bend c.ranges.bend, to_z-of_z w128 c.power-cubes.result p, c.power-cubes.ensures) (omega (arith, small))

pub returns-clause-value : goal.returns-clause-value
returns-clause-value c =
    let s : SFits w128 c.scaled_moment-sum.result = search rules in
    let p : SFits w128 c.power-cubes.result = search rules in
    let b = straight-le (unsigned_abs c.args.bend) (length c.args.xs.now) c.requires.few c.requires.bend in
    let small = b.1 in
    let f : SFits w128 c.less.result = search rules in
    to_z-of_z w128 c.less.result f ∙ c.less.ensures.value ∙ rw (to_z-of_z w128 c.scaled_moment-sum.result s, to_z-of_z w128 c.args.bend c.ranges.bend, to_z-of_z w128 c.power-cubes.result p, c.power-cubes.ensures, c.scaled_moment-sum.ensures.value) (sym (moment-straightened c.args.xs.now c.args.bend (length c.args.xs.now)))

pub returns-clause-bound : goal.returns-clause-bound
returns-clause-bound c =
    let s : SFits w128 c.scaled_moment-sum.result = search rules in
    let p : SFits w128 c.power-cubes.result = search rules in
    let b = straight-le (unsigned_abs c.args.bend) (length c.args.xs.now) c.requires.few c.requires.bend in
    let small = b.1 in
    let f : SFits w128 c.less.result = search rules in
    let d = rw (to_z-of_z w128 c.scaled_moment-sum.result s, to_z-of_z w128 c.args.bend c.ranges.bend, to_z-of_z w128 c.power-cubes.result p, c.power-cubes.ensures) at c.less.ensures.bound in
    rw (to_z-of_z w128 c.less.result f) (omega (arith, small, d))

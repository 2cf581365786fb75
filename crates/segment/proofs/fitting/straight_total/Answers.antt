use Rattle.std.proofs.Common.{length, arith, SFits, rules, sym, ◌∙◌, unsigned_abs}
use Rattle.std.specs.Int.{w128}
use Rattle.std.proofs.lemmas.Int.{to_z-of_z}
use Rattle.segment.proofs.FitLaws.{straight-le, total-straightened}
use Rattle.segment.proofs.fitting.straight_total.Goals as goal

pub less-requires : goal.less-requires
less-requires c =
    let s : SFits w128 c.scaled_total-sum.result = search rules in
    let p : SFits w128 c.power-squares.result = search rules in
    let b = straight-le (unsigned_abs c.args.bend) (length c.args.xs.now) c.requires.few c.requires.bend in
    let small = b.0 in
    rw (to_z-of_z w128 c.scaled_total-sum.result s, to_z-of_z w128 c.args.bend c.ranges.bend, to_z-of_z w128 c.power-squares.result p, c.power-squares.ensures) (omega (arith, small))

pub returns-clause-value : goal.returns-clause-value
returns-clause-value c =
    let s : SFits w128 c.scaled_total-sum.result = search rules in
    let p : SFits w128 c.power-squares.result = search rules in
    let b = straight-le (unsigned_abs c.args.bend) (length c.args.xs.now) c.requires.few c.requires.bend in
    let small = b.0 in
    let f : SFits w128 c.less.result = search rules in
    to_z-of_z w128 c.less.result f ∙ c.less.ensures.value ∙ rw (to_z-of_z w128 c.scaled_total-sum.result s, to_z-of_z w128 c.args.bend c.ranges.bend, to_z-of_z w128 c.power-squares.result p, c.power-squares.ensures, c.scaled_total-sum.ensures.value) (sym (total-straightened c.args.xs.now c.args.bend (length c.args.xs.now)))

pub returns-clause-bound : goal.returns-clause-bound
returns-clause-bound c =
    let s : SFits w128 c.scaled_total-sum.result = search rules in
    let p : SFits w128 c.power-squares.result = search rules in
    let b = straight-le (unsigned_abs c.args.bend) (length c.args.xs.now) c.requires.few c.requires.bend in
    let small = b.0 in
    let f : SFits w128 c.less.result = search rules in
    let d = rw (to_z-of_z w128 c.scaled_total-sum.result s, to_z-of_z w128 c.args.bend c.ranges.bend, to_z-of_z w128 c.power-squares.result p, c.power-squares.ensures) at c.less.ensures.bound in
    rw (to_z-of_z w128 c.less.result f) (omega (arith, small, d))

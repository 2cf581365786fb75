use Rattle.std.proofs.Common.{◌≡◌, arith, rules, length, subst, sym, ◌∙◌}
use Rattle.std.proofs.lemmas.Int.{to_z-of_z}
use mir.Val.{SFits, to_z, of_z}
use mir.Syntax.{w64, w128}
use Rattle.expr.specs.Terms.{term_of}
use Rattle.bounds.specs.Shape.{shape}
use Rattle.bounds.specs.Small.{IsSmallShape}
use Rattle.error_prop.specs.Locals.{CanForm}
use Rattle.error_prop.specs.Points.{IsFormedAt}
use Rattle.error_prop.proofs.Locals.{small_over}
use Rattle.error_prop.proofs.PointLaws.{small_shape, point_of_form}
use Rattle.error_prop.proofs.points.estimate_at.Goals as goal

pub weighed_point-requires : goal.weighed_point-requires
weighed_point-requires c =
    let T = term_of c.args.t.now in
    let S = c.args.segs.now in
    let f : SFits w64 c.args.position = c.ranges.position in
    let k : CanForm T S (length c.args.weights.now) c.args.position 1 = record {
      count = c.requires.count;
      room = c.requires.room;
      few = c.requires.limits.names;
      some = omega arith;
      rank = c.requires.limits.rank;
      near = c.requires.limits.near;
      place = omega (arith, c.requires.position, c.requires.limits.depth);
      covered = c.requires.covered;
      small = small_over T S c.args.position c.requires.limits.rank c.requires.in_range;
    } in
    subst (λ i. CanForm T S (length c.args.weights.now) i 1) (sym (to_z-of_z w64 c.args.position f)) k

pub returns-clause-form : goal.returns-clause-form
returns-clause-form c =
    let T = term_of c.args.t.now in
    let S = c.args.segs.now in
    let f : SFits w64 c.args.position = c.ranges.position in
    let r : SFits w128 c.weighed_point.result.value = search rules in
    let k : IsFormedAt T S c.weighed_point.new.weights c.weighed_point.result c.args.position = subst (λ i. IsFormedAt T S c.weighed_point.new.weights c.weighed_point.result i) (to_z-of_z w64 c.args.position f) c.weighed_point.ensures in
    λ C reads. point_of_form C T S c.args.position _ _ (to_z-of_z w128 c.weighed_point.result.value r ∙ k.point.value) k.weights reads

pub returns-clause-bound : goal.returns-clause-bound
returns-clause-bound c =
    let T = term_of c.args.t.now in
    let S = c.args.segs.now in
    let m : IsSmallShape (shape T S) = small_shape T S (small_over T S c.args.position c.requires.limits.rank c.requires.in_range) in
    let r : SFits w128 c.weighed_point.result.value = search rules in
    let e : to_z w128 (of_z w128 c.weighed_point.result.value) ≡ c.weighed_point.result.value = to_z-of_z w128 c.weighed_point.result.value r in
    rw e (omega (arith, m.norm, c.weighed_point.ensures.point.small))

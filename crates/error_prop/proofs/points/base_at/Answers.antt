use Rattle.std.proofs.Common.{arith, ◌∙◌, ◌≡◌, refl, rules}
use Rattle.std.specs.Prelude.{pos, ◌-ℤ◌}
use Rattle.std.proofs.lemmas.Int.{ints, to_z-of_z}
use mir.Val.{SFits, to_z, of_z}
use mir.Syntax.{w64, w128}
use Rattle.error_prop.proofs.PointLaws.{base_estimate}
use Rattle.error_prop.proofs.Heads.{base_norm}
use Rattle.error_prop.proofs.points.base_at.Goals as goal

pub estimate_in-requires : goal.estimate_in-requires
estimate_in-requires c =
    let f : SFits w64 c.args.position = c.ranges.position in
    let o : pos c.offset_in.result ≡ (c.args.position -ℤ pos c.args.g.now.start) = simp to_z-of_z at c.offset_in.ensures in
    let b = base_norm c.args.g.now c.offset_in.result _ (omega (arith, ints, o)) refl in
    omega (arith, b)

pub returns : goal.returns
returns c =
    let f : SFits w64 c.args.position = c.ranges.position in
    let o : pos c.offset_in.result ≡ (c.args.position -ℤ pos c.args.g.now.start) = simp to_z-of_z at c.offset_in.ensures in
    let b = base_norm c.args.g.now c.offset_in.result _ (omega (arith, ints, o)) refl in
    let r : SFits w128 c.estimate_in.result = search rules in
    let e : to_z w128 (of_z w128 c.estimate_in.result) ≡ c.estimate_in.result = to_z-of_z w128 c.estimate_in.result r in
    record {
      size = c.base_size.ensures;
      small = rw e (omega (arith, b, c.estimate_in.ensures.bound));
      value = e ∙ c.estimate_in.ensures.value ∙ base_estimate c.args.g.now c.args.position c.offset_in.result o;
    }

use Rattle.std.proofs.Common.{◌≡◌, ◌≤◌, ◌^◌, ◌+◌, ◌*◌, arith, rules}
use Rattle.std.specs.Prelude.{unsigned_abs}
use Rattle.std.proofs.lemmas.Int.{ints, to_z-of_z}
use mir.Val.{SFits}
use mir.Syntax.{w64, w128}
use Rattle.error_prop.proofs.PointLaws.{slope_fits, value_fits}
use Rattle.error_prop.proofs.points.estimate_in.Goals as goal

pub along-slope-requires : goal.along-slope-requires
along-slope-requires c =
    let fb : SFits w64 c.args.g.now.b = search rules in
    let fc : SFits w64 c.args.g.now.c = search rules in
    let fr : SFits w128 c.from.result = search rules in
    let e : c.from.result ≡ c.args.g.now.c = simp to_z-of_z at c.from.ensures in
    let l : unsigned_abs c.args.g.now.b ≤ 2 ^ 63 = omega (arith, ints, fb.sfits) in
    rw (to_z-of_z w64 _ fb, to_z-of_z w128 _ fr, e) (slope_fits (unsigned_abs c.args.g.now.a) (unsigned_abs c.args.g.now.b) (unsigned_abs c.args.g.now.c) c.args.offset l c.requires)

pub along-requires : goal.along-requires
along-requires c =
    let fa : SFits w64 c.args.g.now.a = search rules in
    let fb : SFits w64 c.args.g.now.b = search rules in
    let fc : SFits w64 c.args.g.now.c = search rules in
    let fr : SFits w128 c.from.result = search rules in
    let fs : SFits w128 c.along-slope.result = search rules in
    let e : c.from.result ≡ c.args.g.now.c = simp to_z-of_z at c.from.ensures in
    let b = c.along-slope.ensures.bound in
    let k : unsigned_abs c.along-slope.result ≤ unsigned_abs c.args.g.now.b + c.args.offset * unsigned_abs c.args.g.now.c = rw (← e) (simp to_z-of_z at b) in
    let v = value_fits (unsigned_abs c.args.g.now.a) _ _ c.args.offset _ k in
    rw (to_z-of_z w64 _ fa, to_z-of_z w128 _ fs) (omega (arith, v, c.requires))

pub returns-clause-bound : goal.returns-clause-bound
returns-clause-bound c =
    let fa : SFits w64 c.args.g.now.a = search rules in
    let fb : SFits w64 c.args.g.now.b = search rules in
    let fc : SFits w64 c.args.g.now.c = search rules in
    let fr : SFits w128 c.from.result = search rules in
    let fs : SFits w128 c.along-slope.result = search rules in
    let fv : SFits w128 c.along.result = search rules in
    let e : c.from.result ≡ c.args.g.now.c = simp to_z-of_z at c.from.ensures in
    let b = c.along-slope.ensures.bound in
    let k : unsigned_abs c.along-slope.result ≤ unsigned_abs c.args.g.now.b + c.args.offset * unsigned_abs c.args.g.now.c = rw (← e) (simp to_z-of_z at b) in
    let v = value_fits (unsigned_abs c.args.g.now.a) _ _ c.args.offset _ k in
    let w = c.along.ensures.bound in
    let x : unsigned_abs c.along.result ≤ unsigned_abs c.args.g.now.a + c.args.offset * unsigned_abs c.along-slope.result = simp to_z-of_z at w in
    rw (to_z-of_z w128 _ fv) (omega (arith, v, x))

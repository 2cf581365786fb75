use Rattle.std.proofs.Common.{◌^◌, SFits, rules}
use Rattle.std.specs.Int.{w128}
use Rattle.std.proofs.lemmas.Int.{to_z-of_z}
use Rattle.interval.proofs.Operations.{ends_of}
use Rattle.interval.proofs.around.Goals as goal

pub invariant_of-result : goal.invariant_of-result
invariant_of-result c =
    let a_fits = c.ranges.a in
    let b_fits = c.ranges.b in
    let c_fits = c.ranges.c in
    let d_fits = c.ranges.d in
    let low_fits : SFits w128 c.least.result = search rules in
    let high_fits : SFits w128 c.greatest.result = search rules in
    let low = simp to_z-of_z at c.least.ensures in
    let high = simp to_z-of_z at c.greatest.ensures in
    let ends = ends_of c.args.a c.args.b c.args.c c.args.d (2 ^ 126) c.requires.a c.requires.b c.requires.c c.requires.d in
    simp to_z-of_z (rw (low, high) (record { ordered = ends.ordered; low = ends.low; high = ends.high }))

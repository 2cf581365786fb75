use Rattle.std.proofs.Common.{◌≤◌, arith, SFits, w64, rules, sym, unsigned_abs, mul-le-mul_left}
use Rattle.std.specs.Int.{w128}
use Rattle.std.proofs.lemmas.Int.{to_z-of_z}
use Rattle.std.proofs.lemmas.Int.{fits_signed_from_abs}
use Rattle.segment.specs.Fit.{curve_by}
use Rattle.segment.proofs.FitLaws.{kept-no_slope, kept-no_level, kept-some, slope-fits}
use Rattle.segment.proofs.fitting.through.Goals as goal

pub keeps-gentle-requires-clause-small : goal.keeps-gentle-requires-clause-small
keeps-gentle-requires-clause-small c =
    let s : SFits w128 c.slope-slope.result = search rules in
    rw (to_z-of_z w128 c.slope-slope.result s) (slope-fits _ c.args.n c.requires.few c.slope-slope.ensures.bound)

pub returns-then-not-gentle : goal.returns-then-not-gentle
returns-then-not-gentle c =
    let s : SFits w128 c.slope-slope.result = search rules in
    let v = rw (to_z-of_z w128 c.args.sum c.ranges.sum, to_z-of_z w128 c.args.moment c.ranges.moment) at c.slope-slope.ensures.value in
    let h = rw (to_z-of_z w128 c.slope-slope.result s, v) at (c.keeps-gentle.ensures.no c.if-not-gentle.true) in
    sym (kept-no_slope c.args.n c.args.d (curve_by c.args.n c.args.sum c.args.moment c.args.bend) h)

pub returns-then-not-low : goal.returns-then-not-low
returns-then-not-low c =
    let s : SFits w128 c.slope-slope.result = search rules in
    let v = rw (to_z-of_z w128 c.args.sum c.ranges.sum, to_z-of_z w128 c.args.moment c.ranges.moment) at c.slope-slope.ensures.value in
    let l : SFits w128 c.level-level.result = search rules in
    let u = rw (to_z-of_z w128 c.args.sum c.ranges.sum, to_z-of_z w128 c.slope-slope.result s, v) at c.level-level.ensures.value in
    let h = rw (to_z-of_z w128 c.level-level.result l, u) at (c.keeps-low.ensures.no c.if-not-low.true) in
    sym (kept-no_level c.args.n c.args.d (curve_by c.args.n c.args.sum c.args.moment c.args.bend) (omega (arith, h)))

pub overflow_cast-result-2 : goal.overflow_cast-result-2
overflow_cast-result-2 c =
    let s : SFits w128 c.slope-slope.result = search rules in
    let h = rw (to_z-of_z w128 c.slope-slope.result s) at (c.keeps-gentle.ensures.yes c.if-not-gentle.false) in
    let some : 1 ≤ c.args.n = omega arith in
    let less = mul-le-mul_left (unsigned_abs c.slope-slope.result) some in
    rw (to_z-of_z w128 c.slope-slope.result s) (fits_signed_from_abs w64 c.slope-slope.result (omega (arith, h, less)))

pub returns : goal.returns
returns c =
    let s : SFits w128 c.slope-slope.result = search rules in
    let v = rw (to_z-of_z w128 c.args.sum c.ranges.sum, to_z-of_z w128 c.args.moment c.ranges.moment) at c.slope-slope.ensures.value in
    let l : SFits w128 c.level-level.result = search rules in
    let u = rw (to_z-of_z w128 c.args.sum c.ranges.sum, to_z-of_z w128 c.slope-slope.result s, v) at c.level-level.ensures.value in
    let h = rw (to_z-of_z w128 c.slope-slope.result s) at (c.keeps-gentle.ensures.yes c.if-not-gentle.false) in
    let k = rw (to_z-of_z w128 c.level-level.result l) at (c.keeps-low.ensures.yes c.if-not-low.false) in
    let some : 1 ≤ c.args.n = omega arith in
    let less = mul-le-mul_left (unsigned_abs c.slope-slope.result) some in
    let t : SFits w64 c.slope-slope.result = fits_signed_from_abs w64 c.slope-slope.result (omega (arith, h, less)) in
    let m : SFits w64 c.level-level.result = fits_signed_from_abs w64 c.level-level.result (omega (arith, k)) in
    let steep = rw v at h in
    let high = rw u at k in
    rw (to_z-of_z w128 c.level-level.result l, to_z-of_z w64 c.level-level.result m, to_z-of_z w128 c.slope-slope.result s, to_z-of_z w64 c.slope-slope.result t, to_z-of_z w64 c.args.bend c.ranges.bend, v, u) (sym (kept-some c.args.n c.args.d (curve_by c.args.n c.args.sum c.args.moment c.args.bend) (omega (arith, high)) steep c.requires.bend))

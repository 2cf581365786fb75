use Rattle.std.proofs.Common.{◌*◌, ◌/◌, ◌≤◌, length, arith, SFits, w64, rules, refl, sym, ◌∙◌, unsigned_abs, mul-le-mul_left}
use Rattle.std.specs.Int.{w128}
use Rattle.std.proofs.lemmas.Int.{to_z-of_z}
use Rattle.std.proofs.lemmas.Int.{fits_signed_from_abs}
use Rattle.segment.specs.Fit.{parabola_of, bend_of, curve_with}
use Rattle.segment.proofs.FitLaws.{kept-if, kept-no_bend, bend-fits, square_some}
use Rattle.segment.proofs.fitting.parabola.Goals as goal

pub keeps-straight-requires-clause-small : goal.keeps-straight-requires-clause-small
keeps-straight-requires-clause-small c =
    let s : SFits w128 c.bend-bend.result = search rules in
    rw (to_z-of_z w128 c.bend-bend.result s) (bend-fits _ (length c.args.xs.now) c.requires.few c.bend-bend.ensures.bound)

pub returns-then-not-straight-clause-curve : goal.returns-then-not-straight-clause-curve
unfolding parabola_of
returns-then-not-straight-clause-curve c =
    let s : SFits w128 c.bend-bend.result = search rules in
    let h = rw (to_z-of_z w128 c.bend-bend.result s, c.bend-bend.ensures.value) at (c.keeps-straight.ensures.no c.if-not-straight.true) in
    sym (kept-no_bend (length c.args.xs.now) c.args.d (curve_with c.args.xs.now (bend_of c.args.xs.now (length c.args.xs.now / 3))) h)

pub straight_total-sum-requires-clause-bend : goal.straight_total-sum-requires-clause-bend
straight_total-sum-requires-clause-bend c =
    let s : SFits w128 c.bend-bend.result = search rules in
    let limit = rw (to_z-of_z w128 c.bend-bend.result s) at (c.keeps-straight.ensures.yes c.if-not-straight.false) in
    let some : 1 ≤ length c.args.xs.now * length c.args.xs.now = square_some (length c.args.xs.now) (omega arith) in
    let less = mul-le-mul_left (unsigned_abs c.bend-bend.result) some in
    let t : SFits w64 c.bend-bend.result = fits_signed_from_abs w64 c.bend-bend.result (omega (arith, limit, less)) in
    rw (to_z-of_z w128 c.bend-bend.result s) (omega (arith, limit))

pub straight_moment-moment-requires-clause-bend : goal.straight_moment-moment-requires-clause-bend
straight_moment-moment-requires-clause-bend c =
    let s : SFits w128 c.bend-bend.result = search rules in
    let limit = rw (to_z-of_z w128 c.bend-bend.result s) at (c.keeps-straight.ensures.yes c.if-not-straight.false) in
    let some : 1 ≤ length c.args.xs.now * length c.args.xs.now = square_some (length c.args.xs.now) (omega arith) in
    let less = mul-le-mul_left (unsigned_abs c.bend-bend.result) some in
    let t : SFits w64 c.bend-bend.result = fits_signed_from_abs w64 c.bend-bend.result (omega (arith, limit, less)) in
    rw (to_z-of_z w128 c.bend-bend.result s) (omega (arith, limit))

pub overflow_cast-bend : goal.overflow_cast-bend
overflow_cast-bend c =
    let s : SFits w128 c.bend-bend.result = search rules in
    let limit = rw (to_z-of_z w128 c.bend-bend.result s) at (c.keeps-straight.ensures.yes c.if-not-straight.false) in
    let some : 1 ≤ length c.args.xs.now * length c.args.xs.now = square_some (length c.args.xs.now) (omega arith) in
    let less = mul-le-mul_left (unsigned_abs c.bend-bend.result) some in
    let t : SFits w64 c.bend-bend.result = fits_signed_from_abs w64 c.bend-bend.result (omega (arith, limit, less)) in
    rw (to_z-of_z w128 c.bend-bend.result s) t

pub through-requires-clause-bend : goal.through-requires-clause-bend
through-requires-clause-bend c =
    let s : SFits w128 c.bend-bend.result = search rules in
    let limit = rw (to_z-of_z w128 c.bend-bend.result s) at (c.keeps-straight.ensures.yes c.if-not-straight.false) in
    let some : 1 ≤ length c.args.xs.now * length c.args.xs.now = square_some (length c.args.xs.now) (omega arith) in
    let less = mul-le-mul_left (unsigned_abs c.bend-bend.result) some in
    let t : SFits w64 c.bend-bend.result = fits_signed_from_abs w64 c.bend-bend.result (omega (arith, limit, less)) in
    rw (to_z-of_z w128 c.bend-bend.result s, to_z-of_z w64 c.bend-bend.result t) limit

pub returns-clause-curve : goal.returns-clause-curve
unfolding parabola_of
returns-clause-curve c =
    let s : SFits w128 c.bend-bend.result = search rules in
    let limit = rw (to_z-of_z w128 c.bend-bend.result s) at (c.keeps-straight.ensures.yes c.if-not-straight.false) in
    let some : 1 ≤ length c.args.xs.now * length c.args.xs.now = square_some (length c.args.xs.now) (omega arith) in
    let less = mul-le-mul_left (unsigned_abs c.bend-bend.result) some in
    let t : SFits w64 c.bend-bend.result = fits_signed_from_abs w64 c.bend-bend.result (omega (arith, limit, less)) in
    let x : SFits w128 c.straight_total-sum.result = search rules in
    let y : SFits w128 c.straight_moment-moment.result = search rules in
    c.through.ensures ∙ rw (to_z-of_z w128 c.straight_total-sum.result x, to_z-of_z w128 c.straight_moment-moment.result y, c.straight_total-sum.ensures.value, c.straight_moment-moment.ensures.value, to_z-of_z w128 c.bend-bend.result s, to_z-of_z w64 c.bend-bend.result t, c.bend-bend.ensures.value) refl

pub returns-clause-bounded : goal.returns-clause-bounded
returns-clause-bounded c = rw (← c.requires.most) (kept-if (length c.args.xs.now) c.args.d (parabola_of c.args.xs.now) c.through.result (returns-clause-curve c))

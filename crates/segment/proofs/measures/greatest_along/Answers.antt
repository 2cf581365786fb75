use Rattle.std.proofs.Common.{◌≡◌, max, arith, SFits, w64, rules, refl, ap, sym, ◌∙◌, to_z, unsigned_abs, add-one}
use Rattle.std.proofs.lemmas.Int.{to_z-of_z}
use Rattle.semantics.specs.Sums.{most_below}
use Rattle.segment.specs.Measure.{estimate_at, estimate_magnitude_at, greatest_estimate}
use Rattle.segment.specs.Steps.{step_at}
use Rattle.segment.proofs.Bounds.{small_from_bounded}
use Rattle.segment.proofs.StepLaws.{steps-small, estimate-next, step-next}
use Rattle.segment.proofs.measures.greatest_along.Goals as goal

pub estimate-estimate-requires-clause-constant : goal.estimate-estimate-requires-clause-constant
estimate-estimate-requires-clause-constant c = (small_from_bounded c.args.curve.now c.args.n _ (omega arith) c.requires.bounded).constant

pub estimate-estimate-requires-clause-linear : goal.estimate-estimate-requires-clause-linear
estimate-estimate-requires-clause-linear c = (small_from_bounded c.args.curve.now c.args.n _ (omega arith) c.requires.bounded).linear 0 (omega arith)

pub estimate-estimate-requires-clause-square : goal.estimate-estimate-requires-clause-square
estimate-estimate-requires-clause-square c = (small_from_bounded c.args.curve.now c.args.n _ (omega arith) c.requires.bounded).square 0 (omega arith)

pub step-change-requires-clause-linear : goal.step-change-requires-clause-linear
step-change-requires-clause-linear c = (steps-small c.args.curve.now c.args.n _ (omega arith) (omega arith) c.requires.bounded).linear

pub step-change-requires-clause-bends : goal.step-change-requires-clause-bends
step-change-requires-clause-bends c = (steps-small c.args.curve.now c.args.n _ (omega arith) (omega arith) c.requires.bounded).bends 0 (omega arith)

pub plus-bend-requires : goal.plus-bend-requires
plus-bend-requires c =
    let small = steps-small c.args.curve.now c.args.n _ (omega arith) (omega arith) c.requires.bounded in
    let f : SFits w64 c.args.curve.now.c = search rules in
    rw (to_z-of_z w64 c.args.curve.now.c f) (omega (arith, small.bend))

pub plus-estimate-requires : goal.plus-estimate-requires
plus-estimate-requires c =
    let small = steps-small c.args.curve.now c.args.n _ (omega arith) (omega arith) c.requires.bounded in
    let here : to_z w64 c.loop-i.estimate-bits ≡ estimate_at c.args.curve.now c.loop-i.i = cc in
    let up : to_z w64 c.loop-i.change-bits ≡ step_at c.args.curve.now c.loop-i.i = cc in
    rw (here, up) (omega (arith, small.estimate c.loop-i.i (omega arith), small.step c.loop-i.i (omega arith)))

pub plus-change-requires : goal.plus-change-requires
plus-change-requires c =
    let small = steps-small c.args.curve.now c.args.n _ (omega arith) (omega arith) c.requires.bounded in
    let up : to_z w64 c.loop-i.change-bits ≡ step_at c.args.curve.now c.loop-i.i = cc in
    let f : SFits w64 c.args.curve.now.c = search rules in
    let g : SFits w64 c.plus-bend.result = search rules in
    let bend = rw (to_z-of_z w64 c.args.curve.now.c f) at c.plus-bend.ensures.bound in
    rw (up, to_z-of_z w64 c.plus-bend.result g) (omega (arith, small.step c.loop-i.i (omega arith), bend, small.bend))

pub loop-i-preserved : goal.loop-i-preserved
loop-i-preserved c =
    let p = c.args.curve.now in
    let i = c.loop-i.i in
    let here : to_z w64 c.loop-i.estimate-bits ≡ estimate_at p i = cc in
    let up : to_z w64 c.loop-i.change-bits ≡ step_at p i = cc in
    let f : SFits w64 p.c = search rules in
    let g : SFits w64 c.plus-bend.result = search rules in
    let e : SFits w64 c.plus-estimate.result = search rules in
    let s : SFits w64 c.plus-change.result = search rules in
    let size : c.unsigned_abs.result ≡ estimate_magnitude_at p i = c.unsigned_abs.ensures.value ∙ ap unsigned_abs here in
    let bend = rw (to_z-of_z w64 p.c f) at c.plus-bend.ensures.value in
    let next = rw (here, up) at c.plus-estimate.ensures.value in
    let more = rw (up, to_z-of_z w64 c.plus-bend.result g, bend) at c.plus-change.ensures.value in
    record {
      within = omega arith;
      most = c.max-most.ensures ∙ ap (λ m. max m c.unsigned_abs.result) c.loop-i.invariant.most ∙ ap (max (most_below (estimate_magnitude_at p) i)) size ∙ rw add-one refl;
      estimate = to_z-of_z w64 c.plus-estimate.result e ∙ next ∙ sym (estimate-next p i);
      change = to_z-of_z w64 c.plus-change.result s ∙ more ∙ sym (step-next p i);
    }

pub returns : goal.returns
unfolding greatest_estimate
returns c =
    let e : c.loop-i.i ≡ c.args.n = omega (arith, c.loop-i.invariant.within, c.loop-i-test.false) in
    c.loop-i.invariant.most ∙ ap (most_below (estimate_magnitude_at c.args.curve.now)) e

pub returns-then-n-eq0 : goal.returns-then-n-eq0
unfolding greatest_estimate
returns-then-n-eq0 c =
    let none : 0 ≡ c.args.n = omega arith in
    ap (most_below (estimate_magnitude_at c.args.curve.now)) none

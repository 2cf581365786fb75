use Rattle.std.proofs.Common.{◌≡◌, ◌<◌, pos, length, arith, SFits, w32, w64, get_or, rules, refl, sym, ◌∙◌, to_z}
use Rattle.std.proofs.lemmas.Int.{to_z-of_z}
use Rattle.semantics.proofs.SumLaws.{sum_below-more}
use Rattle.segment.specs.Measure.{estimate_at, miss_at}
use Rattle.segment.proofs.Bounds.{greatest_reading-le, small_from_bounded}
use Rattle.segment.proofs.StepLaws.{steps-small}
use Rattle.segment.proofs.StraightLaws.{line-next}
use Rattle.segment.proofs.measures.miss_of_line.Goals as goal

pub estimate-estimate-requires-clause-constant : goal.estimate-estimate-requires-clause-constant
estimate-estimate-requires-clause-constant c =
    (small_from_bounded c.args.curve.now _ _ (greatest_reading-le c.args.xs.now c.requires.small) c.requires.bounded).constant

pub estimate-estimate-requires-clause-linear : goal.estimate-estimate-requires-clause-linear
estimate-estimate-requires-clause-linear c =
    let within : c.args.from < length c.args.xs.now = omega arith in
    (small_from_bounded c.args.curve.now _ _ (greatest_reading-le c.args.xs.now c.requires.small) c.requires.bounded).linear c.args.from within

pub estimate-estimate-requires-clause-square : goal.estimate-estimate-requires-clause-square
estimate-estimate-requires-clause-square c =
    let within : c.args.from < length c.args.xs.now = omega arith in
    (small_from_bounded c.args.curve.now _ _ (greatest_reading-le c.args.xs.now c.requires.small) c.requires.bounded).square c.args.from within

pub gap-sum-requires-clause-estimate : goal.gap-sum-requires-clause-estimate
gap-sum-requires-clause-estimate c =
    let small = steps-small c.args.curve.now _ _ (omega arith) (greatest_reading-le c.args.xs.now c.requires.small) c.requires.bounded in
    let here : to_z w64 c.loop-i.estimate-bits ≡ estimate_at c.args.curve.now c.loop-i.i = cc in
    rw here (small.estimate c.loop-i.i (omega arith))

pub plus-estimate-requires : goal.plus-estimate-requires
plus-estimate-requires c =
    let small = steps-small c.args.curve.now _ _ (omega arith) (greatest_reading-le c.args.xs.now c.requires.small) c.requires.bounded in
    let here : to_z w64 c.loop-i.estimate-bits ≡ estimate_at c.args.curve.now c.loop-i.i = cc in
    let f : SFits w64 c.args.curve.now.b = search rules in
    rw (here, to_z-of_z w64 c.args.curve.now.b f) (omega (arith, small.estimate c.loop-i.i (omega arith), small.linear))

pub loop-i-preserved : goal.loop-i-preserved
loop-i-preserved c =
    let p = c.args.curve.now in
    let i = c.loop-i.i in
    let here : to_z w64 c.loop-i.estimate-bits ≡ estimate_at p i = cc in
    let x : SFits w32 (get_or c.args.xs.now i (pos 0)) = search rules in
    let f : SFits w64 p.b = search rules in
    let e : SFits w64 c.plus-estimate.result = search rules in
    let gap = rw (to_z-of_z w32 (get_or c.args.xs.now i (pos 0)) x, here) at c.gap-sum.ensures.value in
    let next = rw (here, to_z-of_z w64 p.b f) at c.plus-estimate.ensures.value in
    let one_more = sum_below-more (miss_at p c.args.xs.now) i _ _ refl refl in
    record {
      sum = omega (arith, c.loop-i.invariant.sum, gap, one_more);
      fits = omega arith;
      estimate = to_z-of_z w64 c.plus-estimate.result e ∙ next ∙ sym (line-next p i c.requires.straight);
    }

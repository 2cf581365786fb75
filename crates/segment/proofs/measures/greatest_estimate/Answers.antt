use Rattle.std.proofs.Common.{◌≡◌, ◌-◌, SFits, w64, arith, rules, ap, sym, ◌∙◌, unsigned_abs, pos, to_z}
use Rattle.std.proofs.lemmas.Int.{to_z-of_z}
use Rattle.segment.specs.Measure.{estimate_magnitude_at}
use Rattle.segment.proofs.EndLaws.{greatest-ends}
use Rattle.segment.proofs.measures.greatest_estimate.Goals as goal

pub returns : goal.returns
returns c =
    let f : SFits w64 c.estimate.result = search rules in
    let g : SFits w64 c.estimate-2.result = search rules in
    let h : SFits w64 c.args.curve.now.c = search rules in
    let flat : c.args.curve.now.c ≡ pos 0 = sym (to_z-of_z w64 c.args.curve.now.c h) ∙ ap (to_z w64) c.if-curve-ne0.false in
    let first : c.unsigned_abs-first.result ≡ estimate_magnitude_at c.args.curve.now 0 =
    c.unsigned_abs-first.ensures.value ∙ ap unsigned_abs (to_z-of_z w64 c.estimate.result f ∙ c.estimate.ensures.value) in
    let last : c.unsigned_abs-last.result ≡ estimate_magnitude_at c.args.curve.now (c.args.n - 1) =
    c.unsigned_abs-last.ensures.value ∙ ap unsigned_abs (to_z-of_z w64 c.estimate-2.result g ∙ c.estimate-2.ensures.value) in
    c.max.ensures ∙ greatest-ends c.args.curve.now c.args.n c.unsigned_abs-first.result c.unsigned_abs-last.result flat (omega arith) first last

use Rattle.std.proofs.Common.{length, pos, SFits, rules, ap₂, ◌∙◌}
use Rattle.std.specs.Int.{w128}
use Rattle.std.proofs.lemmas.Int.{to_z-of_z}
use Rattle.segment.specs.Fit.{kept, curve_by, line_of}
use Rattle.segment.proofs.FitLaws.{kept-if}
use Rattle.segment.proofs.fitting.line.Goals as goal

pub returns-clause-curve : goal.returns-clause-curve
unfolding line_of
returns-clause-curve c =
    let s : SFits w128 c.scaled_total-sum.result = search rules in
    let m : SFits w128 c.scaled_moment-moment.result = search rules in
    c.through.ensures ∙ ap₂ (λ sum moment. kept (length c.args.xs.now) c.args.d (curve_by (length c.args.xs.now) sum moment (pos 0)))
    (to_z-of_z w128 c.scaled_total-sum.result s ∙ c.scaled_total-sum.ensures.value)
    (to_z-of_z w128 c.scaled_moment-moment.result m ∙ c.scaled_moment-moment.ensures.value)

pub returns-clause-bounded : goal.returns-clause-bounded
returns-clause-bounded c = rw (← c.requires.most) (kept-if (length c.args.xs.now) c.args.d (line_of c.args.xs.now) c.through.result (returns-clause-curve c))

use Rattle.std.proofs.Common.{pos, ◌*ℤ◌, length, SFits, w64, rules, sym, ap, ◌∙◌}
use Rattle.std.specs.Int.{w128}
use Rattle.std.proofs.lemmas.Int.{to_z-of_z}
use Rattle.segment.specs.Measure.{unit}
use Rattle.segment.proofs.FitLaws.{in_block-all, total-scaled}
use Rattle.segment.proofs.fitting.scaled_total.Goals as goal

pub returns-clause-value : goal.returns-clause-value
returns-clause-value c =
    let s : SFits w128 c.from-wide.result = search rules in
    let f : SFits w128 c.scaled_up.result = search rules in
    let sum = c.from-wide.ensures ∙ to_z-of_z w64 c.args.sum c.ranges.sum ∙ c.requires.total ∙ in_block-all c.args.xs.now (length c.args.xs.now) in
    to_z-of_z w128 c.scaled_up.result f ∙ c.scaled_up.ensures.value ∙ ap (λ z. pos unit *ℤ z) (to_z-of_z w128 c.from-wide.result s ∙ sum) ∙ sym (total-scaled c.args.xs.now (length c.args.xs.now))

use Rattle.std.proofs.Common.{pos, ◌*ℤ◌, SFits, w64, rules, ap, ◌∙◌}
use Rattle.std.specs.Int.{w128}
use Rattle.std.proofs.lemmas.Int.{to_z-of_z}
use Rattle.segment.specs.Measure.{unit}
use Rattle.segment.proofs.fitting.block.Goals as goal

pub returns-clause-value : goal.returns-clause-value
returns-clause-value c =
    let t : SFits w64 c.total.result = search rules in
    let s : SFits w128 c.from-sum.result = search rules in
    let f : SFits w128 c.scaled_up.result = search rules in
    let sum = c.from-sum.ensures ∙ to_z-of_z w64 c.total.result t ∙ c.total.ensures.value in
    to_z-of_z w128 c.scaled_up.result f ∙ c.scaled_up.ensures.value ∙ ap (λ z. pos unit *ℤ z) (to_z-of_z w128 c.from-sum.result s ∙ sum)

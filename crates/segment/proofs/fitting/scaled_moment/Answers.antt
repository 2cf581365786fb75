use Rattle.std.proofs.Common.{pos, ◌*ℤ◌, length, SFits, rules, sym, ap, ◌∙◌}
use Rattle.std.specs.Int.{w128}
use Rattle.std.proofs.lemmas.Int.{to_z-of_z}
use Rattle.segment.specs.Measure.{unit}
use Rattle.segment.proofs.FitLaws.{moment-scaled}
use Rattle.segment.proofs.fitting.scaled_moment.Goals as goal

pub returns-clause-value : goal.returns-clause-value
returns-clause-value c =
    let f : SFits w128 c.scaled_up.result = search rules in
    to_z-of_z w128 c.scaled_up.result f ∙ c.scaled_up.ensures.value ∙ ap (λ z. pos unit *ℤ z) (to_z-of_z w128 c.args.moment c.ranges.moment ∙ c.requires.moment) ∙ sym (moment-scaled c.args.xs.now (length c.args.xs.now))

use Rattle.std.proofs.Common.{◌<◌, ◌≤◌, ◌∙◌, ap, length, option_and_then, rules, sym}
use Rattle.answer_check.specs.Json.{pair_of_items}
use Rattle.answer_check.proofs.Arrays.{long_pair, short_pair}
use Rattle.answer_check.proofs.reading.pair_of.Goals as goal
use Rattle.answer_check.proofs.reading.pair_of.Goals.{in_default-via-then-as_slice-lt2, in_default-via-else-as_slice-lt2+else-this-lt3}

pub returns-in_default : goal.returns-in_default
returns-in_default c =
    let vs = c.in_ok-items.items.now.items in
    let at = ap (option_and_then pair_of_items) (sym c.in_ok-items.ensures) in
    elim c.in_default.branch [
      | in_default-via-then-as_slice-lt2 w ↦
          let below : length c.as_slice.result.now < 2 = search rules in
          sym (at ∙ short_pair vs (rw c.as_slice.ensures.value at below))
      | in_default-via-else-as_slice-lt2+else-this-lt3 w ↦
          let above : 3 ≤ length c.as_slice.result.now = search rules in
          sym (at ∙ long_pair vs (rw c.as_slice.ensures.value at above))
    ]

use Rattle.std.proofs.Common.{ap, sym, ◌∙◌, option_and_then}
use Rattle.answer_check.specs.Json.{row_of_items}
use Rattle.answer_check.proofs.Arrays.{short_row, long_row}
use Rattle.answer_check.proofs.reading.read_row.Goals as goal

pub returns-in_default : goal.returns-in_default
returns-in_default c =
    let below = rw c.as_slice.ensures.value at c.in_default.len_below in
    sym (ap (option_and_then row_of_items) (sym c.in_ok-items.ensures) ∙ short_row c.in_ok-items.items.now.items below)

pub returns-in_default-2 : goal.returns-in_default-2
returns-in_default-2 c =
    let above = rw c.as_slice.ensures.value at c.in_default.len_at_least in
    sym (ap (option_and_then row_of_items) (sym c.in_ok-items.ensures) ∙ long_row c.in_ok-items.items.now.items above)

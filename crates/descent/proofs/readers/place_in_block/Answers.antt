use Rattle.std.proofs.Common.{◌≡◌, ◌+◌, ◌*◌, ◌/◌, ◌%◌, pos, sym, ap, ◌∙◌, arith}
use Rattle.descent.proofs.readers.place_in_block.Goals as goal

pub returns-clause-place : goal.returns-clause-place
returns-clause-place c =
    let n = c.first_place.result in
    let e : n ≡ n % 16 + 16 * (n / 16) = omega arith in
    record { block = n / 16; at = sym c.first_place.ensures ∙ ap pos e }

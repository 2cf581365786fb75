use Rattle.std.proofs.Common.{◌≡◌, min, take}
use Rattle.semantics.specs.Numbers.{number_on}
use Rattle.num_text.proofs.digits.short_number_on.Given as goal

abbrev pub invariant-loop-digit : goal.invariant-loop-digit
invariant-loop-digit l = l.number ≡ min (number_on l.n (take l.digit-index l.digits)) l.limit

-- What is written of a number is read again.
use Rattle.std.proofs.Common.{◌≡◌, ◌≤◌, Some, ℤ, unsigned_abs}
use Rattle.std.specs.Fmt.{signed_decimal}
use Rattle.semantics.specs.Most.{most_number}
use Rattle.semantics.specs.Numbers.{number_in}
use Rattle.semantics.proofs.NumberLaws.{number_in-signed_decimal}

pub read_again : (z : ℤ) → unsigned_abs z ≤ most_number → number_in (signed_decimal z) ≡ Some z
read_again z h = number_in-signed_decimal z h

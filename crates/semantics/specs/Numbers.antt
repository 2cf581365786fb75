-- Whole numbers in text.
use Rattle.std.specs.Prelude.{ℕ, ◌+◌, ◌-◌, ◌*◌, ◌&&◌, ◌==◌, Bool, nat_lt, nat_le, if◌then◌else◌, List, drop, length, fold, slice_index, Option, Some, None, ℤ, pos, neg_ℤ}
use Rattle.std.specs.Char.{is_ascii_digit}
use Rattle.std.specs.List.{list_all}
use Rattle.semantics.specs.Most.{most_number}

-- one or more digits
abbrev pub are_digits : List ℕ → Bool
are_digits text = nat_lt 0 (length text) && list_all is_ascii_digit text

-- the number whose digits are those of n, followed by these
abbrev pub number_on : ℕ → List ℕ → ℕ
number_on n digits = fold (λ m digit. 10 * m + (digit - 48)) n digits

-- the number that digits spell
abbrev pub number_of : List ℕ → ℕ
number_of digits = number_on 0 digits

-- whether a text begins with `-`
abbrev pub has_minus : List ℕ → Bool
has_minus text = slice_index text 0 == 45

-- the text behind a `-`
abbrev pub without_minus : List ℕ → List ℕ
without_minus text = if has_minus text then drop 1 text else text

abbrev pub with_sign : Bool → ℕ → ℤ
with_sign negative n = if negative then neg_ℤ (pos n) else pos n

-- an optional `-`, and one or more digits of a number that is not too large
abbrev pub is_number : List ℕ → Bool
is_number text = are_digits (without_minus text) && nat_le (number_of (without_minus text)) most_number

-- the number that a text is
abbrev pub number_in : List ℕ → Option ℤ
number_in text = if is_number text then Some (with_sign (has_minus text) (number_of (without_minus text))) else None

-- Words, and the numbers in them.
use Rattle.semantics.specs.Most.{most_number, most_shift}
use Rattle.semantics.specs.Numbers.{number_in, number_of, are_digits}
use Rattle.std.specs.Prelude.{ℕ, Bool, List, [], length, Option, Some, None, ◌==◌, ◌&&◌, not, nat_le, if◌then◌else◌, slice_index_or, bytes_eq, ℤ, unsigned_abs}

abbrev pub most_degree : ℕ
most_degree = 2

abbrev pub most_budget : ℕ
most_budget = most_number

abbrev pub most_position : ℕ
most_position = most_shift

-- digits of value at most so much
abbrev pub digits_up_to : ℕ → List ℕ → Option ℕ
digits_up_to most text = if are_digits text && nat_le (number_of text) most then Some (number_of text) else None

-- one digit, of value at most so much
abbrev pub digit_up_to : ℕ → List ℕ → Option ℕ
digit_up_to most text = if length text == 1 then digits_up_to most text else None

-- a number, where its magnitude is at most so much
abbrev pub near_zero : ℕ → Option ℤ → Option ℤ
near_zero most None = None
near_zero most (Some z) = if nat_le (unsigned_abs z) most then Some z else None

-- a number of magnitude at most so much
abbrev pub whole_up_to : ℕ → List ℕ → Option ℤ
whole_up_to most text = near_zero most (number_in text)

abbrev pub word : List (List ℕ) → ℕ → List ℕ
word words i = slice_index_or words i []

-- so many words, of which the first names the command
abbrev pub has_form : List (List ℕ) → List ℕ → ℕ → Bool
has_form words name count = (length words == count) && bytes_eq (word words 0) name

-- a file word isn't empty
abbrev pub is_file : List ℕ → Bool
is_file text = not (length text == 0)

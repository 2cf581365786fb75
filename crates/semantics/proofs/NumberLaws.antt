-- Laws of numbers in text: what is written of a number is read again.
use Rattle.std.proofs.Common.{◌≡◌, ◌≢◌, ℕ, suc, ◌^◌, ◌≤◌, ◌<◌, List, length, get_or, Some, true, false, leb, ltb, ℤ, pos, negsuc, unsigned_abs, refl, ap, ◌∙◌, arith, rules}
use Rattle.std.specs.Char.{is_ascii_digit}
use Rattle.std.specs.List.{list_all}
use Rattle.std.specs.Fmt.{decimal, signed_decimal}
use Rattle.std.proofs.lemmas.Bool.Decides.{nat_tests}
use Rattle.std.proofs.lemmas.Int.{ints}
use Rattle.std.proofs.lemmas.Fmt.{decimal_is_IsNumeral_wide}
use Rattle.std.proofs.lemmas.Str.Parse.{FoldsDigits, IsDigitsTest, IsNumeralModel, digits_value_short, numerals_by_fold, not_in_digits}
use Rattle.semantics.specs.Most.{most_number}
use Rattle.semantics.specs.Numbers.{are_digits, has_minus, number_in, number_of, number_on}

all_digits : IsDigitsTest (λ text. list_all is_ascii_digit text ≡ true)
all_digits = search rules

folds : FoldsDigits number_on
folds = record { empty = λ n. refl; more = λ n c cs h. ap (λ m. number_on m cs) (omega arith) }

-- digits, and the number that they spell, as the library has them
numerals : IsNumeralModel (λ text. list_all is_ascii_digit text ≡ true) number_of
numerals = numerals_by_fold _ all_digits number_on folds

-- the digits that are written of a number
decimal_digits : (n : ℕ) → n < 10 ^ 64 → (0 < length (decimal n)) × (list_all is_ascii_digit (decimal n) ≡ true) × (number_of (decimal n) ≡ n)
decimal_digits n h =
    let facts = decimal_is_IsNumeral_wide n h in
    (facts.0.0, numerals.from (decimal n) facts.0.1, numerals.same (decimal n) facts.0.1 ∙ facts.1)

are_digits-decimal : (n : ℕ) → n < 10 ^ 64 → are_digits (decimal n) ≡ true
are_digits-decimal n h =
    let facts = decimal_digits n h in
    let some : ltb 0 (length (decimal n)) ≡ true = grind (arith, nat_tests, facts.0) in
    rw (some, facts.1) refl

has_minus-decimal : (n : ℕ) → n < 10 ^ 64 → has_minus (decimal n) ≡ false
has_minus-decimal n h =
    let facts = decimal_digits n h in
    let other : get_or (decimal n) 0 0 ≢ 45 = not_in_digits numerals (decimal n) 45 facts.1 (λ r. absurd (omega arith)) 0 facts.0 in
    grind (arith, nat_tests, other)

-- what is written of a number is read again
pub number_in-signed_decimal : (z : ℤ) → unsigned_abs z ≤ most_number → number_in (signed_decimal z) ≡ Some z
number_in-signed_decimal (pos n) h =
    let small : n < 10 ^ 64 = omega arith in
    let within : leb n most_number ≡ true = grind (arith, nat_tests) in
    rw (has_minus-decimal n small, are_digits-decimal n small, (decimal_digits n small).2, within) refl
number_in-signed_decimal (negsuc n) h =
    let small : suc n < 10 ^ 64 = omega (arith, ints) in
    let within : leb (suc n) most_number ≡ true = grind (arith, nat_tests) in
    rw (are_digits-decimal (suc n) small, (decimal_digits (suc n) small).2, within) refl

-- digits spell a number with no more digits
pub number_of-small : (digits : List ℕ) → list_all is_ascii_digit digits ≡ true → number_of digits < 10 ^ length digits
number_of-small digits h = digits_value_short numerals digits (length digits) h (omega arith)

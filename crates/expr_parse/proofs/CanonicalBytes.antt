-- The bytes of a canonical text: letters, digits, `_` and signs.
use Rattle.std.proofs.Common.{◌≡◌, ◌<◌, ◌^◌, ◌++◌, ◌&&◌, ℕ, ℤ, pos, negsuc, suc, Bool, true, false, List, [], ◌∷◌, ◌∙◌, refl, arith, rules}
use Rattle.std.specs.Prelude.{Option, Some, None, codes, length, nat_le, not}
use Rattle.std.specs.Char.{is_ascii_alphabetic, is_ascii_digit}
use Rattle.std.specs.Fmt.{decimal, signed_decimal}
use Rattle.std.specs.List.{list_all}
use Rattle.std.proofs.lemmas.Fmt.{decimal_is_IsNumeral_wide}
use Rattle.std.proofs.lemmas.Int.{ints}
use Rattle.std.proofs.lemmas.List.Folds.{list_all-append}
use Rattle.std.proofs.lemmas.Str.Parse.{IsDigitsTest, IsNumeralModel, numerals_by_value}
use Rattle.std.specs.Str.Parse.{digits_value}
use Rattle.semantics.specs.Names.{begins_with_letter, is_name, is_reserved, is_word_byte}
use Rattle.semantics.specs.Most.{most_word}
use Rattle.semantics.specs.Term.{Term, base, constant, bare, plus, minus, times, shift, Range, QueryTerm, number, sum, variance, covariance, add, sub, mul}
use Rattle.expr_parse.specs.declared.canonical.Level.{Level}
use Rattle.expr_parse.specs.declared.canonical.Level.TheVariants.{OfSum, OfProduct, OfFactor}
use Rattle.expr_parse.specs.Canonical.{canonical_text, closed, ends_text, groups_product, groups_sum, opened, query_text, range_text, series_text}
use Rattle.expr_parse.specs.Printed.{HasMachineConstants, HasMachineEnds, HasMachineNumbers, HasMachineRange, IsMachineNumber, IsNamedQuery, IsNamedSeries, is_query_byte}

-- all bytes are those of a query
record Plain (text : List ℕ) : Type 0 where
  all : list_all is_query_byte text ≡ true

-- a text after another
then_bytes : {xs ys : List ℕ} → Plain xs → Plain ys → Plain (xs ++ ys)
then_bytes {xs = xs} {ys = ys} h k = record { all = list_all-append is_query_byte xs ys ∙ (λ i. h.all i && k.all i) }

word_bytes : (bytes : List ℕ) → list_all is_word_byte bytes ≡ true → list_all is_query_byte bytes ≡ true
word_bytes [] h = refl
word_bytes (c ∷ cs) h = by (is_word_byte c) refl (word_bytes cs) h
  where
    by : (b : Bool) → is_word_byte c ≡ b → (list_all is_word_byte cs ≡ true → list_all is_query_byte cs ≡ true) → b && list_all is_word_byte cs ≡ true
        → list_all is_query_byte (c ∷ cs) ≡ true
    by true e more k = rw e (more k)
    by false e more k = cc k

middle : (a b c d : Bool) → (a && b && c) && d ≡ true → b ≡ true
middle true true c d e = refl
middle true false c d e = cc e
middle false b c d e = cc e

name_bytes : (name : List ℕ) → is_name name ≡ true → Plain name
name_bytes name h =
    record { all = word_bytes name (middle (begins_with_letter name) (list_all is_word_byte name) (nat_le (length name) most_word) (not (is_reserved name)) h) }

digit_bytes : (digits : List ℕ) → list_all is_ascii_digit digits ≡ true → list_all is_query_byte digits ≡ true
digit_bytes [] h = refl
digit_bytes (c ∷ cs) h = by (is_ascii_alphabetic c) (is_ascii_digit c) refl refl (digit_bytes cs) h
  where
    by : (a b : Bool) → is_ascii_alphabetic c ≡ a → is_ascii_digit c ≡ b → (list_all is_ascii_digit cs ≡ true → list_all is_query_byte cs ≡ true)
        → b && list_all is_ascii_digit cs ≡ true → list_all is_query_byte (c ∷ cs) ≡ true
    by true true letter digit more k = rw letter (more k)
    by false true letter digit more k = rw (letter, digit) (more k)
    by a false letter digit more k = cc k

all_digits : IsDigitsTest (λ text. list_all is_ascii_digit text ≡ true)
all_digits = search rules

numerals : IsNumeralModel (λ text. list_all is_ascii_digit text ≡ true) (digits_value 10)
numerals = numerals_by_value _ all_digits

decimal_bytes : (n : ℕ) → n < 10 ^ 64 → list_all is_query_byte (decimal n) ≡ true
decimal_bytes n small = digit_bytes (decimal n) (numerals.from (decimal n) (decimal_is_IsNumeral_wide n small).0.1)

number_bytes : (v : ℤ) → IsMachineNumber v → Plain (signed_decimal v)
number_bytes (pos n) h = record { all = decimal_bytes n (omega arith) }
number_bytes (negsuc n) h = record { all = decimal_bytes (suc n) (omega (arith, ints)) }

opened_bytes : (b : Bool) → Plain (opened b)
opened_bytes true = record { all = refl }
opened_bytes false = record { all = refl }

closed_bytes : (b : Bool) → Plain (closed b)
closed_bytes true = record { all = refl }
closed_bytes false = record { all = refl }

comma : Plain (codes ",")
comma = record { all = refl }

close : Plain (codes ")")
close = record { all = refl }

range_bytes : (range : Range) → HasMachineEnds range → Plain (range_text range)
range_bytes range h =
    then_bytes (then_bytes (then_bytes (then_bytes comma (number_bytes range.left h.0)) comma) (number_bytes range.right h.1)) close

ends_bytes : (range : Option Range) → HasMachineRange range → Plain (ends_text range)
ends_bytes (Some range) h = range_bytes range h
ends_bytes None h = close

-- two operands with a sign between
grouped_bytes : (b : Bool) {xs sign ys : List ℕ} → Plain xs → Plain sign → Plain ys → Plain (opened b ++ xs ++ sign ++ ys ++ closed b)
grouped_bytes b h s k = then_bytes (then_bytes (then_bytes (then_bytes (opened_bytes b) h) s) k) (closed_bytes b)

plus_sign : Plain (codes "+")
plus_sign = record { all = refl }

minus_sign : Plain (codes "-")
minus_sign = record { all = refl }

times_sign : Plain (codes "*")
times_sign = record { all = refl }

series_bytes : (level : Level) (t : Term) → IsNamedSeries t → HasMachineConstants t → Plain (series_text level t)
series_bytes level (base name) named held = name_bytes name named
series_bytes level (bare v) named held = number_bytes v held
series_bytes level (constant v a b) named held =
    let word : Plain (codes "const(") = record { all = refl } in
    then_bytes (then_bytes word (number_bytes v held.0)) (range_bytes (record { left = a; right = b }) (held.1, held.2))
series_bytes level (shift u k) named held =
    let word : Plain (codes "shift(") = record { all = refl } in
    then_bytes (then_bytes (then_bytes (then_bytes word (series_bytes OfSum u named held.0)) comma) (number_bytes k held.1)) close
series_bytes level (plus u v) named held =
    grouped_bytes (groups_sum level) (series_bytes OfSum u named.0 held.0) plus_sign (series_bytes OfProduct v named.1 held.1)
series_bytes level (minus u v) named held =
    grouped_bytes (groups_sum level) (series_bytes OfSum u named.0 held.0) minus_sign (series_bytes OfProduct v named.1 held.1)
series_bytes level (times u v) named held =
    grouped_bytes (groups_product level) (series_bytes OfProduct u named.0 held.0) times_sign (series_bytes OfFactor v named.1 held.1)

query_bytes : (level : Level) (q : QueryTerm) → IsNamedQuery q → HasMachineNumbers q → Plain (query_text level q)
query_bytes level (number v) named held = number_bytes v held
query_bytes level (sum t range) named held =
    let word : Plain (codes "sum(") = record { all = refl } in
    then_bytes (then_bytes word (series_bytes OfSum t named held.0)) (ends_bytes range held.1)
query_bytes level (variance t range) named held =
    let word : Plain (codes "varnum(") = record { all = refl } in
    then_bytes (then_bytes word (series_bytes OfSum t named held.0)) (range_bytes range held.1)
query_bytes level (covariance t u range) named held =
    let word : Plain (codes "covnum(") = record { all = refl } in
    then_bytes (then_bytes (then_bytes (then_bytes word (series_bytes OfSum t named.0 held.0)) comma) (series_bytes OfSum u named.1 held.1)) (range_bytes range held.2)
query_bytes level (add p q) named held =
    grouped_bytes (groups_sum level) (query_bytes OfSum p named.0 held.0) plus_sign (query_bytes OfProduct q named.1 held.1)
query_bytes level (sub p q) named held =
    grouped_bytes (groups_sum level) (query_bytes OfSum p named.0 held.0) minus_sign (query_bytes OfProduct q named.1 held.1)
query_bytes level (mul p q) named held =
    grouped_bytes (groups_product level) (query_bytes OfProduct p named.0 held.0) times_sign (query_bytes OfFactor q named.1 held.1)

pub canonical_bytes : (q : QueryTerm) → IsNamedQuery q → HasMachineNumbers q → list_all is_query_byte (canonical_text q) ≡ true
canonical_bytes q named held = (query_bytes OfSum q named held).all

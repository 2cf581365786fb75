-- The canonical text of a query has its canonical tokens.
use Rattle.std.proofs.Common.{◌≡◌, ◌≤◌, ◌<◌, ◌+◌, ℕ, suc, ℤ, pos, negsuc, Bool, true, false, cond, leb, List, [], ◌∷◌, ◌++◌, length, take, drop, map, ◌∙◌, refl, sym, ap, append_assoc, arith, rules}
use Rattle.std.specs.Prelude.{codes, not, Option, Some, None, Ok, ◌&&◌}
use Rattle.std.specs.Char.{is_ascii_alphabetic, is_ascii_digit}
use Rattle.std.specs.Fmt.{decimal, signed_decimal}
use Rattle.std.specs.List.{list_all, prefix_len}
use Rattle.std.proofs.lemmas.Bool.Decides.{nat_tests}
use Rattle.std.proofs.lemmas.Fmt.{decimal_is_IsNumeral_wide}
use Rattle.std.proofs.lemmas.Int.{ints}
use Rattle.std.proofs.lemmas.List.{append-nil}
use Rattle.num_text.specs.Cells.{is_blank}
use Rattle.semantics.specs.Limits.{HasSmallConstants, HasSmallNumbers, IsNear, IsNearQuery, IsNearRange, IsNearSeries, IsSmall}
use Rattle.semantics.specs.Names.{begins_with_letter, is_name, is_reserved, is_word, is_word_byte}
use Rattle.semantics.specs.Most.{most_number}
use Rattle.semantics.specs.Numbers.{has_minus, is_number, number_in, number_of, with_sign, without_minus}
use Rattle.semantics.specs.Term as t
use Rattle.semantics.specs.Term.{Term, Range, QueryTerm}
use Rattle.semantics.proofs.NumberLaws.{number_in-signed_decimal}
use Rattle.std.specs.Str.Parse.{AllDigits}
use Rattle.std.proofs.lemmas.Str.Parse.{numerals_by_value, IsDigitsTest, IsNumeralModel}
use Rattle.std.specs.Str.Parse.{digits_value}
use Rattle.expr_parse.specs.declared.canonical.Level.{Level}
use Rattle.expr_parse.specs.declared.canonical.Level.TheVariants.{OfSum, OfProduct, OfFactor}
use Rattle.expr_parse.specs.declared.lexeme.Lexeme.{Lexeme}
use Rattle.expr_parse.specs.declared.lexeme.Lexeme.TheVariants.{Number, Named, Sum, VarNum, CovNum, Const, Shift, Open, Close, Comma, Plus, Minus, Times}
use Rattle.expr_parse.specs.declared.token.Kind.{Kind}
use Rattle.expr_parse.specs.declared.token.Kind.TheVariants as kind
use Rattle.expr_parse.specs.declared.token.Token.{Token}
use Rattle.expr_parse.specs.Canonical.{canonical_text, closed, ends_text, groups_product, groups_sum, opened, query_text, range_text, series_text}
use Rattle.expr_parse.specs.Lexemes.{lexeme_of, lexeme_of_bytes, magnitude_in, word_lexeme}
use Rattle.expr_parse.specs.Printed.{IsNamedQuery, IsNamedSeries}
use Rattle.expr_parse.specs.Tokens.{before, front, number_of_length, tokens_from, word_of_length}
use Rattle.expr_parse.proofs.CanonicalTokens.{ends_tokens, grouped_tokens, number_tokens, query_tokens, range_tokens, series_tokens}
use Rattle.expr_parse.proofs.Scanned.{drop_behind, lexeme_is, scan_token_at}

-- ---- what a text says

-- the tokens of the text at a place of a whole one, and that they say this
pub record IsSaid (whole : List ℕ) (place : ℕ) (text : List ℕ) (said : List Lexeme) : Type 0 where
  pub tokens : List Token
  pub are : tokens_from 0 place text ≡ Ok tokens
  pub say : map (lexeme_of whole) tokens ≡ said

-- a text says this wherever it is the end of a whole one
pub record Says (text : List ℕ) (said : List Lexeme) : Type 0 where
  pub at : (whole : List ℕ) (place : ℕ) → drop place whole ≡ text → IsSaid whole place text said

says_nothing : Says [] []
says_nothing = record { at = λ whole place e. record { tokens = []; are = refl; say = refl } }

take_front : (xs ys : List ℕ) → take (length xs) (xs ++ ys) ≡ xs
take_front [] ys = refl
take_front (x ∷ xs) ys = ap (λ zs. x ∷ zs) (take_front xs ys)

drop_front : (xs ys : List ℕ) → drop (length xs) (xs ++ ys) ≡ ys
drop_front [] ys = refl
drop_front (x ∷ xs) ys = drop_front xs ys

length_front : (xs ys : List ℕ) → length xs ≤ length (xs ++ ys)
length_front [] ys = omega arith
length_front (x ∷ xs) ys = omega (arith, length_front xs ys)

-- one more token
says_more : (c : ℕ) (cs rest : List ℕ) (k : Kind) (said : List Lexeme) → is_blank c ≡ false → front (c ∷ cs ++ rest) ≡ Some (k, length (c ∷ cs)) → Says rest said → Says (c ∷ cs ++ rest) (lexeme_of_bytes k (c ∷ cs) ∷ said)
says_more c cs rest k said b f says = record {
  at = λ whole place e.
      let n : ℕ = length (c ∷ cs) in
      let token : Token = record { kind = k; from = place; to = place + n } in
      let behind : drop (place + n) whole ≡ rest = sym (drop_behind place n whole) ∙ ap (drop n) e ∙ drop_front (c ∷ cs) rest in
      let r = says.at whole (place + n) behind in
      let step = scan_token_at (c ∷ cs ++ rest) c (cs ++ rest) place n k refl b f (omega arith) (length_front (c ∷ cs) rest) in
      record {
        tokens = token ∷ r.tokens;
        are = step ∙ ap (λ x. before token (tokens_from 0 (place + n) x)) (drop_front (c ∷ cs) rest) ∙ ap (before token) r.are;
        say = λ i. sym (lexeme_is whole (c ∷ cs ++ rest) (c ∷ cs) k place n (lexeme_of_bytes k (c ∷ cs)) refl (sym (take_front (c ∷ cs) rest)) (sym e)) i ∷ r.say i;
      };
}

-- ---- signs

says_open : (rest : List ℕ) (said : List Lexeme) → Says rest said → Says (40 ∷ rest) (Open ∷ said)
unfolding front
says_open rest said h = says_more 40 [] rest kind.Sign said refl refl h

says_close : (rest : List ℕ) (said : List Lexeme) → Says rest said → Says (41 ∷ rest) (Close ∷ said)
unfolding front
says_close rest said h = says_more 41 [] rest kind.Sign said refl refl h

says_comma : (rest : List ℕ) (said : List Lexeme) → Says rest said → Says (44 ∷ rest) (Comma ∷ said)
unfolding front
says_comma rest said h = says_more 44 [] rest kind.Sign said refl refl h

says_plus : (rest : List ℕ) (said : List Lexeme) → Says rest said → Says (43 ∷ rest) (Plus ∷ said)
unfolding front
says_plus rest said h = says_more 43 [] rest kind.Sign said refl refl h

says_minus : (rest : List ℕ) (said : List Lexeme) → Says rest said → Says (45 ∷ rest) (Minus ∷ said)
unfolding front
says_minus rest said h = says_more 45 [] rest kind.Sign said refl refl h

says_times : (rest : List ℕ) (said : List Lexeme) → Says rest said → Says (42 ∷ rest) (Times ∷ said)
unfolding front
says_times rest said h = says_more 42 [] rest kind.Sign said refl refl h

-- ---- words and numbers

-- a word or a number that stands before the text is not longer for it
abbrev is_apart : List ℕ → Bool
is_apart [] = true
is_apart (c ∷ cs) = not (is_word_byte c)

says_sum : (rest : List ℕ) (said : List Lexeme) → Says rest said → Says (codes "sum(" ++ rest) (Sum ∷ Open ∷ said)
unfolding front
says_sum rest said h = says_more 115 (codes "um") (40 ∷ rest) kind.Word (Open ∷ said) refl refl (says_open rest said h)

says_varnum : (rest : List ℕ) (said : List Lexeme) → Says rest said → Says (codes "varnum(" ++ rest) (VarNum ∷ Open ∷ said)
unfolding front
says_varnum rest said h = says_more 118 (codes "arnum") (40 ∷ rest) kind.Word (Open ∷ said) refl refl (says_open rest said h)

says_covnum : (rest : List ℕ) (said : List Lexeme) → Says rest said → Says (codes "covnum(" ++ rest) (CovNum ∷ Open ∷ said)
unfolding front
says_covnum rest said h = says_more 99 (codes "ovnum") (40 ∷ rest) kind.Word (Open ∷ said) refl refl (says_open rest said h)

says_const : (rest : List ℕ) (said : List Lexeme) → Says rest said → Says (codes "const(" ++ rest) (Const ∷ Open ∷ said)
unfolding front
says_const rest said h = says_more 99 (codes "onst") (40 ∷ rest) kind.Word (Open ∷ said) refl refl (says_open rest said h)

says_shift : (rest : List ℕ) (said : List Lexeme) → Says rest said → Says (codes "shift(" ++ rest) (Shift ∷ Open ∷ said)
unfolding front
says_shift rest said h = says_more 115 (codes "hift") (40 ∷ rest) kind.Word (Open ∷ said) refl refl (says_open rest said h)

left_true : (a b : Bool) → a && b ≡ true → a ≡ true
left_true true b h = refl
left_true false b h = h

right_true : (a b : Bool) → a && b ≡ true → b ≡ true
right_true true b h = h
right_true false b h = let e : false ≡ true = h in cc e

-- all of a text passes and the one behind it doesn't
prefix_all : (p : ℕ → Bool) (xs ys : List ℕ) → list_all p xs ≡ true → prefix_len p ys ≡ 0 → prefix_len p (xs ++ ys) ≡ length xs
prefix_all p [] ys h k = k
prefix_all p (x ∷ xs) ys h k =
    let one : p x ≡ true = left_true (p x) (list_all p xs) h in
    let more : 1 + prefix_len p (xs ++ ys) ≡ suc (length xs) = omega (arith, prefix_all p xs ys (right_true (p x) (list_all p xs) h) k) in
    rw one more

word_ends : (ys : List ℕ) → is_apart ys ≡ true → prefix_len is_word_byte ys ≡ 0
word_ends [] h = refl
word_ends (y ∷ ys) h = by (is_word_byte y) h
  where
    by : (b : Bool) → not b ≡ true → cond b (1 + prefix_len is_word_byte ys) 0 ≡ 0
    by true e = let f : false ≡ true = e in cc f
    by false e = refl

not_true : (b : Bool) → not b ≡ true → b ≡ false
not_true true h = let e : false ≡ true = h in cc e
not_true false h = refl

digits_end : (ys : List ℕ) → is_apart ys ≡ true → prefix_len is_ascii_digit ys ≡ 0
digits_end [] h = refl
digits_end (y ∷ ys) h =
    let other : is_ascii_digit y ≡ false = grind (arith, nat_tests, not_true (is_word_byte y) h) in
    rw other refl

digit_is : (c : ℕ) → is_ascii_digit c ≡ true → (is_blank c ≡ false) × (is_ascii_alphabetic c ≡ false)
digit_is c h = (grind (arith, nat_tests), grind (arith, nat_tests))

letter_is : (c : ℕ) → is_ascii_alphabetic c ≡ true → is_blank c ≡ false
letter_is c h = grind (arith, nat_tests)

choose_second : (a b : Bool) (x y z : Option (Kind × ℕ)) → a ≡ false → b ≡ true → cond a x (cond b y z) ≡ y
choose_second a b x y z e f = rw (e, f) refl

number_front : (c : ℕ) (cs rest : List ℕ) → list_all is_ascii_digit (c ∷ cs) ≡ true → is_number (c ∷ cs) ≡ true → is_apart rest ≡ true → front (c ∷ cs ++ rest) ≡ Some (kind.Number, length (c ∷ cs))
unfolding front
number_front c cs rest digits number apart =
    let digit : is_ascii_digit c ≡ true = left_true (is_ascii_digit c) (list_all is_ascii_digit cs) digits in
    let chosen : front (c ∷ cs ++ rest) ≡ number_of_length (c ∷ cs ++ rest) (prefix_len is_ascii_digit (c ∷ cs ++ rest)) = choose_second _ _ _ _ _ (digit_is c digit).1 digit in
    let all : prefix_len is_ascii_digit (c ∷ cs ++ rest) ≡ length (c ∷ cs) = prefix_all is_ascii_digit (c ∷ cs) rest digits (digits_end rest apart) in
    let is : is_number (take (length (c ∷ cs)) (c ∷ cs ++ rest)) ≡ true = ap is_number (take_front (c ∷ cs) rest) ∙ number in
    chosen ∙ ap (number_of_length (c ∷ cs ++ rest)) all ∙ rw is (refl {a = Some (kind.Number, length (c ∷ cs))})

-- a letter, all word bytes, at most 32
word_parts : (c : ℕ) (cs : List ℕ) → is_word (c ∷ cs) ≡ true → (is_ascii_alphabetic c ≡ true) × (list_all is_word_byte (c ∷ cs) ≡ true) × (leb (length (c ∷ cs)) 32 ≡ true)
word_parts c cs h =
    let front_of = left_true (begins_with_letter (c ∷ cs) && list_all is_word_byte (c ∷ cs)) (leb (length (c ∷ cs)) 32) h in (
      left_true (is_ascii_alphabetic c) (list_all is_word_byte (c ∷ cs)) front_of,
      right_true (is_ascii_alphabetic c) (list_all is_word_byte (c ∷ cs)) front_of,
      right_true (begins_with_letter (c ∷ cs) && list_all is_word_byte (c ∷ cs)) (leb (length (c ∷ cs)) 32) h,
    )

word_front : (c : ℕ) (cs rest : List ℕ) → is_word (c ∷ cs) ≡ true → is_apart rest ≡ true → front (c ∷ cs ++ rest) ≡ Some (kind.Word, length (c ∷ cs))
unfolding front
word_front c cs rest word apart =
    let parts = word_parts c cs word in
    let all : prefix_len is_word_byte (c ∷ cs ++ rest) ≡ length (c ∷ cs) = prefix_all is_word_byte (c ∷ cs) rest parts.1 (word_ends rest apart) in
    let chosen : front (c ∷ cs ++ rest) ≡ word_of_length (prefix_len is_word_byte (c ∷ cs ++ rest)) = rw parts.0 refl in
    chosen ∙ ap word_of_length all ∙ rw parts.2 refl

says_name : (name rest : List ℕ) (said : List Lexeme) → is_name name ≡ true → is_apart rest ≡ true → Says rest said → Says (name ++ rest) (Named name ∷ said)
says_name [] rest said is apart h = let e : false ≡ true = is in cc e
says_name (c ∷ cs) rest said is apart h =
    let word : is_word (c ∷ cs) ≡ true = left_true (is_word (c ∷ cs)) (not (is_reserved (c ∷ cs))) is in
    let letter : is_ascii_alphabetic c ≡ true = (word_parts c cs word).0 in
    let named : word_lexeme (c ∷ cs) ≡ Named (c ∷ cs) = rw is refl in
    let r = says_more c cs rest kind.Word said (letter_is c letter) (word_front c cs rest word apart) h in
    rw named at r

-- whether a text is a number, from its value
is_number_from : (text : List ℕ) (v : ℤ) → number_in text ≡ Some v → is_number text ≡ true
is_number_from text v h = by (is_number text) h
  where
    by : (b : Bool) → cond b (Some (with_sign (has_minus text) (number_of (without_minus text)))) None ≡ Some v → b ≡ true
    by true e = refl
    by false e = cc e

says_digits : (digits rest : List ℕ) (n : ℕ) (said : List Lexeme) → 0 < length digits → list_all is_ascii_digit digits ≡ true → number_in digits ≡ Some (pos n) → is_apart rest ≡ true → Says rest said → Says (digits ++ rest) (Number n ∷ said)
says_digits [] rest n said some digits number apart h = absurd (omega arith)
says_digits (c ∷ cs) rest n said some digits number apart h =
    let digit : is_ascii_digit c ≡ true = left_true (is_ascii_digit c) (list_all is_ascii_digit cs) digits in
    let value : magnitude_in (c ∷ cs) ≡ n = rw (number, magnitude_in) refl in
    let r = says_more c cs rest kind.Number said (digit_is c digit).0 (number_front c cs rest digits (is_number_from (c ∷ cs) (pos n) number) apart) h in
    rw value at r

all_digits : IsDigitsTest (λ text. list_all is_ascii_digit text ≡ true)
all_digits = search rules

numerals : IsNumeralModel (λ text. list_all is_ascii_digit text ≡ true) (digits_value 10)
numerals = numerals_by_value _ all_digits

digits_of_numeral : (digits : List ℕ) → AllDigits 10 digits → list_all is_ascii_digit digits ≡ true
digits_of_numeral digits h = numerals.from digits h

says_number : (n : ℕ) (rest : List ℕ) (said : List Lexeme) → n ≤ most_number → is_apart rest ≡ true → Says rest said → Says (decimal n ++ rest) (Number n ∷ said)
says_number n rest said small apart h =
    let facts = (decimal_is_IsNumeral_wide n (omega arith)).0 in
    says_digits (decimal n) rest n said facts.0 (digits_of_numeral (decimal n) facts.1) (number_in-signed_decimal (pos n) small) apart h

says_signed : (v : ℤ) (rest : List ℕ) (said : List Lexeme) → IsSmall v → is_apart rest ≡ true → Says rest said → Says (signed_decimal v ++ rest) (number_tokens v said)
says_signed (pos n) rest said small apart h = says_number n rest said small apart h
says_signed (negsuc n) rest said small apart h = says_minus (decimal (suc n) ++ rest) (Number (suc n) ∷ said) (says_number (suc n) rest said (omega (arith, ints)) apart h)

near_small : (v : ℤ) → IsNear v → IsSmall v
near_small v h = omega arith

-- ---- texts put together

behind : (a b rest : List ℕ) (said : List Lexeme) → Says (a ++ (b ++ rest)) said → Says ((a ++ b) ++ rest) said
behind a b rest said h = rw (append_assoc a b rest) h

behind_four : (a b c d rest : List ℕ) (said : List Lexeme) → Says (a ++ (b ++ (c ++ (d ++ rest)))) said → Says ((a ++ b ++ c ++ d) ++ rest) said
behind_four a b c d rest said h = rw (append_assoc (a ++ b ++ c) d rest, append_assoc (a ++ b) c (d ++ rest), append_assoc a b (c ++ (d ++ rest))) h

says_range : (b : Range) (rest : List ℕ) (said : List Lexeme) → IsNearRange (Some b) → Says rest said → Says (range_text b ++ rest) (range_tokens b said)
says_range b rest said near h =
    let last = says_signed b.right (41 ∷ rest) (Close ∷ said) (near_small b.right near.1) refl (says_close rest said h) in
    let first = says_signed b.left (44 ∷ (signed_decimal b.right ++ 41 ∷ rest)) (Comma ∷ number_tokens b.right (Close ∷ said)) (near_small b.left near.0) refl (says_comma _ _ last) in
    says_comma _ _ (behind_four (signed_decimal b.left) (codes ",") (signed_decimal b.right) (codes ")") rest _ first)

-- a text says these tokens before whatever is apart from it
record Speaks (text : List ℕ) (said : List Lexeme → List Lexeme) : Type 0 where
  pub before : (rest : List ℕ) (ls : List Lexeme) → is_apart rest ≡ true → Says rest ls → Says (text ++ rest) (said ls)

operator_speaks : (b : Bool) (u v : List ℕ) (f g : List Lexeme → List Lexeme) (sign : ℕ) (l : Lexeme) → is_word_byte sign ≡ false
    → ((rest : List ℕ) (ls : List Lexeme) → Says rest ls → Says (sign ∷ rest) (l ∷ ls)) → Speaks u f → Speaks v g
    → Speaks (opened b ++ u ++ (sign ∷ []) ++ v ++ closed b) (grouped_tokens b (λ r. f (l ∷ g r)))
operator_speaks true u v f g sign l other says left right = record {
  before = λ rest ls apart h.
      let last = right.before (41 ∷ rest) (Close ∷ ls) refl (says_close rest ls h) in
      let first = left.before (sign ∷ (v ++ 41 ∷ rest)) (l ∷ g (Close ∷ ls)) (rw other refl) (says _ _ last) in
      says_open _ _ (behind_four u (sign ∷ []) v (codes ")") rest _ first);
}
operator_speaks false u v f g sign l other says left right = record {
  before = λ rest ls apart h.
      let first = left.before (sign ∷ (v ++ rest)) (l ∷ g ls) (rw other refl) (says _ _ (right.before rest ls apart h)) in
      behind_four u (sign ∷ []) v [] rest _ first;
}

series_speaks : (level : Level) (u : Term) → IsNamedSeries u → IsNearSeries u → HasSmallConstants u → Speaks (series_text level u) (series_tokens level u)
series_speaks level (t.base n) named near small = record { before = λ rest ls apart h. says_name n rest ls named apart h }
series_speaks level (t.bare v) named near small = record { before = λ rest ls apart h. says_signed v rest ls small apart h }
series_speaks level (t.constant v a b) named near small =
    let ends : Range = record { left = a; right = b } in
    record { before = λ rest ls apart h. says_const _ _ (behind (signed_decimal v) (range_text ends) rest _ (says_signed v (range_text ends ++ rest) (range_tokens ends ls) small refl (says_range ends rest ls near h))) }
series_speaks level (t.shift u k) named near small =
    let inner = series_speaks OfSum u named near.0 small in
    record {
      before = λ rest ls apart h.
          let last = says_signed k (41 ∷ rest) (Close ∷ ls) (near_small k near.1) refl (says_close rest ls h) in
          let first = inner.before (44 ∷ (signed_decimal k ++ 41 ∷ rest)) (Comma ∷ number_tokens k (Close ∷ ls)) refl (says_comma _ _ last) in
          says_shift _ _ (behind_four (series_text OfSum u) (codes ",") (signed_decimal k) (codes ")") rest _ first);
    }
series_speaks level (t.plus u v) named near small = operator_speaks (groups_sum level) _ _ _ _ 43 Plus refl says_plus (series_speaks OfSum u named.0 near.0 small.0) (series_speaks OfProduct v named.1 near.1 small.1)
series_speaks level (t.minus u v) named near small = operator_speaks (groups_sum level) _ _ _ _ 45 Minus refl says_minus (series_speaks OfSum u named.0 near.0 small.0) (series_speaks OfProduct v named.1 near.1 small.1)
series_speaks level (t.times u v) named near small = operator_speaks (groups_product level) _ _ _ _ 42 Times refl says_times (series_speaks OfProduct u named.0 near.0 small.0) (series_speaks OfFactor v named.1 near.1 small.1)

ends_apart : (b : Option Range) (rest : List ℕ) → is_apart (ends_text b ++ rest) ≡ true
ends_apart (Some b) rest = refl
ends_apart None rest = refl

says_ends : (b : Option Range) (rest : List ℕ) (said : List Lexeme) → IsNearRange b → Says rest said → Says (ends_text b ++ rest) (ends_tokens b said)
says_ends (Some b) rest said near h = says_range b rest said near h
says_ends None rest said near h = says_close rest said h

query_speaks : (level : Level) (q : QueryTerm) → IsNamedQuery q → IsNearQuery q → HasSmallNumbers q → Speaks (query_text level q) (query_tokens level q)
query_speaks level (t.number v) named near small = record { before = λ rest ls apart h. says_signed v rest ls small apart h }
query_speaks level (t.sum u b) named near small =
    let inner = series_speaks OfSum u named near.0 small in
    record { before = λ rest ls apart h. says_sum _ _ (behind (series_text OfSum u) (ends_text b) rest _ (inner.before (ends_text b ++ rest) (ends_tokens b ls) (ends_apart b rest) (says_ends b rest ls near.1 h))) }
query_speaks level (t.variance u b) named near small =
    let inner = series_speaks OfSum u named near.0 small in
    record { before = λ rest ls apart h. says_varnum _ _ (behind (series_text OfSum u) (range_text b) rest _ (inner.before (range_text b ++ rest) (range_tokens b ls) refl (says_range b rest ls near.1 h))) }
query_speaks level (t.covariance u v b) named near small =
    let first = series_speaks OfSum u named.0 near.0 small.0 in
    let second = series_speaks OfSum v named.1 near.1 small.1 in
    record {
      before = λ rest ls apart h.
          let last = second.before (range_text b ++ rest) (range_tokens b ls) refl (says_range b rest ls near.2 h) in
          let whole = first.before (44 ∷ (series_text OfSum v ++ (range_text b ++ rest))) (Comma ∷ series_tokens OfSum v (range_tokens b ls)) refl (says_comma _ _ last) in
          says_covnum _ _ (behind_four (series_text OfSum u) (codes ",") (series_text OfSum v) (range_text b) rest _ whole);
    }
query_speaks level (t.add p q) named near small = operator_speaks (groups_sum level) _ _ _ _ 43 Plus refl says_plus (query_speaks OfSum p named.0 near.0 small.0) (query_speaks OfProduct q named.1 near.1 small.1)
query_speaks level (t.sub p q) named near small = operator_speaks (groups_sum level) _ _ _ _ 45 Minus refl says_minus (query_speaks OfSum p named.0 near.0 small.0) (query_speaks OfProduct q named.1 near.1 small.1)
query_speaks level (t.mul p q) named near small = operator_speaks (groups_product level) _ _ _ _ 42 Times refl says_times (query_speaks OfProduct p named.0 near.0 small.0) (query_speaks OfFactor q named.1 near.1 small.1)

-- a whole text
pub canonical_said : (q : QueryTerm) → IsNamedQuery q → IsNearQuery q → HasSmallNumbers q → IsSaid (canonical_text q) 0 (canonical_text q) (query_tokens OfSum q [])
canonical_said q named near small =
    let text : List ℕ = canonical_text q in
    let says : Says text (query_tokens OfSum q []) = rw (append-nil text) at ((query_speaks OfSum q named near small).before [] [] refl says_nothing) in
    says.at text 0 refl

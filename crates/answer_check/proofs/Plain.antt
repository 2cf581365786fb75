-- Bytes of names, numbers and queries: JSON writes each as itself.
use Rattle.std.proofs.Common.{◌≡◌, ◌<◌, ◌≤◌, ◌&&◌, ℕ, ℤ, pos, Bool, true, false, List, [], ◌∷◌, length, refl, arith}
use Rattle.std.specs.Prelude.{nat_le, not}
use Rattle.std.specs.Fmt.{decimal, signed_decimal}
use Rattle.std.specs.List.{All, list_all}
use Rattle.std.specs.Str.{IsAscii}
use Rattle.std.proofs.lemmas.Bool.Decides.{nat_tests}
use Rattle.std.proofs.lemmas.List.Elements.{All-nil, All-cons}
use Rattle.std.proofs.lemmas.Str.Ascii.{IsAscii-from_all}
use Rattle.json.specs.Print.{escape, escape_byte}
use Rattle.semantics.specs.Most.{most_number, most_word}
use Rattle.semantics.specs.Names.{begins_with_letter, is_name, is_reserved, is_word_byte}
use Rattle.semantics.specs.Term.{number}
use Rattle.expr_parse.specs.Printed.{IsMachineNumber, is_query_byte}
use Rattle.expr_parse.proofs.CanonicalBytes.{canonical_bytes}

-- a byte of a query is written as itself
byte_as_itself : (x : ℕ) → is_query_byte x ≡ true → escape_byte x ≡ x ∷ []
unfolding escape_byte
byte_as_itself x h = grind (arith, nat_tests, h)

byte_below : (x : ℕ) → is_query_byte x ≡ true → x < 128
byte_below x h = grind (arith, nat_tests, h)

pub escape_plain : (xs : List ℕ) → list_all is_query_byte xs ≡ true → escape xs ≡ xs
escape_plain [] h = refl
escape_plain (x ∷ xs) h = by (is_query_byte x) refl (escape_plain xs) h
  where
    by : (b : Bool) → is_query_byte x ≡ b → (list_all is_query_byte xs ≡ true → escape xs ≡ xs) → b && list_all is_query_byte xs ≡ true → escape (x ∷ xs) ≡ x ∷ xs
    by true e more k = rw (byte_as_itself x e, more k) refl
    by false e more k = cc k

all_below : (xs : List ℕ) → list_all is_query_byte xs ≡ true → All (λ b. b < 128) xs
all_below [] h = All-nil (λ b. b < 128)
all_below (x ∷ xs) h = by (is_query_byte x) refl (all_below xs) h
  where
    by : (b : Bool) → is_query_byte x ≡ b → (list_all is_query_byte xs ≡ true → All (λ b. b < 128) xs) → b && list_all is_query_byte xs ≡ true → All (λ b. b < 128) (x ∷ xs)
    by true e more k = All-cons (λ b. b < 128) x xs (byte_below x e) (more k)
    by false e more k = cc k

pub plain_is_ascii : (xs : List ℕ) → list_all is_query_byte xs ≡ true → IsAscii xs
plain_is_ascii xs h = IsAscii-from_all xs (all_below xs h)

word_bytes : (bytes : List ℕ) → list_all is_word_byte bytes ≡ true → list_all is_query_byte bytes ≡ true
word_bytes [] h = refl
word_bytes (c ∷ cs) h = by (is_word_byte c) refl (word_bytes cs) h
  where
    by : (b : Bool) → is_word_byte c ≡ b → (list_all is_word_byte cs ≡ true → list_all is_query_byte cs ≡ true) → b && list_all is_word_byte cs ≡ true
        → list_all is_query_byte (c ∷ cs) ≡ true
    by true e more k = rw e (more k)
    by false e more k = cc k

middle : (a b c d : Bool) → (a && b && c) && d ≡ true → b ≡ true
middle true true c d e = refl
middle true false c d e = cc e
middle false b c d e = cc e

pub name_is_plain : (name : List ℕ) → is_name name ≡ true → list_all is_query_byte name ≡ true
name_is_plain name h = word_bytes name (middle (begins_with_letter name) (list_all is_word_byte name) (nat_le (length name) most_word) (not (is_reserved name)) h)

pub name_is_ascii : (name : List ℕ) → is_name name ≡ true → IsAscii name
name_is_ascii name h = plain_is_ascii name (name_is_plain name h)

pub number_is_plain : (v : ℤ) → IsMachineNumber v → list_all is_query_byte (signed_decimal v) ≡ true
number_is_plain v h = canonical_bytes (number v) tt h

pub digits_are_plain : (n : ℕ) → n ≤ most_number → list_all is_query_byte (decimal n) ≡ true
digits_are_plain n h = number_is_plain (pos n) (omega arith)

-- A name is text.
use Rattle.std.proofs.Common.{◌≡◌, ℕ, zero, suc, ◌<◌, Bool, true, false, List, [], ◌∷◌, refl, arith}
use Rattle.std.specs.Prelude.{◌&&◌, not, nat_le, length}
use Rattle.std.specs.List.{list_all}
use Rattle.std.specs.Str.{IsAscii, IsUtf8}
use Rattle.std.proofs.lemmas.Bool.Decides.{nat_tests}
use Rattle.std.proofs.lemmas.Str.{IsUtf8-from_ascii}
use Rattle.semantics.specs.Names.{is_name, is_word, is_word_byte, is_reserved, begins_with_letter}

and-left : (a b : Bool) → (a && b) ≡ true → a ≡ true
and-left true b h = refl
and-left false b h = h

and-right : (a b : Bool) → (a && b) ≡ true → b ≡ true
and-right true b h = h
and-right false b h = cc

word_byte-ascii : (c : ℕ) → is_word_byte c ≡ true → c < 128
word_byte-ascii c h = grind (arith, nat_tests)

words-ascii : (bytes : List ℕ) → list_all is_word_byte bytes ≡ true → IsAscii bytes
words-ascii [] h i = omega arith
words-ascii (c ∷ cs) h zero = word_byte-ascii c (and-left (is_word_byte c) (list_all is_word_byte cs) h)
words-ascii (c ∷ cs) h (suc i) = words-ascii cs (and-right (is_word_byte c) (list_all is_word_byte cs) h) i

pub name-utf8 : (bytes : List ℕ) → is_name bytes ≡ true → IsUtf8 bytes
name-utf8 bytes h =
    let word : is_word bytes ≡ true = and-left (is_word bytes) (not (is_reserved bytes)) h in
    let inner : (begins_with_letter bytes && list_all is_word_byte bytes) ≡ true = and-left (begins_with_letter bytes && list_all is_word_byte bytes) (nat_le (length bytes) 32) word in
    IsUtf8-from_ascii bytes (words-ascii bytes (and-right (begins_with_letter bytes) (list_all is_word_byte bytes) inner))

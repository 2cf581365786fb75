-- The names of series.
use Rattle.std.specs.Prelude.{ℕ, Bool, false, ◌&&◌, ◌||◌, not, List, [], ◌∷◌, length, codes, nat_eq, nat_le}
use Rattle.std.specs.Char.{is_ascii_alphabetic, is_ascii_digit}
use Rattle.std.specs.List.{list_all, list_any}
use Rattle.std.specs.Str.{bytes_eq}
use Rattle.semantics.specs.Most.{most_word}

-- whether two names have the same bytes
abbrev pub same_name : List ℕ → List ℕ → Bool
same_name = bytes_eq

-- a letter, a digit or `_`
abbrev pub is_word_byte : ℕ → Bool
is_word_byte c = is_ascii_alphabetic c || is_ascii_digit c || nat_eq c 95

abbrev pub begins_with_letter : List ℕ → Bool
begins_with_letter [] = false
begins_with_letter (c ∷ cs) = is_ascii_alphabetic c

-- a letter, and then letters, digits and `_`, no more than a word may have
abbrev pub is_word : List ℕ → Bool
is_word bytes = begins_with_letter bytes && list_all is_word_byte bytes && nat_le (length bytes) most_word

-- the words that a query has a use for
abbrev pub reserved_words : List (List ℕ)
reserved_words = codes "sum" ∷ codes "varnum" ∷ codes "covnum" ∷ codes "const" ∷ codes "shift" ∷ []

abbrev pub is_reserved : List ℕ → Bool
is_reserved bytes = list_any (same_name bytes) reserved_words

-- a word that is not reserved
abbrev pub is_name : List ℕ → Bool
is_name bytes = is_word bytes && not (is_reserved bytes)

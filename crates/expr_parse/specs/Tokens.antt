-- The tokens of a text.
use Rattle.std.specs.Prelude.{ℕ, ◌+◌, ◌-◌, ◌<◌, ◌≤◌, zero, suc, Bool, ◌||◌, ◌==◌, List, [], ◌∷◌, length, take, Option, Some, None, Result, Ok, Err, nat_lt, nat_le, if◌then◌else◌}
use Rattle.std.specs.Char.{is_ascii_alphabetic, is_ascii_digit}
use Rattle.std.specs.List.{prefix_len}
use Rattle.num_text.specs.Cells.{is_blank}
use Rattle.semantics.specs.Most.{most_text, most_word}
use Rattle.semantics.specs.Names.{is_word_byte}
use Rattle.semantics.specs.Numbers.{is_number}
use Rattle.expr_parse.specs.declared.error.ParseErr.{ParseErr}
use Rattle.expr_parse.specs.declared.error.ParseErr.TheVariants as refusal
use Rattle.expr_parse.specs.declared.token.Kind.{Kind}
use Rattle.expr_parse.specs.declared.token.Kind.TheVariants.{Word, Number, Sign}
use Rattle.expr_parse.specs.declared.token.Token.{Token}

-- one of `( ) , + - *`
abbrev pub is_sign : ℕ → Bool
is_sign c = c == 40 || c == 41 || c == 44 || c == 43 || c == 45 || c == 42

abbrev pub word_of_length : ℕ → Option (Kind × ℕ)
word_of_length n = if nat_le n most_word then Some (Word, n) else None

-- a number of magnitude at most 2^127-1
abbrev pub number_of_length : List ℕ → ℕ → Option (Kind × ℕ)
number_of_length text n = if is_number (take n text) then Some (Number, n) else None

-- the token at the front of a text, as long as possible, and its length; None where there is none, or none that is
-- allowed
unfoldable pub front : List ℕ → Option (Kind × ℕ)
front [] = None
front (c ∷ cs) =
    if is_ascii_alphabetic c then word_of_length (prefix_len is_word_byte (c ∷ cs))
    else (if is_ascii_digit c then number_of_length (c ∷ cs) (prefix_len is_ascii_digit (c ∷ cs))
    else (if is_sign c then Some (Sign, 1) else None))

-- a token before others
abbrev pub before : Token → Result (List Token) ℕ → Result (List Token) ℕ
before t (Ok ts) = Ok (t ∷ ts)
before t (Err place) = Err place

-- what a text comes to at a token or at none, at a place, where what follows the token comes to `rest`
abbrev pub at_front : ℕ → Option (Kind × ℕ) → (ℕ → Result (List Token) ℕ) → Result (List Token) ℕ
at_front place None rest = Err place
at_front place (Some (kind, n)) rest = before (record { kind = kind; from = place; to = place + n }) (rest (n - 1))

-- the tokens of the text from a place on, behind so many bytes of a token that stands before; else the place of the
-- first byte that begins none
abbrev pub tokens_from : ℕ → ℕ → List ℕ → Result (List Token) ℕ
tokens_from left place [] = Ok []
tokens_from (suc left) place (c ∷ cs) = tokens_from left (suc place) cs
tokens_from zero place (c ∷ cs) =
    if is_blank c then tokens_from zero (suc place) cs
    else at_front place (front (c ∷ cs)) (λ left. tokens_from left (suc place) cs)

unfoldable pub tokens_of : List ℕ → Result (List Token) ℕ
tokens_of text = tokens_from 0 0 text

abbrev pub at_place : Result (List Token) ℕ → Result (List Token) ParseErr
at_place (Ok ts) = Ok ts
at_place (Err place) = Err (refusal.At place)

-- the tokens of a text that is not too long, or why it has none
abbrev pub tokenized : List ℕ → Result (List Token) ParseErr
tokenized text = if nat_lt most_text (length text) then Err refusal.TooLong else at_place (tokens_of text)

-- each token has bytes, and stands behind the one before it, from a place on and up to another
abbrev pub AreInOrder : ℕ → List Token → ℕ → Type 0
AreInOrder from [] to = from ≤ to
AreInOrder from (t ∷ ts) to = (from ≤ t.from) × (t.from < t.to) × AreInOrder t.to ts to

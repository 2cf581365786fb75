-- What a text comes to, by the grammar: the query that it gives for the text, or why there is none.
use Rattle.std.specs.Prelude.{◌≡◌, ◌≢◌, ◌⊎◌, ℕ, List, [], ◌∷◌, map, Option, Some, None, option_map, Result, Ok, Err, if◌then◌else◌}
use Rattle.semantics.specs.Term.{QueryTerm}
use Rattle.expr_parse.specs.declared.error.ParseErr.{ParseErr}
use Rattle.expr_parse.specs.declared.error.ParseErr.TheVariants as refusal
use Rattle.expr_parse.specs.declared.lexeme.Lexeme.{Lexeme}
use Rattle.expr_parse.specs.declared.token.Token.{Token}
use Rattle.expr_parse.specs.Lexemes.{lexeme_of}
use Rattle.expr_parse.specs.Nesting.{is_nested}
use Rattle.expr_parse.specs.Parsed.{limited, parsed, place_of, IsTextOf}
use Rattle.expr_parse.specs.Pending.{query, sticks}
use Rattle.expr_parse.specs.Tokens.{tokenized}

-- why tokens are no query: parentheses are nested too deep, else the first token that can't follow
abbrev pub lexemes_refusal : List ℕ → List Token → List Lexeme → Option ParseErr
lexemes_refusal text ts said =
    if is_nested 0 0 said then Some refusal.TooDeep
    else option_map (λ left. refusal.At (place_of text ts left)) (sticks (query ∷ []) said)

abbrev pub tokens_refusal : List ℕ → Result (List Token) ParseErr → Option ParseErr
tokens_refusal text (Err e) = Some e
tokens_refusal text (Ok ts) = lexemes_refusal text ts (map (lexeme_of text) ts)

-- why a text is no query, its limits apart
abbrev pub text_refusal : List ℕ → Option ParseErr
text_refusal text = tokens_refusal text (tokenized text)

pub record IsRefused (text : List ℕ) (r : Result QueryTerm ParseErr) : Type 0 where
  pub refusal : ParseErr
  pub called : text_refusal text ≡ Some refusal
  pub told : r ≡ Err refusal

-- the grammar gives a query, which is told where it is within its limits
pub record IsRead (text : List ℕ) (r : Result QueryTerm ParseErr) : Type 0 where
  pub query : QueryTerm
  pub free : text_refusal text ≡ None
  pub grammar : IsTextOf text query
  pub told : r ≡ limited query

abbrev pub Parses : List ℕ → Result QueryTerm ParseErr → Type 0
Parses text r = IsRefused text r ⊎ IsRead text r

-- a function that answers each text by the grammar
abbrev pub IsParser : (List ℕ → Result QueryTerm ParseErr) → Type 0
IsParser parser = (text : List ℕ) → Parses text (parser text)

-- ---- laws

-- there is one
abbrev pub ParsedIsParser : Type 0
ParsedIsParser = IsParser parsed

-- and no other, since a text comes to one thing alone
abbrev pub ParsesAlone : Type 0
ParsesAlone = (text : List ℕ) (r other : Result QueryTerm ParseErr) → Parses text r → Parses text other
    → other ≡ r

-- no text comes to want of memory
abbrev pub ParsesWithoutMemory : Type 0
ParsesWithoutMemory = (text : List ℕ) (r : Result QueryTerm ParseErr) → Parses text r → r ≢ Err refusal.Memory

-- The query of a text, or why it has none: the order of refusals, read from the last definition up.
use Rattle.std.specs.Prelude.{ℕ, ◌≡◌, List, [], ◌∷◌, length, map, Option, Some, None, Result, Ok, Err, nat_lt, if◌then◌else◌}
use Rattle.semantics.specs.Limits.{most_names_in, query_depth, sums_in}
use Rattle.semantics.specs.Most.{most_depth, most_names, most_sums}
use Rattle.semantics.specs.Term.{QueryTerm}
use Rattle.expr_parse.specs.declared.error.ParseErr.{ParseErr}
use Rattle.expr_parse.specs.declared.error.ParseErr.TheVariants as refusal
use Rattle.expr_parse.specs.declared.lexeme.Lexeme.{Lexeme}
use Rattle.expr_parse.specs.declared.token.Token.{Token}
use Rattle.expr_parse.specs.Lexemes.{lexeme_of}
use Rattle.expr_parse.specs.Nesting.{is_nested}
use Rattle.expr_parse.specs.Pending.{query, sticks}
use Rattle.expr_parse.specs.QueryGrammar.{IsQuery}
use Rattle.expr_parse.specs.Reading.{tree_of}
use Rattle.expr_parse.specs.Tokens.{tokenized}

-- the place at which so many tokens are left
abbrev pub place_of : List ℕ → List Token → ℕ → ℕ
place_of text [] left = length text
place_of text (t ∷ ts) left = if nat_lt (length ts) left then t.from else place_of text ts left

abbrev pub limited : QueryTerm → Result QueryTerm ParseErr
limited q =
    if nat_lt most_depth (query_depth q) then Err refusal.TooDeep
    else (if nat_lt most_sums (sums_in q) then Err refusal.TooManySums
    else (if nat_lt most_names (most_names_in q) then Err refusal.TooManyNames
    else Ok q))

-- where the pending list sticks, or the tree; where it doesn't stick there is always one
abbrev pub by_grammar : List ℕ → List Token → Option ℕ → Option QueryTerm → Result QueryTerm ParseErr
by_grammar text ts (Some left) tree = Err (refusal.At (place_of text ts left))
by_grammar text ts None (Some q) = limited q
by_grammar text ts None None = Err refusal.Memory

abbrev pub by_lexemes : List ℕ → List Token → List Lexeme → Result QueryTerm ParseErr
by_lexemes text ts said =
    if is_nested 0 0 said then Err refusal.TooDeep else by_grammar text ts (sticks (query ∷ []) said) (tree_of said)

abbrev pub by_tokens : List ℕ → Result (List Token) ParseErr → Result QueryTerm ParseErr
by_tokens text (Err e) = Err e
by_tokens text (Ok ts) = by_lexemes text ts (map (lexeme_of text) ts)

unfoldable pub parsed : List ℕ → Result QueryTerm ParseErr
parsed text = by_tokens text (tokenized text)

-- the grammar gives this query for the tokens of a text
pub record IsTextOf (text : List ℕ) (q : QueryTerm) : Type 0 where
  pub tokens : List Token
  pub are : tokenized text ≡ Ok tokens
  pub grammar : IsQuery (map (lexeme_of text) tokens) [] q

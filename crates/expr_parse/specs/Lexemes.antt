-- What a token says.
use Rattle.std.specs.Prelude.{ℕ, ◌-◌, List, take, drop, codes, None, Some, unsigned_abs, if◌then◌else◌}
use Rattle.std.specs.Str.{bytes_eq}
use Rattle.semantics.specs.Names.{is_name}
use Rattle.semantics.specs.Numbers.{number_in}
use Rattle.expr_parse.specs.declared.token.Kind.{Kind}
use Rattle.expr_parse.specs.declared.token.Kind.TheVariants as kind
use Rattle.expr_parse.specs.declared.token.Token.{Token}
use Rattle.expr_parse.specs.declared.lexeme.Lexeme.{Lexeme}
use Rattle.expr_parse.specs.declared.lexeme.Lexeme.TheVariants.{Number, Named, Sum, VarNum, CovNum, Const, Shift, Open, Close, Comma, Plus, Minus, Times}

-- a word that is no name is one of five
abbrev pub reserved_lexeme : List ℕ → Lexeme
reserved_lexeme bytes =
    if bytes_eq bytes (codes "sum") then Sum
    else (if bytes_eq bytes (codes "varnum") then VarNum
    else (if bytes_eq bytes (codes "covnum") then CovNum
    else (if bytes_eq bytes (codes "const") then Const
    else Shift)))

abbrev pub word_lexeme : List ℕ → Lexeme
word_lexeme bytes = if is_name bytes then Named bytes else reserved_lexeme bytes

-- the magnitude of the number that a text is
abbrev pub magnitude_in : List ℕ → ℕ
magnitude_in digits = elim (number_in digits) [ None ↦ 0 | Some v ↦ unsigned_abs v ]

abbrev pub sign_lexeme : List ℕ → Lexeme
sign_lexeme bytes =
    if bytes_eq bytes (codes "(") then Open
    else (if bytes_eq bytes (codes ")") then Close
    else (if bytes_eq bytes (codes ",") then Comma
    else (if bytes_eq bytes (codes "+") then Plus
    else (if bytes_eq bytes (codes "-") then Minus
    else Times))))

abbrev pub lexeme_of_bytes : Kind → List ℕ → Lexeme
lexeme_of_bytes kind.Word bytes = word_lexeme bytes
lexeme_of_bytes kind.Number bytes = Number (magnitude_in bytes)
lexeme_of_bytes kind.Sign bytes = sign_lexeme bytes

-- the bytes of a token are its slice of the text
abbrev pub lexeme_of : List ℕ → Token → Lexeme
lexeme_of text t = lexeme_of_bytes t.kind (take (t.to - t.from) (drop t.from text))

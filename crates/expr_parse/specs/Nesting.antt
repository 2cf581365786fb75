-- Parentheses that are open at one time.
use Rattle.std.specs.Prelude.{ℕ, ◌+◌, Bool, true, false, List, [], ◌∷◌, nat_lt, if◌then◌else◌}
use Rattle.semantics.specs.Most.{most_depth}
use Rattle.expr_parse.specs.declared.lexeme.Lexeme.{Lexeme}
use Rattle.expr_parse.specs.declared.lexeme.Lexeme.TheVariants.{Open, Close}

-- whether some front of the tokens has more opening signs than closing ones by over the depth that is allowed, behind
-- others that have so many of each
abbrev pub is_nested : ℕ → ℕ → List Lexeme → Bool
is_nested opened closed [] = false
is_nested opened closed (Open ∷ ts) =
    if nat_lt (closed + most_depth) (opened + 1) then true else is_nested (opened + 1) closed ts
is_nested opened closed (Close ∷ ts) = is_nested opened (closed + 1) ts
is_nested opened closed (_ ∷ ts) = is_nested opened closed ts

-- Numbers in tokens.
use Rattle.std.specs.Prelude.{◌≤◌, List, [], ◌∷◌}
use Rattle.semantics.specs.Most.{most_number}
use Rattle.expr_parse.specs.declared.lexeme.Lexeme.{Lexeme}
use Rattle.expr_parse.specs.declared.lexeme.Lexeme.TheVariants.{Number}

-- all numbers have a magnitude of at most 2^127-1
abbrev pub AreSmall : List Lexeme → Type 0
AreSmall [] = Unit {0}
AreSmall (Number n ∷ ts) = (n ≤ most_number) × AreSmall ts
AreSmall (_ ∷ ts) = AreSmall ts

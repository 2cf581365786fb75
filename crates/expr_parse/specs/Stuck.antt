-- Where reading stops.
use Rattle.std.specs.Prelude.{◌≡◌, List, [], ◌++◌, Some}
use Rattle.semantics.specs.Term.{QueryTerm}
use Rattle.expr_parse.specs.declared.error.ParseErr.{ParseErr}
use Rattle.expr_parse.specs.declared.error.ParseErr.TheVariants as refusal
use Rattle.expr_parse.specs.QueryGrammar.{IsQuery}
use Rattle.expr_parse.specs.declared.lexeme.Lexeme.{Lexeme}
use Rattle.expr_parse.specs.declared.series.Stuck.{Stuck}
use Rattle.expr_parse.specs.declared.series.Stuck.TheVariants.{At, Memory}
use Rattle.expr_parse.specs.Pending.{Pending, sticks}

-- where reading stops at a token, the entries stick there, whatever is pending behind them
abbrev pub IsStuck : List Pending → List Lexeme → Stuck → Type 0
IsStuck entries ts (At left) = (es : List Pending) → sticks (entries ++ es) ts ≡ Some left
IsStuck entries ts Memory = Unit {0}

-- where reading stops at a token, the entries alone stick there
abbrev pub IsStuckAt : List Pending → List Lexeme → Stuck → Type 0
IsStuckAt entries ts (At left) = sticks entries ts ≡ Some left
IsStuckAt entries ts Memory = Unit {0}

-- where a place is refused, the grammar gives the tokens no query
abbrev pub IsOutside : ParseErr → List Lexeme → Type 0
IsOutside (refusal.At place) ts = (q : QueryTerm) → IsQuery ts [] q → ⊥
IsOutside _ ts = Unit {0}

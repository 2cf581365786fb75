-- The grammar of a query. `IsQuery ts rest q`: from the tokens ts a query is read that leaves the tokens rest, and its
-- term is q.
use Rattle.std.specs.Prelude.{ℤ, List, ◌∷◌, Some, None}
use Rattle.semantics.specs.Term.{Term, Range, QueryTerm, number, sum, variance, covariance, add, sub, mul}
use Rattle.expr_parse.specs.declared.lexeme.Lexeme.{Lexeme}
use Rattle.expr_parse.specs.declared.lexeme.Lexeme.TheVariants.{Sum, VarNum, CovNum, Open, Close, Comma, Plus, Minus, Times}
use Rattle.expr_parse.specs.SeriesGrammar.{IsWhole, IsRange, IsSeries}

mutual
  -- query = term { ("+" | "-") term }, from the left
  pub data IsQuery : List Lexeme → List Lexeme → QueryTerm → Type 0 where
    product : {ts rest : List Lexeme} {q : QueryTerm} → IsProduct ts rest q → IsQuery ts rest q
    plus_product : {ts mid rest : List Lexeme} {p q : QueryTerm} → IsQuery ts (Plus ∷ mid) p
        → IsProduct mid rest q → IsQuery ts rest (add p q)
    minus_product : {ts mid rest : List Lexeme} {p q : QueryTerm} → IsQuery ts (Minus ∷ mid) p
        → IsProduct mid rest q → IsQuery ts rest (sub p q)

  -- term = factor { "*" factor }, from the left
  pub data IsProduct : List Lexeme → List Lexeme → QueryTerm → Type 0 where
    factor : {ts rest : List Lexeme} {q : QueryTerm} → IsFactor ts rest q → IsProduct ts rest q
    times_factor : {ts mid rest : List Lexeme} {p q : QueryTerm} → IsProduct ts (Times ∷ mid) p
        → IsFactor mid rest q → IsProduct ts rest (mul p q)

  -- factor = number | "-" number | "(" query ")" | "sum" "(" series [ "," place "," place ] ")"
  --        | "varnum" "(" series "," place "," place ")" | "covnum" "(" series "," series "," place "," place ")"
  pub data IsFactor : List Lexeme → List Lexeme → QueryTerm → Type 0 where
    whole : {ts rest : List Lexeme} {v : ℤ} → IsWhole ts rest v → IsFactor ts rest (number v)
    grouped : {ts rest : List Lexeme} {q : QueryTerm} → IsQuery ts (Close ∷ rest) q
        → IsFactor (Open ∷ ts) rest q
    sum_of : {ts rest : List Lexeme} {t : Term} → IsSeries ts (Close ∷ rest) t
        → IsFactor (Sum ∷ Open ∷ ts) rest (sum t None)
    sum_over : {ts mid rest : List Lexeme} {t : Term} {b : Range} → IsSeries ts mid t → IsRange mid rest b
        → IsFactor (Sum ∷ Open ∷ ts) rest (sum t (Some b))
    varnum : {ts mid rest : List Lexeme} {t : Term} {b : Range} → IsSeries ts mid t → IsRange mid rest b
        → IsFactor (VarNum ∷ Open ∷ ts) rest (variance t b)
    covnum : {ts mid last rest : List Lexeme} {t u : Term} {b : Range} → IsSeries ts (Comma ∷ mid) t
        → IsSeries mid last u → IsRange last rest b → IsFactor (CovNum ∷ Open ∷ ts) rest (covariance t u b)

-- The rules of the grammar of queries, by equations.
use Rattle.std.proofs.Common.{◌≡◌, ℕ, ℤ, pos, List, ◌∷◌}
use Rattle.std.specs.Prelude.{Some, None}
use Rattle.semantics.specs.Term.{Term, Range, QueryTerm, number, sum, variance, covariance, add, sub, mul}
use Rattle.expr_parse.specs.declared.lexeme.Lexeme.{Lexeme}
use Rattle.expr_parse.specs.declared.lexeme.Lexeme.TheVariants.{Number, Sum, VarNum, CovNum, Open, Close, Comma, Plus, Minus, Times}
use Rattle.expr_parse.specs.SeriesGrammar.{IsWhole, IsRange, IsSeries, positive}
use Rattle.expr_parse.specs.QueryGrammar.{IsQuery, IsProduct, IsFactor, plus_product, minus_product, times_factor, whole, grouped, sum_of, sum_over, varnum, covnum}

pub sum_at : (ts first mid rest : List Lexeme) (t : Term) (q : QueryTerm) → ts ≡ Open ∷ first → IsSeries first mid t → mid ≡ Close ∷ rest → q ≡ sum t None → IsFactor (Sum ∷ ts) rest q
sum_at ts first mid rest t q e s f g = rw (e, g) (sum_of (rw f at s))

pub sum_over_at : (ts first mid rest : List Lexeme) (t : Term) (b : Range) (q : QueryTerm) → ts ≡ Open ∷ first → IsSeries first mid t → IsRange mid rest b → q ≡ sum t (Some b) → IsFactor (Sum ∷ ts) rest q
sum_over_at ts first mid rest t b q e s r g = rw (e, g) (sum_over s r)

pub variance_at : (ts first mid rest : List Lexeme) (t : Term) (b : Range) (q : QueryTerm) → ts ≡ Open ∷ first → IsSeries first mid t → IsRange mid rest b → q ≡ variance t b → IsFactor (VarNum ∷ ts) rest q
variance_at ts first mid rest t b q e s r g = rw (e, g) (varnum s r)

pub covariance_at : (ts first mid second last rest : List Lexeme) (t u : Term) (b : Range) (q : QueryTerm) → ts ≡ Open ∷ first → IsSeries first mid t → mid ≡ Comma ∷ second → IsSeries second last u → IsRange last rest b → q ≡ covariance t u b → IsFactor (CovNum ∷ ts) rest q
covariance_at ts first mid second last rest t u b q e s f v r g = rw (e, g) (covnum (rw f at s) v r)

pub number_at : (ts rest : List Lexeme) (v : ℤ) (q : QueryTerm) (n : ℕ) → ts ≡ Number n ∷ rest → v ≡ pos n → q ≡ number v → IsFactor ts rest q
number_at ts rest v q n e f g = rw (e, g, f) (whole positive)

pub whole_at : (ts rest : List Lexeme) (v : ℤ) (q : QueryTerm) → IsWhole ts rest v → q ≡ number v → IsFactor ts rest q
whole_at ts rest v q w e = rw e (whole w)

pub grouped_at : (ts first mid rest : List Lexeme) (q : QueryTerm) → ts ≡ Open ∷ first → IsQuery first mid q → mid ≡ Close ∷ rest → IsFactor ts rest q
grouped_at ts first mid rest q e s f = rw e (grouped (rw f at s))

pub plus_at : (ts rest more after : List Lexeme) (q u v : QueryTerm) → IsQuery ts rest u → rest ≡ Plus ∷ more → IsProduct more after v → q ≡ add u v → IsQuery ts after q
plus_at ts rest more after q u v a e p f = rw f (plus_product (rw e at a) p)

pub minus_at : (ts rest more after : List Lexeme) (q u v : QueryTerm) → IsQuery ts rest u → rest ≡ Minus ∷ more → IsProduct more after v → q ≡ sub u v → IsQuery ts after q
minus_at ts rest more after q u v a e p f = rw f (minus_product (rw e at a) p)

pub times_at : (ts rest more after : List Lexeme) (q u v : QueryTerm) → IsProduct ts rest u → rest ≡ Times ∷ more → IsFactor more after v → q ≡ mul u v → IsProduct ts after q
times_at ts rest more after q u v a e p f = rw f (times_factor (rw e at a) p)

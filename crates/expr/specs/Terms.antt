-- Expressions and queries seen as pure terms.
use Rattle.std.specs.Option.{option_map}
use Rattle.semantics.specs.Term.{Term, base, constant, bare, plus, minus, times, shift, Range, QueryTerm, number, sum, variance, covariance, add, sub, mul}
use Rattle.expr.specs.declared.expression.Bounds.{Bounds}
use Rattle.expr.specs.declared.expression.Query.{Query, Number, Sum, Var, Cov, Add', Sub', Mul'}
use Rattle.expr.specs.declared.expression.Series.{Series, Base, Const, Bare, Plus', Minus', Times', Shift'}

abbrev pub term_of : Series → Term
term_of (Base name) = base name
term_of (Const v a b) = constant v a b
term_of (Bare v) = bare v
term_of (Plus' p u q v) = plus (term_of u) (term_of v)
term_of (Minus' p u q v) = minus (term_of u) (term_of v)
term_of (Times' p u q v) = times (term_of u) (term_of v)
term_of (Shift' p u k) = shift (term_of u) k

abbrev pub range_of : Bounds → Range
range_of bounds = record { left = bounds.l; right = bounds.r }

abbrev pub query_term_of : Query → QueryTerm
query_term_of (Number v) = number v
query_term_of (Sum t bounds) = sum (term_of t) (option_map range_of bounds)
query_term_of (Var t bounds) = variance (term_of t) (range_of bounds)
query_term_of (Cov t u bounds) = covariance (term_of t) (term_of u) (range_of bounds)
query_term_of (Add' p a q b) = add (query_term_of a) (query_term_of b)
query_term_of (Sub' p a q b) = sub (query_term_of a) (query_term_of b)
query_term_of (Mul' p a q b) = mul (query_term_of a) (query_term_of b)

-- Series and queries as pure terms.
use Rattle.std.specs.Prelude.{ℕ, ℤ, List, Option}

-- a series: a stored one by its name, a constant on the positions from one to before another, a constant on all
-- positions, two series position by position, or a series moved up by so many positions
pub data Term : Type 0 where
  base : List ℕ → Term
  constant : ℤ → ℤ → ℤ → Term
  bare : ℤ → Term
  plus : Term → Term → Term
  minus : Term → Term → Term
  times : Term → Term → Term
  shift : Term → ℤ → Term

-- the positions from left to before right
pub record Range : Type 0 where
  pub left : ℤ
  pub right : ℤ

-- a query: a number, a sum of a series over a range or over its domain, N times the variance or the covariance over a
-- range of N positions, N times over, or the arithmetic of two queries
pub data QueryTerm : Type 0 where
  number : ℤ → QueryTerm
  sum : Term → Option Range → QueryTerm
  variance : Term → Range → QueryTerm
  covariance : Term → Term → Range → QueryTerm
  add : QueryTerm → QueryTerm → QueryTerm
  sub : QueryTerm → QueryTerm → QueryTerm
  mul : QueryTerm → QueryTerm → QueryTerm

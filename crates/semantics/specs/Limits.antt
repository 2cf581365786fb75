-- What a query keeps within the limits.
use Rattle.std.specs.Prelude.{ℕ, ◌+◌, ◌*◌, ◌≤◌, max, ℤ, unsigned_abs, Option, Some, None}
use Rattle.semantics.specs.Measures.{names_in}
use Rattle.semantics.specs.Most.{most_depth, most_sums, most_names, most_nodes, most_shift, most_number}
use Rattle.semantics.specs.Term.{Term, base, constant, bare, plus, minus, times, shift, Range, QueryTerm, number, sum, variance, covariance, add, sub, mul}

-- ---- depth: a leaf has 1, and each step up is one more

abbrev pub series_depth : Term → ℕ
series_depth (base name) = 1
series_depth (constant v a b) = 1
series_depth (bare v) = 1
series_depth (plus u v) = 1 + max (series_depth u) (series_depth v)
series_depth (minus u v) = 1 + max (series_depth u) (series_depth v)
series_depth (times u v) = 1 + max (series_depth u) (series_depth v)
series_depth (shift u k) = 1 + series_depth u

-- that of the plain query
abbrev pub query_depth : QueryTerm → ℕ
query_depth (number v) = 1
query_depth (sum t range) = 1 + series_depth t
query_depth (variance t range) = 4 + series_depth t
query_depth (covariance t u range) = 4 + max (series_depth t) (series_depth u)
query_depth (add p q) = 1 + max (query_depth p) (query_depth q)
query_depth (sub p q) = 1 + max (query_depth p) (query_depth q)
query_depth (mul p q) = 1 + max (query_depth p) (query_depth q)

-- ---- counts in the plain query

abbrev pub sums_in : QueryTerm → ℕ
sums_in (number v) = 0
sums_in (sum t range) = 1
sums_in (variance t range) = 3
sums_in (covariance t u range) = 3
sums_in (add p q) = sums_in p + sums_in q
sums_in (sub p q) = sums_in p + sums_in q
sums_in (mul p q) = sums_in p + sums_in q

-- numbers, sums and operators
abbrev pub nodes_in : QueryTerm → ℕ
nodes_in (number v) = 1
nodes_in (sum t range) = 1
nodes_in (variance t range) = 7
nodes_in (covariance t u range) = 7
nodes_in (add p q) = nodes_in p + nodes_in q + 1
nodes_in (sub p q) = nodes_in p + nodes_in q + 1
nodes_in (mul p q) = nodes_in p + nodes_in q + 1

-- the most names that a sum has, each time counted
abbrev pub most_names_in : QueryTerm → ℕ
most_names_in (number v) = 0
most_names_in (sum t range) = names_in t
most_names_in (variance t range) = 2 * names_in t
most_names_in (covariance t u range) = names_in t + names_in u
most_names_in (add p q) = max (most_names_in p) (most_names_in q)
most_names_in (sub p q) = max (most_names_in p) (most_names_in q)
most_names_in (mul p q) = max (most_names_in p) (most_names_in q)

-- ---- magnitudes

abbrev pub IsNear : ℤ → Type 0
IsNear i = unsigned_abs i ≤ most_shift

-- all positions and shifts are near
abbrev pub IsNearSeries : Term → Type 0
IsNearSeries (base name) = Unit {0}
IsNearSeries (constant v a b) = IsNear a × IsNear b
IsNearSeries (bare v) = Unit {0}
IsNearSeries (plus u v) = IsNearSeries u × IsNearSeries v
IsNearSeries (minus u v) = IsNearSeries u × IsNearSeries v
IsNearSeries (times u v) = IsNearSeries u × IsNearSeries v
IsNearSeries (shift u k) = IsNearSeries u × IsNear k

abbrev pub IsNearRange : Option Range → Type 0
IsNearRange (Some range) = IsNear range.left × IsNear range.right
IsNearRange None = Unit {0}

abbrev pub IsNearQuery : QueryTerm → Type 0
IsNearQuery (number v) = Unit {0}
IsNearQuery (sum t range) = IsNearSeries t × IsNearRange range
IsNearQuery (variance t range) = IsNearSeries t × IsNearRange (Some range)
IsNearQuery (covariance t u range) = IsNearSeries t × IsNearSeries u × IsNearRange (Some range)
IsNearQuery (add p q) = IsNearQuery p × IsNearQuery q
IsNearQuery (sub p q) = IsNearQuery p × IsNearQuery q
IsNearQuery (mul p q) = IsNearQuery p × IsNearQuery q

abbrev pub IsSmall : ℤ → Type 0
IsSmall v = unsigned_abs v ≤ most_number

-- all constants are small
abbrev pub HasSmallConstants : Term → Type 0
HasSmallConstants (base name) = Unit {0}
HasSmallConstants (constant v a b) = IsSmall v
HasSmallConstants (bare v) = IsSmall v
HasSmallConstants (plus u v) = HasSmallConstants u × HasSmallConstants v
HasSmallConstants (minus u v) = HasSmallConstants u × HasSmallConstants v
HasSmallConstants (times u v) = HasSmallConstants u × HasSmallConstants v
HasSmallConstants (shift u k) = HasSmallConstants u

-- all numbers and constants are small
abbrev pub HasSmallNumbers : QueryTerm → Type 0
HasSmallNumbers (number v) = IsSmall v
HasSmallNumbers (sum t range) = HasSmallConstants t
HasSmallNumbers (variance t range) = HasSmallConstants t
HasSmallNumbers (covariance t u range) = HasSmallConstants t × HasSmallConstants u
HasSmallNumbers (add p q) = HasSmallNumbers p × HasSmallNumbers q
HasSmallNumbers (sub p q) = HasSmallNumbers p × HasSmallNumbers q
HasSmallNumbers (mul p q) = HasSmallNumbers p × HasSmallNumbers q

-- ---- all limits
pub record IsWithinLimits (q : QueryTerm) : Type 0 where
  pub depth : query_depth q ≤ most_depth
  pub sums : sums_in q ≤ most_sums
  pub names : most_names_in q ≤ most_names
  pub nodes : nodes_in q ≤ most_nodes
  pub near : IsNearQuery q
  pub small : HasSmallNumbers q

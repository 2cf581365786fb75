-- What series and queries come to, by plain sums over readings.
use Rattle.std.specs.Prelude.{ℕ, ℤ, pos, neg_ℤ, ◌+ℤ◌, ◌-ℤ◌, ◌*ℤ◌, List, length, Option, Some, None}
use Rattle.std.specs.Int.{int_max, int_min}
use Rattle.semantics.specs.Most.{most_shift}
use Rattle.semantics.specs.Readings.{reading_at, positions_in}
use Rattle.semantics.specs.Sums.{total_below}
use Rattle.semantics.specs.Term.{Term, base, constant, bare, plus, minus, times, shift, Range, QueryTerm, number, sum, variance, covariance, add, sub, mul}

-- ---- series

-- the value of a series at a position, over the readings of each name
abbrev pub series_value : (List ℕ → List ℤ) → Term → ℤ → ℤ
series_value X (base name) i = reading_at (X name) i
series_value X (constant v a b) i = v
series_value X (bare v) i = v
series_value X (plus u v) i = series_value X u i +ℤ series_value X v i
series_value X (minus u v) i = series_value X u i -ℤ series_value X v i
series_value X (times u v) i = series_value X u i *ℤ series_value X v i
series_value X (shift u k) i = series_value X u (i -ℤ k)

-- the positions that are in both ranges
abbrev pub common : Range → Range → Range
common a b = record { left = int_max a.left b.left; right = int_min a.right b.right }

-- a range moved up by so many positions
abbrev pub moved : Range → ℤ → Range
moved a k = record { left = a.left +ℤ k; right = a.right +ℤ k }

-- the positions at which a series has a value, by the length of each name's readings; none where right is not above
-- left
abbrev pub domain_of : (List ℕ → ℕ) → Term → Range
domain_of N (base name) = record { left = pos 0; right = pos (N name) }
domain_of N (constant v a b) = record { left = a; right = b }
domain_of N (bare v) = record { left = neg_ℤ (pos most_shift); right = pos most_shift }
domain_of N (plus u v) = common (domain_of N u) (domain_of N v)
domain_of N (minus u v) = common (domain_of N u) (domain_of N v)
domain_of N (times u v) = common (domain_of N u) (domain_of N v)
domain_of N (shift u k) = moved (domain_of N u) k

-- ---- queries

-- the value of a series at the i-th position from l on
abbrev pub value_from : (List ℕ → List ℤ) → Term → ℤ → ℕ → ℤ
value_from X t l i = series_value X t (l +ℤ pos i)

-- the plain sum of a series at the positions of a range
abbrev pub sum_over : (List ℕ → List ℤ) → Term → Range → ℤ
sum_over X t range = total_below (value_from X t range.left) (positions_in range.left range.right)

-- the range of a sum: the one that is given, or the whole domain
abbrev pub range_or : Option Range → Range → Range
range_or (Some range) domain = range
range_or None domain = domain

-- how many readings a name has
abbrev pub count_of : (List ℕ → List ℤ) → List ℕ → ℕ
count_of X name = length (X name)

-- what a query comes to, over the readings of each name
abbrev pub query_value : (List ℕ → List ℤ) → QueryTerm → ℤ
query_value X (number v) = v
query_value X (sum t range) = sum_over X t (range_or range (domain_of (count_of X) t))
query_value X (variance t range) =
    ((range.right -ℤ range.left) *ℤ sum_over X (times t t) range) -ℤ (sum_over X t range *ℤ sum_over X t range)
query_value X (covariance t u range) =
    ((range.right -ℤ range.left) *ℤ sum_over X (times t u) range) -ℤ (sum_over X t range *ℤ sum_over X u range)
query_value X (add p q) = query_value X p +ℤ query_value X q
query_value X (sub p q) = query_value X p -ℤ query_value X q
query_value X (mul p q) = query_value X p *ℤ query_value X q

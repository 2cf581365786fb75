-- The admission of a plain query over what is known of the series: the first of four rules that refuses it, and why.
use Rattle.std.specs.Prelude.{ℕ, ◌+◌, ◌*◌, ◌≤◌, max, ℤ, unsigned_abs, List, [], ◌∷◌, ◌++◌, Bool, false, ◌&&◌, ◌||◌, not, Option, Some, None, is_some, find, nat_lt, int_lt, int_le, if◌then◌else◌}
use Rattle.std.specs.Int.{int_max}
use Rattle.std.specs.Option.{option_map, option_map_or, option_or}
use Rattle.semantics.specs.Measures.{rank_of, units_of, some_part, is_great_over}
use Rattle.semantics.specs.Most.{most_rank, range_limit}
use Rattle.semantics.specs.Names.{same_name}
use Rattle.semantics.specs.Readings.{positions_in}
use Rattle.semantics.specs.Term.{Term, base, constant, bare, plus, minus, times, shift, Range, QueryTerm, number, sum, variance, covariance, add, sub, mul}
use Rattle.semantics.specs.Value.{domain_of, range_or}

-- ---- what is known of the series

-- a name, how many readings it has and the greatest absolute one, 0 for none
pub record Fact : Type 0 where
  pub name : List ℕ
  pub count : ℕ
  pub greatest : ℕ

abbrev pub is_of : List ℕ → Fact → Bool
is_of name fact = same_name fact.name name

abbrev pub fact_at : List Fact → List ℕ → Option Fact
fact_at facts name = find (is_of name) facts

abbrev pub is_unknown : List Fact → List ℕ → Bool
is_unknown facts name = not (is_some (fact_at facts name))

-- the length of a name's series, 0 where it is unknown
abbrev pub count_at : List Fact → List ℕ → ℕ
count_at facts name = option_map_or (λ fact. fact.count) (fact_at facts name) 0

-- the greatest absolute reading of a name, 0 where it is unknown
abbrev pub greatest_at : List Fact → List ℕ → ℕ
greatest_at facts name = option_map_or (λ fact. fact.greatest) (fact_at facts name) 0

-- ---- the names, the sums and the nodes of a query

-- the names of a series, from left to right
abbrev pub series_names : Term → List (List ℕ)
series_names (base name) = name ∷ []
series_names (constant v a b) = []
series_names (bare v) = []
series_names (plus u v) = series_names u ++ series_names v
series_names (minus u v) = series_names u ++ series_names v
series_names (times u v) = series_names u ++ series_names v
series_names (shift u k) = series_names u

-- the names of a query, from left to right
abbrev pub query_names : QueryTerm → List (List ℕ)
query_names (number v) = []
query_names (sum t range) = series_names t
query_names (variance t range) = series_names t
query_names (covariance t u range) = series_names t ++ series_names u
query_names (add p q) = query_names p ++ query_names q
query_names (sub p q) = query_names p ++ query_names q
query_names (mul p q) = query_names p ++ query_names q

-- a sum: its series and its range, if it is given
pub record SumTerm : Type 0 where
  pub series : Term
  pub range : Option Range

-- the sums of a plain query, from left to right
abbrev pub sums_of : QueryTerm → List SumTerm
sums_of (number v) = []
sums_of (sum t range) = record { series = t; range = range } ∷ []
sums_of (variance t range) = []
sums_of (covariance t u range) = []
sums_of (add p q) = sums_of p ++ sums_of q
sums_of (sub p q) = sums_of p ++ sums_of q
sums_of (mul p q) = sums_of p ++ sums_of q

-- the nodes of a plain query, each behind its parts: numbers, sums and operators
abbrev pub nodes_of : QueryTerm → List QueryTerm
nodes_of (number v) = number v ∷ []
nodes_of (sum t range) = sum t range ∷ []
nodes_of (variance t range) = []
nodes_of (covariance t u range) = []
nodes_of (add p q) = nodes_of p ++ nodes_of q ++ add p q ∷ []
nodes_of (sub p q) = nodes_of p ++ nodes_of q ++ sub p q ∷ []
nodes_of (mul p q) = nodes_of p ++ nodes_of q ++ mul p q ∷ []

-- ---- the domain of a sum

abbrev pub is_inside : Range → Range → Bool
is_inside range domain = int_le domain.left range.left && int_le range.right domain.right

-- whether a range ends before it begins, or has positions and lies not inside of the domain
abbrev pub is_outside : Option Range → Range → Bool
is_outside (Some range) domain =
    int_lt range.right range.left || (int_lt range.left range.right && not (is_inside range domain))
is_outside None domain = false

-- ---- the magnitude of a sum

-- the length of the longest series named
abbrev pub longest : List Fact → Term → ℕ
longest facts (base name) = count_at facts name
longest facts (constant v a b) = 0
longest facts (bare v) = 0
longest facts (plus u v) = max (longest facts u) (longest facts v)
longest facts (minus u v) = max (longest facts u) (longest facts v)
longest facts (times u v) = max (longest facts u) (longest facts v)
longest facts (shift u k) = longest facts u

-- the length of the range of a sum: of the one that is given, or of the domain
abbrev pub range_length : List Fact → Term → Option Range → ℕ
range_length facts t range = let r = range_or range (domain_of (count_at facts) t) in positions_in r.left r.right

-- the greater of both lengths
abbrev pub extent_of : List Fact → Term → Option Range → ℕ
extent_of facts t range = max (longest facts t) (range_length facts t range)

-- a bound on the magnitude of a query
abbrev pub bound_of : List Fact → QueryTerm → ℕ
bound_of facts (number v) = max 1 (unsigned_abs v)
bound_of facts (sum t range) = max 1 (2 * extent_of facts t range * units_of (greatest_at facts) t)
bound_of facts (variance t range) = 0
bound_of facts (covariance t u range) = 0
bound_of facts (add p q) = bound_of facts p + bound_of facts q
bound_of facts (sub p q) = bound_of facts p + bound_of facts q
bound_of facts (mul p q) = bound_of facts p * bound_of facts q

-- whether a node is a sum with a part that is too great, or has a bound that is too great
abbrev pub is_too_great : List Fact → QueryTerm → Bool
is_too_great facts (sum t range) =
    some_part (is_great_over (greatest_at facts) (extent_of facts t range)) t
    || nat_lt range_limit (bound_of facts (sum t range))
is_too_great facts q = nat_lt range_limit (bound_of facts q)

-- ---- the rules

-- why a query is refused: a name that is unknown, the number of a sum whose rank is too high, the number of a sum that
-- leaves its domain and the ends of that, or the number of a node that is too great
pub data NotAdmitted : Type 0 where
  unknown : List ℕ → NotAdmitted
  high_rank : ℕ → NotAdmitted
  outside : ℕ → ℤ → ℤ → NotAdmitted
  too_great : ℕ → NotAdmitted

abbrev pub rank_rule : ℕ → SumTerm → Option NotAdmitted
rank_rule k s = if nat_lt most_rank (rank_of s.series) then Some (high_rank k) else None

-- an empty domain is told as its left end twice
abbrev pub domain_rule : List Fact → ℕ → SumTerm → Option NotAdmitted
domain_rule facts k s =
    let domain = domain_of (count_at facts) s.series in
    if is_outside s.range domain then Some (outside k domain.left (int_max domain.left domain.right)) else None

abbrev pub range_rule : List Fact → ℕ → QueryTerm → Option NotAdmitted
range_rule facts k q = if is_too_great facts q then Some (too_great k) else None

-- the first refusal by a rule, where the items are numbered from k on
abbrev pub first_refusal : {A : Type 0} → (ℕ → A → Option NotAdmitted) → ℕ → List A → Option NotAdmitted
first_refusal rule k [] = None
first_refusal rule k (x ∷ xs) = option_or (rule k x) (first_refusal rule (k + 1) xs)

-- each sum of a plain query has a rank that is admitted
abbrev pub HasLowRanks : QueryTerm → Type 0
HasLowRanks (number v) = Unit {0}
HasLowRanks (sum t range) = rank_of t ≤ most_rank
HasLowRanks (variance t range) = Unit {0}
HasLowRanks (covariance t u range) = Unit {0}
HasLowRanks (add p q) = HasLowRanks p × HasLowRanks q
HasLowRanks (sub p q) = HasLowRanks p × HasLowRanks q
HasLowRanks (mul p q) = HasLowRanks p × HasLowRanks q

-- why a plain query is refused, None where it is admitted: the first name that is unknown, else the first sum whose
-- rank is too high, else the first sum outside of its domain, else the first node that is too great
abbrev pub refusal_of : List Fact → QueryTerm → Option NotAdmitted
refusal_of facts q =
    option_or (option_map unknown (find (is_unknown facts) (query_names q)))
    (option_or (first_refusal rank_rule 1 (sums_of q))
    (option_or (first_refusal (domain_rule facts) 1 (sums_of q))
    (first_refusal (range_rule facts) 1 (nodes_of q))))

-- What holds of a plain query that is admitted, sum by sum and node by node.
use Rattle.std.specs.Prelude.{ℕ, ◌≡◌, ◌≤◌, ◌≤ℤ◌, ◌<ℤ◌, List, false, Option, Some, None, All}
use Rattle.semantics.specs.Admission.{Fact, is_unknown, count_at, greatest_at, series_names, extent_of, bound_of}
use Rattle.semantics.specs.Measures.{rank_of, InRange}
use Rattle.semantics.specs.Most.{most_rank, range_limit}
use Rattle.semantics.specs.Term.{Term, Range, QueryTerm, number, sum, variance, covariance, add, sub, mul}
use Rattle.semantics.specs.Value.{domain_of}

abbrev pub IsKnown : List Fact → List ℕ → Type 0
IsKnown facts name = is_unknown facts name ≡ false

-- a range does not end before it begins, and lies in the domain where it has positions; one that is not given is the
-- domain
abbrev pub IsInDomain : Option Range → Range → Type 0
IsInDomain (Some range) domain =
    (range.left ≤ℤ range.right)
    × (range.left <ℤ range.right → (domain.left ≤ℤ range.left) × (range.right ≤ℤ domain.right))
IsInDomain None domain = Unit {0}

pub record IsAdmittedSum (facts : List Fact) (t : Term) (range : Option Range) : Type 0 where
  pub known : All (IsKnown facts) (series_names t)
  pub rank : rank_of t ≤ most_rank
  pub inside : IsInDomain range (domain_of (count_at facts) t)
  pub in_range : InRange (greatest_at facts) (extent_of facts t range) t
  pub bound : bound_of facts (sum t range) ≤ range_limit

abbrev pub IsAdmitted : List Fact → QueryTerm → Type 0
IsAdmitted facts (number v) = bound_of facts (number v) ≤ range_limit
IsAdmitted facts (sum t range) = IsAdmittedSum facts t range
IsAdmitted facts (variance t range) = Unit {0}
IsAdmitted facts (covariance t u range) = Unit {0}
IsAdmitted facts (add p q) = IsAdmitted facts p × IsAdmitted facts q × (bound_of facts (add p q) ≤ range_limit)
IsAdmitted facts (sub p q) = IsAdmitted facts p × IsAdmitted facts q × (bound_of facts (sub p q) ≤ range_limit)
IsAdmitted facts (mul p q) = IsAdmitted facts p × IsAdmitted facts q × (bound_of facts (mul p q) ≤ range_limit)

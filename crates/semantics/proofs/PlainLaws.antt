-- The plain query: it has no variance, comes to the same value and stays within the limits.
use Rattle.std.proofs.Common.{◌≡◌, ℕ, ℤ, ◌+ℤ◌, ◌-ℤ◌, ◌*ℤ◌, List, refl, arith}
use Rattle.std.proofs.lemmas.Int.{ints}
use Rattle.semantics.specs.Limits.{query_depth, sums_in, nodes_in, most_names_in, IsNear, IsNearQuery, IsSmall, HasSmallNumbers, IsWithinLimits}
use Rattle.semantics.specs.Plain.{plain, IsPlain}
use Rattle.semantics.specs.Term.{QueryTerm, number, sum, variance, covariance, add, sub, mul}
use Rattle.semantics.specs.Value.{query_value}

pub IsPlain-plain : (q : QueryTerm) → IsPlain (plain q)
IsPlain-plain (number v) = tt
IsPlain-plain (sum t range) = tt
IsPlain-plain (variance t range) = ((tt, tt), (tt, tt))
IsPlain-plain (covariance t u range) = ((tt, tt), (tt, tt))
IsPlain-plain (add p q) = (IsPlain-plain p, IsPlain-plain q)
IsPlain-plain (sub p q) = (IsPlain-plain p, IsPlain-plain q)
IsPlain-plain (mul p q) = (IsPlain-plain p, IsPlain-plain q)

pub query_value-plain : (X : List ℕ → List ℤ) (q : QueryTerm) → query_value X (plain q) ≡ query_value X q
query_value-plain X (number v) = refl
query_value-plain X (sum t range) = refl
query_value-plain X (variance t range) = refl
query_value-plain X (covariance t u range) = refl
query_value-plain X (add p q) = λ i. query_value-plain X p i +ℤ query_value-plain X q i
query_value-plain X (sub p q) = λ i. query_value-plain X p i -ℤ query_value-plain X q i
query_value-plain X (mul p q) = λ i. query_value-plain X p i *ℤ query_value-plain X q i

query_depth-plain : (q : QueryTerm) → query_depth (plain q) ≡ query_depth q
query_depth-plain (number v) = refl
query_depth-plain (sum t range) = refl
query_depth-plain (variance t range) = omega arith
query_depth-plain (covariance t u range) = omega arith
query_depth-plain (add p q) = omega (arith, query_depth-plain p, query_depth-plain q)
query_depth-plain (sub p q) = omega (arith, query_depth-plain p, query_depth-plain q)
query_depth-plain (mul p q) = omega (arith, query_depth-plain p, query_depth-plain q)

sums_in-plain : (q : QueryTerm) → sums_in (plain q) ≡ sums_in q
sums_in-plain (number v) = refl
sums_in-plain (sum t range) = refl
sums_in-plain (variance t range) = refl
sums_in-plain (covariance t u range) = refl
sums_in-plain (add p q) = omega (arith, sums_in-plain p, sums_in-plain q)
sums_in-plain (sub p q) = omega (arith, sums_in-plain p, sums_in-plain q)
sums_in-plain (mul p q) = omega (arith, sums_in-plain p, sums_in-plain q)

nodes_in-plain : (q : QueryTerm) → nodes_in (plain q) ≡ nodes_in q
nodes_in-plain (number v) = refl
nodes_in-plain (sum t range) = refl
nodes_in-plain (variance t range) = refl
nodes_in-plain (covariance t u range) = refl
nodes_in-plain (add p q) = omega (arith, nodes_in-plain p, nodes_in-plain q)
nodes_in-plain (sub p q) = omega (arith, nodes_in-plain p, nodes_in-plain q)
nodes_in-plain (mul p q) = omega (arith, nodes_in-plain p, nodes_in-plain q)

most_names_in-plain : (q : QueryTerm) → most_names_in (plain q) ≡ most_names_in q
most_names_in-plain (number v) = refl
most_names_in-plain (sum t range) = refl
most_names_in-plain (variance t range) = omega arith
most_names_in-plain (covariance t u range) = omega arith
most_names_in-plain (add p q) = omega (arith, most_names_in-plain p, most_names_in-plain q)
most_names_in-plain (sub p q) = omega (arith, most_names_in-plain p, most_names_in-plain q)
most_names_in-plain (mul p q) = omega (arith, most_names_in-plain p, most_names_in-plain q)

IsNearQuery-plain : (q : QueryTerm) → IsNearQuery q → IsNearQuery (plain q)
IsNearQuery-plain (number v) h = tt
IsNearQuery-plain (sum t range) h = h
IsNearQuery-plain (variance t range) h = ((tt, ((h.0, h.0), h.1)), ((h.0, h.1), (h.0, h.1)))
IsNearQuery-plain (covariance t u range) h = ((tt, ((h.0, h.1), h.2)), ((h.0, h.2), (h.1, h.2)))
IsNearQuery-plain (add p q) h = (IsNearQuery-plain p h.0, IsNearQuery-plain q h.1)
IsNearQuery-plain (sub p q) h = (IsNearQuery-plain p h.0, IsNearQuery-plain q h.1)
IsNearQuery-plain (mul p q) h = (IsNearQuery-plain p h.0, IsNearQuery-plain q h.1)

near_width : (l r : ℤ) → IsNear l → IsNear r → IsSmall (r -ℤ l)
near_width l r left right = omega (arith, ints)

HasSmallNumbers-plain : (q : QueryTerm) → IsNearQuery q → HasSmallNumbers q → HasSmallNumbers (plain q)
HasSmallNumbers-plain (number v) near h = h
HasSmallNumbers-plain (sum t range) near h = h
HasSmallNumbers-plain (variance t range) near h = ((near_width range.left range.right near.1.0 near.1.1, (h, h)), (h, h))
HasSmallNumbers-plain (covariance t u range) near h = ((near_width range.left range.right near.2.0 near.2.1, (h.0, h.1)), (h.0, h.1))
HasSmallNumbers-plain (add p q) near h = (HasSmallNumbers-plain p near.0 h.0, HasSmallNumbers-plain q near.1 h.1)
HasSmallNumbers-plain (sub p q) near h = (HasSmallNumbers-plain p near.0 h.0, HasSmallNumbers-plain q near.1 h.1)
HasSmallNumbers-plain (mul p q) near h = (HasSmallNumbers-plain p near.0 h.0, HasSmallNumbers-plain q near.1 h.1)

pub IsWithinLimits-plain : (q : QueryTerm) → IsWithinLimits q → IsWithinLimits (plain q)
IsWithinLimits-plain q h = record {
  depth = omega (arith, h.depth, query_depth-plain q);
  sums = omega (arith, h.sums, sums_in-plain q);
  names = omega (arith, h.names, most_names_in-plain q);
  nodes = omega (arith, h.nodes, nodes_in-plain q);
  near = IsNearQuery-plain q h.near;
  small = HasSmallNumbers-plain q h.near h.small;
}

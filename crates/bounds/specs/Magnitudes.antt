-- How large the numbers of local forms and of sums can be over sane segments.
use Rattle.std.specs.Prelude.{◌≡◌, ℕ, ◌+◌, ◌*◌, ◌^◌, ◌≤◌, ℤ, unsigned_abs, List, [], ◌∷◌, ◌++◌}
use Rattle.std.specs.List.{AllZip}
use Rattle.semantics.specs.Measures.{rank_of, top, units_of, InRange}
use Rattle.semantics.specs.Term.{Term, base, constant, bare, plus, minus, times, shift}
use Rattle.segment.specs.declared.segments.Seg.{Seg}
use Rattle.segment.specs.Measure.{unit}
use Rattle.bounds.specs.Cut.{Entry, segs_of, sum_error, sum_estimate, AreDistinct}
use Rattle.bounds.specs.Form.{form, cost, lift}
use Rattle.bounds.specs.Segments.{OfEachName, HasSaneSegs}
use Rattle.bounds.specs.Shape.{Shape, shape, reads, times_each}

-- ---- the magnitudes of a series, by the greatest absolute reading of each name

-- a bound on values, and in units on estimates
abbrev pub estimate_bound : (List ℕ → ℕ) → Term → ℕ
estimate_bound D (base name) = 24 * top D name
estimate_bound D (constant v a b) = unsigned_abs v
estimate_bound D (bare v) = unsigned_abs v
estimate_bound D (plus u v) = estimate_bound D u + estimate_bound D v
estimate_bound D (minus u v) = estimate_bound D u + estimate_bound D v
estimate_bound D (times u v) = estimate_bound D u * estimate_bound D v
estimate_bound D (shift u k) = estimate_bound D u

-- in units, a bound on errors for each position
abbrev pub error_bound : (List ℕ → ℕ) → Term → ℕ
error_bound D (base name) = 25 * top D name
error_bound D (constant v a b) = 0
error_bound D (bare v) = 0
error_bound D (plus u v) = error_bound D u + error_bound D v
error_bound D (minus u v) = error_bound D u + error_bound D v
error_bound D (times u v) = estimate_bound D u * error_bound D v + estimate_bound D v * error_bound D u
error_bound D (shift u k) = error_bound D u

-- a bound on the weight of each occurrence
abbrev pub weight_bounds : (List ℕ → ℕ) → Term → List ℕ
weight_bounds D (base name) = 1 ∷ []
weight_bounds D (constant v a b) = []
weight_bounds D (bare v) = []
weight_bounds D (plus u v) =
    times_each (lift (rank_of u) (rank_of v)) (weight_bounds D u)
    ++ times_each (lift (rank_of v) (rank_of u)) (weight_bounds D v)
weight_bounds D (minus u v) =
    times_each (lift (rank_of u) (rank_of v)) (weight_bounds D u)
    ++ times_each (lift (rank_of v) (rank_of u)) (weight_bounds D v)
weight_bounds D (times u v) =
    times_each (unit ^ rank_of v * estimate_bound D v) (weight_bounds D u)
    ++ times_each (unit ^ rank_of u * estimate_bound D u) (weight_bounds D v)
weight_bounds D (shift u k) = weight_bounds D u

-- for each occurrence, a bound on the l of its segments for each position of them
abbrev pub miss_bounds : (List ℕ → ℕ) → Term → List ℕ
miss_bounds D (base name) = 25 * unit * top D name ∷ []
miss_bounds D (constant v a b) = []
miss_bounds D (bare v) = []
miss_bounds D (plus u v) = miss_bounds D u ++ miss_bounds D v
miss_bounds D (minus u v) = miss_bounds D u ++ miss_bounds D v
miss_bounds D (times u v) = miss_bounds D u ++ miss_bounds D v
miss_bounds D (shift u k) = miss_bounds D u

-- the sum of the products at each place of two lists
abbrev pub pair_sum : List ℕ → List ℕ → ℕ
pair_sum [] xs = 0
pair_sum (w ∷ ws) [] = 0
pair_sum (w ∷ ws) (x ∷ xs) = w * x + pair_sum ws xs

-- the magnitudes of a series: both bounds together are within its units, and the weights cost the bound on errors
pub record HasMagnitudes (D : List ℕ → ℕ) (t : Term) : Type 0 where
  pub both : estimate_bound D t + error_bound D t ≤ units_of D t
  pub weights : pair_sum (weight_bounds D t) (miss_bounds D t) ≡ unit ^ rank_of t * error_bound D t

-- ---- local forms

-- two lists of one length, each number of the first at most that of the second
abbrev pub EachBelow : List ℕ → List ℕ → Type 0
EachBelow us ws = AllZip (λ u w. u ≤ w) us ws

-- a shape has rank r, and is within a bound f on values and bounds on weights
pub record IsWithin (s : Shape) (r f : ℕ) (ws : List ℕ) : Type 0 where
  pub rank : s.rank ≡ r
  pub most : s.most ≤ f
  pub most_estimate : s.most_estimate ≤ unit ^ r * f
  pub norm : s.norm ≤ unit ^ r * f
  pub weights : EachBelow s.weights ws

-- so is the local form of a series, its estimate, and what its weights cost
pub record IsFormWithin (D : List ℕ → ℕ) (n : ℕ) (C : List ℕ → List Seg) (t : Term) (i : ℤ) : Type 0 where
  pub within : IsWithin (shape t (reads C t i)) (rank_of t) (estimate_bound D t) (weight_bounds D t)
  pub estimate : unsigned_abs (form C t i).estimate ≤ unit ^ rank_of t * estimate_bound D t
  pub costs : cost C (form C t i).uses ≤ n * (unit ^ rank_of t * error_bound D t)

-- ---- sums

-- the numbers of a sum over m positions, where each series has at most n and m is at most n
pub record IsSumWithin (D : List ℕ → ℕ) (n : ℕ) (es : List Entry) (t : Term) (l : ℤ) (m : ℕ) : Type 0 where
  pub estimate : unsigned_abs (sum_estimate es t l m) ≤ n * (unit ^ rank_of t * estimate_bound D t)
  pub error : sum_error es t l m ≤ n * (unit ^ rank_of t * error_bound D t)
  pub both : unsigned_abs (sum_estimate es t l m) + sum_error es t l m ≤ unit ^ rank_of t * n * units_of D t
  -- where the series and its parts are in range
  pub admitted : InRange D n t → unsigned_abs (sum_estimate es t l m) + sum_error es t l m ≤ 2 ^ 125

-- ---- the laws

-- over sane segments the numbers of every series, of its local forms and of its sums are within its magnitudes
pub record NumbersAreWithin : Type 0 where
  pub series : (D : List ℕ → ℕ) (t : Term) → HasMagnitudes D t
  pub forms : (D : List ℕ → ℕ) (n : ℕ) (C : List ℕ → List Seg) (t : Term) (i : ℤ)
      → OfEachName (HasSaneSegs D n C) t → IsFormWithin D n C t i
  pub sums : (D : List ℕ → ℕ) (n : ℕ) (es : List Entry) (t : Term) (l : ℤ) (m : ℕ) → AreDistinct es →
      OfEachName (HasSaneSegs D n (segs_of es)) t → m ≤ n → IsSumWithin D n es t l m

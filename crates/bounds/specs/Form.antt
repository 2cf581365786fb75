-- The local form of a series: what its segments say of its value at a position.
use Rattle.std.specs.Prelude.{ℕ, ◌+◌, ◌-◌, ◌*◌, ◌^◌, ◌≤◌, max, nat_le, if◌then◌else◌, ℤ, pos, ◌+ℤ◌, ◌-ℤ◌, ◌*ℤ◌, unsigned_abs, List, [], ◌∷◌, ◌++◌, map}
use Rattle.std.specs.List.{sum_by}
use Rattle.semantics.specs.Readings.{reading_at}
use Rattle.semantics.specs.Term.{Term, base, constant, bare, plus, minus, times, shift}
use Rattle.semantics.specs.Value.{series_value}
use Rattle.segment.specs.declared.segments.Seg.{Seg}
use Rattle.segment.specs.Measure.{unit}
use Rattle.bounds.specs.Segments.{seg_at, estimate_of, OfEachName, HasTrueSegs}

-- an occurrence of a name: the position at which it is read, and the weight of what its segment misses there
pub record Use : Type 0 where
  pub name : List ℕ
  pub at : ℤ
  pub weight : ℕ

-- the estimate is in units, as many times as the rank says; the value is at most `most` in magnitude, and the estimate
-- at most `most_estimate`
pub record Form : Type 0 where
  pub rank : ℕ
  pub estimate : ℤ
  pub most : ℕ
  pub most_estimate : ℕ
  pub uses : List Use

-- ---- weights

abbrev pub weighed_use : ℕ → Use → Use
weighed_use k u = record u { weight = k * u.weight }

-- the uses with k-fold weights
abbrev pub weigh : ℕ → List Use → List Use
weigh k uses = map (weighed_use k) uses

abbrev pub cost_of : (List ℕ → List Seg) → Use → ℕ
cost_of C u = u.weight * (seg_at (C u.name) u.at).l

-- the sum of the weights, each times the l of the segment that is read
abbrev pub cost : (List ℕ → List Seg) → List Use → ℕ
cost C uses = sum_by (cost_of C) uses

-- the factor from a rank to another one, 1 where the other is not higher
abbrev pub lift : ℕ → ℕ → ℕ
lift from to = unit ^ (to - from)

-- form A of a product: what u misses times v's estimate, and what v misses times u's value
abbrev pub uses_a : Form → Form → List Use
uses_a u v = weigh v.most_estimate u.uses ++ weigh (u.most * unit ^ u.rank) v.uses

-- form B: what u misses times v's value, and what v misses times u's estimate
abbrev pub uses_b : Form → Form → List Use
uses_b u v = weigh (v.most * unit ^ v.rank) u.uses ++ weigh u.most_estimate v.uses

-- ---- forms

abbrev pub base_form : (List ℕ → List Seg) → List ℕ → ℤ → Form
base_form C name i = record {
  rank = 1;
  estimate = estimate_of (seg_at (C name) i) i;
  most = (seg_at (C name) i).d;
  most_estimate = (seg_at (C name) i).f;
  uses = record { name = name; at = i; weight = 1 } ∷ [];
}

abbrev pub constant_form : ℤ → Form
constant_form v = record { rank = 0; estimate = v; most = unsigned_abs v; most_estimate = unsigned_abs v; uses = [] }

-- a sum or a difference: the part of lower rank is brought to the other's
abbrev pub sum_form : (ℤ → ℤ → ℤ) → Form → Form → Form
sum_form op u v = record {
  rank = max u.rank v.rank;
  estimate = op (pos (lift u.rank v.rank) *ℤ u.estimate) (pos (lift v.rank u.rank) *ℤ v.estimate);
  most = u.most + v.most;
  most_estimate = (lift u.rank v.rank * u.most_estimate) + (lift v.rank u.rank * v.most_estimate);
  uses = weigh (lift u.rank v.rank) u.uses ++ weigh (lift v.rank u.rank) v.uses;
}

-- a product, by the cheaper form; on a tie form A
abbrev pub product_form : (List ℕ → List Seg) → Form → Form → Form
product_form C u v = record {
  rank = u.rank + v.rank;
  estimate = u.estimate *ℤ v.estimate;
  most = u.most * v.most;
  most_estimate = u.most_estimate * v.most_estimate;
  uses = if nat_le (cost C (uses_a u v)) (cost C (uses_b u v)) then uses_a u v else uses_b u v;
}

-- the local form of a series at a position
abbrev pub form : (List ℕ → List Seg) → Term → ℤ → Form
form C (base name) i = base_form C name i
form C (constant v a b) i = constant_form v
form C (bare v) i = constant_form v
form C (plus u v) i = sum_form (λ x y. x +ℤ y) (form C u i) (form C v i)
form C (minus u v) i = sum_form (λ x y. x -ℤ y) (form C u i) (form C v i)
form C (times u v) i = product_form C (form C u i) (form C v i)
form C (shift u k) i = form C u (i -ℤ k)

-- ---- what a form says of the value

-- how far the estimate of a name's segment at a position is from the reading, in units
abbrev pub miss_of : (List ℕ → List ℤ) → (List ℕ → List Seg) → List ℕ → ℤ → ℕ
miss_of X C name i = unsigned_abs ((pos unit *ℤ reading_at (X name) i) -ℤ estimate_of (seg_at (C name) i) i)

abbrev pub weighted_miss : (List ℕ → List ℤ) → (List ℕ → List Seg) → Use → ℕ
weighted_miss X C u = u.weight * miss_of X C u.name u.at

-- the estimate misses the value by at most the sum of the weighted misses
pub record BoundsValue (X : List ℕ → List ℤ) (C : List ℕ → List Seg) (v : ℤ) (m : Form) : Type 0 where
  pub near : unsigned_abs ((pos (unit ^ m.rank) *ℤ v) -ℤ m.estimate) ≤ sum_by (weighted_miss X C) m.uses
  pub small : unsigned_abs v ≤ m.most
  pub small_estimate : unsigned_abs m.estimate ≤ m.most_estimate

-- over true segments the local form bounds the value of every series at every position
abbrev pub FormsBoundValues : Type 0
FormsBoundValues = (X : List ℕ → List ℤ) (C : List ℕ → List Seg) (t : Term) (i : ℤ) →
    OfEachName (HasTrueSegs X C) t → BoundsValue X C (series_value X t i) (form C t i)

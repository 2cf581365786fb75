-- The local form by the segments that are read: it depends on the position by these and by their estimates alone.
use Rattle.std.specs.Prelude.{◌≡◌, ℕ, ◌+◌, ◌*◌, ◌^◌, max, nat_le, if◌then◌else◌, ℤ, pos, ◌+ℤ◌, ◌-ℤ◌, ◌*ℤ◌, unsigned_abs, List, [], ◌∷◌, ◌++◌, map, take, drop}
use Rattle.semantics.specs.Measures.{names_in, rank_of}
use Rattle.semantics.specs.Term.{Term, base, constant, bare, plus, minus, times, shift}
use Rattle.segment.specs.declared.segments.Seg.{Seg}
use Rattle.segment.specs.Measure.{unit}
use Rattle.bounds.specs.Cut.{Occurrence, occurrences}
use Rattle.bounds.specs.Form.{Form, Use, form, lift}
use Rattle.bounds.specs.Segments.{no_seg, seg_at, estimate_of}

-- the segment that an occurrence reads
abbrev pub read_by : (List ℕ → List Seg) → Occurrence → Seg
read_by C o = seg_at (C o.name) o.at

-- the segments that a series reads at a position, one for each name, from left to right
abbrev pub reads : (List ℕ → List Seg) → Term → ℤ → List Seg
reads C t i = map (read_by C) (occurrences t i)

-- ---- shapes

-- a local form without its estimate; `norm` bounds the estimates at all places of the segments
pub record Shape : Type 0 where
  pub rank : ℕ
  pub most : ℕ
  pub most_estimate : ℕ
  pub norm : ℕ
  pub weights : List ℕ

abbrev pub times_each : ℕ → List ℕ → List ℕ
times_each k ws = map (λ w. k * w) ws

-- the sum of the weights, each times the l of its segment
abbrev pub cost_over : List ℕ → List Seg → ℕ
cost_over [] gs = 0
cost_over (w ∷ ws) [] = 0
cost_over (w ∷ ws) (g ∷ gs) = w * g.l + cost_over ws gs

-- the norm of a segment's polynomial at its length
abbrev pub norm_of : Seg → ℕ
norm_of g = unsigned_abs g.a + (unsigned_abs g.b * g.len) + (unsigned_abs g.c * (g.len * g.len))

abbrev pub base_shape : Seg → Shape
base_shape g = record { rank = 1; most = g.d; most_estimate = g.f; norm = norm_of g; weights = 1 ∷ [] }

abbrev pub constant_shape : ℤ → Shape
constant_shape v = record {
  rank = 0;
  most = unsigned_abs v;
  most_estimate = unsigned_abs v;
  norm = unsigned_abs v;
  weights = [];
}

abbrev pub sum_shape : Shape → Shape → Shape
sum_shape u v = record {
  rank = max u.rank v.rank;
  most = u.most + v.most;
  most_estimate = (lift u.rank v.rank * u.most_estimate) + (lift v.rank u.rank * v.most_estimate);
  norm = (lift u.rank v.rank * u.norm) + (lift v.rank u.rank * v.norm);
  weights = times_each (lift u.rank v.rank) u.weights ++ times_each (lift v.rank u.rank) v.weights;
}

abbrev pub weights_a : Shape → Shape → List ℕ
weights_a u v = times_each v.most_estimate u.weights ++ times_each (u.most * unit ^ u.rank) v.weights

abbrev pub weights_b : Shape → Shape → List ℕ
weights_b u v = times_each (v.most * unit ^ v.rank) u.weights ++ times_each u.most_estimate v.weights

abbrev pub product_shape : List Seg → Shape → Shape → Shape
product_shape gs u v = record {
  rank = u.rank + v.rank;
  most = u.most * v.most;
  most_estimate = u.most_estimate * v.most_estimate;
  norm = u.norm * v.norm;
  weights =
      if nat_le (cost_over (weights_a u v) gs) (cost_over (weights_b u v) gs) then weights_a u v else weights_b u v;
}

-- the first of some segments
abbrev pub first_of : List Seg → Seg
first_of [] = no_seg
first_of (g ∷ gs) = g

-- those of the names of a first part, and those of the second
abbrev pub left_of : Term → List Seg → List Seg
left_of u gs = take (names_in u) gs

abbrev pub right_of : Term → List Seg → List Seg
right_of u gs = drop (names_in u) gs

-- the shape of a series over the segments that it reads
abbrev pub shape : Term → List Seg → Shape
shape (base name) gs = base_shape (first_of gs)
shape (constant v a b) gs = constant_shape v
shape (bare v) gs = constant_shape v
shape (plus u v) gs = sum_shape (shape u (left_of u gs)) (shape v (right_of u gs))
shape (minus u v) gs = sum_shape (shape u (left_of u gs)) (shape v (right_of u gs))
shape (times u v) gs = product_shape gs (shape u (left_of u gs)) (shape v (right_of u gs))
shape (shift u k) gs = shape u gs

-- ---- estimates

-- two estimates of ranks r and s, brought to one rank
abbrev pub joined : (ℤ → ℤ → ℤ) → ℕ → ℕ → ℤ → ℤ → ℤ
joined op r s p q = op (pos (lift r s) *ℤ p) (pos (lift s r) *ℤ q)

-- the estimate of a series at a position, by the segments that it reads
abbrev pub estimate_by : Term → List Seg → ℤ → ℤ
estimate_by (base name) gs i = estimate_of (first_of gs) i
estimate_by (constant v a b) gs i = v
estimate_by (bare v) gs i = v
estimate_by (plus u v) gs i =
    joined (λ p q. p +ℤ q) (rank_of u) (rank_of v) (estimate_by u (left_of u gs) i) (estimate_by v (right_of u gs) i)
estimate_by (minus u v) gs i =
    joined (λ p q. p -ℤ q) (rank_of u) (rank_of v) (estimate_by u (left_of u gs) i) (estimate_by v (right_of u gs) i)
estimate_by (times u v) gs i = estimate_by u (left_of u gs) i *ℤ estimate_by v (right_of u gs) i
estimate_by (shift u k) gs i = estimate_by u gs (i -ℤ k)

-- ---- the form of a shape

abbrev pub weight_in_use : Use → ℕ
weight_in_use u = u.weight

-- a form has a shape and an estimate
pub record HasShape (m : Form) (s : Shape) (z : ℤ) : Type 0 where
  pub rank : m.rank ≡ s.rank
  pub estimate : m.estimate ≡ z
  pub most : m.most ≡ s.most
  pub most_estimate : m.most_estimate ≡ s.most_estimate
  pub weights : map weight_in_use m.uses ≡ s.weights

-- so has every local form, by the segments that it reads
abbrev pub FormsAreByReads : Type 0
FormsAreByReads = (C : List ℕ → List Seg) (t : Term) (i : ℤ)
    → HasShape (form C t i) (shape t (reads C t i)) (estimate_by t (reads C t i) i)

-- Local forms of admitted series stay within 2^125.
use Rattle.std.specs.Prelude.{ℕ, ◌*◌, ◌^◌, ◌≤◌, ℤ, List, All}
use Rattle.semantics.specs.Measures.{rank_of, InRange}
use Rattle.semantics.specs.Term.{Term, base, constant, bare, plus, minus, times, shift}
use Rattle.segment.specs.declared.segments.Seg.{Seg}
use Rattle.segment.specs.Measure.{unit}
use Rattle.bounds.specs.Segments.{OfEachName, HasSaneSegs}
use Rattle.bounds.specs.Shape.{Shape, shape, reads, constant_shape, weights_a, weights_b, cost_over, left_of, right_of}

abbrev pub AreSmall : List ℕ → Type 0
AreSmall ws = All (λ w. w ≤ 2 ^ 125) ws

pub record IsSmallShape (s : Shape) : Type 0 where
  pub rank : s.rank ≤ 3
  pub most : s.most ≤ 2 ^ 125
  pub most_estimate : s.most_estimate ≤ 2 ^ 125
  pub norm : s.norm ≤ 2 ^ 125
  pub weights : AreSmall s.weights

-- the numbers of both forms of a product
pub record IsSmallProduct (u v : Shape) (gs : List Seg) : Type 0 where
  pub raised_u : u.most * unit ^ u.rank ≤ 2 ^ 125
  pub raised_v : v.most * unit ^ v.rank ≤ 2 ^ 125
  pub each_a : AreSmall (weights_a u v)
  pub each_b : AreSmall (weights_b u v)
  pub cost_a : cost_over (weights_a u v) gs ≤ 2 ^ 125
  pub cost_b : cost_over (weights_b u v) gs ≤ 2 ^ 125

abbrev pub AreSmallParts : Shape → Shape → Shape → Type 0
AreSmallParts u v s = IsSmallShape u × IsSmallShape v × IsSmallShape s

-- the numbers of a series and of all its parts, over the segments that it reads
abbrev pub IsSmall : Term → List Seg → Type 0
IsSmall (base name) gs = IsSmallShape (shape (base name) gs)
IsSmall (constant v a b) gs = IsSmallShape (constant_shape v)
IsSmall (bare v) gs = IsSmallShape (constant_shape v)
IsSmall (plus u v) gs =
    IsSmall u (left_of u gs) × IsSmall v (right_of u gs)
    × AreSmallParts (shape u (left_of u gs)) (shape v (right_of u gs)) (shape (plus u v) gs)
IsSmall (minus u v) gs =
    IsSmall u (left_of u gs) × IsSmall v (right_of u gs)
    × AreSmallParts (shape u (left_of u gs)) (shape v (right_of u gs)) (shape (minus u v) gs)
IsSmall (times u v) gs =
    IsSmall u (left_of u gs) × IsSmall v (right_of u gs)
    × AreSmallParts (shape u (left_of u gs)) (shape v (right_of u gs)) (shape (times u v) gs)
    × IsSmallProduct (shape u (left_of u gs)) (shape v (right_of u gs)) gs
IsSmall (shift u k) gs = IsSmall u gs

-- over sane segments, where the series and its parts are in range, no number of a local form passes 2^125
abbrev pub FormsAreSmall : Type 0
FormsAreSmall = (D : List ℕ → ℕ) (n : ℕ) (C : List ℕ → List Seg) (t : Term) (i : ℤ)
    → 1 ≤ n → rank_of t ≤ 3 → InRange D n t → OfEachName (HasSaneSegs D n C) t → IsSmall t (reads C t i)

-- Sizes of local forms, by their shapes.
use Rattle.std.proofs.Common.{◌≡◌, ℕ, ◌+◌, ◌*◌, ◌≤◌, List, [], refl, sym, ap, subst, ◌∙◌, arith}
use Rattle.std.proofs.Math.Nat.{mul-le-mul}
use Rattle.segment.specs.declared.segments.Seg.{Seg}
use Rattle.bounds.specs.Shape.{Shape, sum_shape, product_shape}
use Rattle.bounds.specs.Small.{IsSmallShape, IsSmallProduct}
use Rattle.error_prop.specs.declared.sizes.Size.{Size}
use Rattle.error_prop.specs.Sizes.{shape_at, weights_of_sum, CanMultiply, IsSize}

-- a shape with another norm
abbrev pub with_norm : Shape → ℕ → Shape
with_norm s n = record s { norm = n }

as_shape : (z : Size) (n : ℕ) (s : Shape) → IsSize z s → shape_at z n s.weights ≡ with_norm s n
as_shape z n s k = λ i. record { rank = k.rank i; most = k.most i; most_estimate = k.most_estimate i; norm = n; weights = s.weights }

-- ---- sums

pub sum_weights : (a b : Size) (s r : Shape) → IsSize a s → IsSize b r → weights_of_sum a b s.weights r.weights ≡ (sum_shape s r).weights
sum_weights a b s r h g = rw (h.rank, g.rank) refl

pub sum_size : (m a b : Size) (p q : ℕ) (s r : Shape) → IsSize a s → IsSize b r → IsSize m (sum_shape (shape_at a p []) (shape_at b q [])) → IsSize m (sum_shape s r)
sum_size m a b p q s r h g l = record {
  rank = l.rank ∙ rw (h.rank, g.rank) refl;
  most = l.most ∙ rw (h.most, g.most) refl;
  most_estimate = l.most_estimate ∙ rw (h.rank, g.rank, h.most_estimate, g.most_estimate) refl;
}

-- a part of a sum is no greater than another, and no more is the sum
pub sum_norm : (j k x y n p q : ℕ) → x ≤ p → y ≤ q → j * p + k * q ≤ n → j * x + k * y ≤ n
sum_norm j k x y n p q h g l =
    let a : j * x ≤ j * p = mul-le-mul (omega arith) h in
    let b : k * y ≤ k * q = mul-le-mul (omega arith) g in
    omega (arith, a, b)

-- ---- products

pub can_multiply : (gs : List Seg) (a b : Size) (s r : Shape) → IsSize a s → IsSize b r → s.rank + r.rank ≤ 2 → IsSmallShape (product_shape gs s r) → CanMultiply a b
can_multiply gs a b s r h g low k = record {
  rank = omega (arith, h.rank, g.rank);
  most = rw (h.most, g.most) k.most;
  most_estimate = rw (h.most_estimate, g.most_estimate) k.most_estimate;
}

pub product_choices : (gs : List Seg) (a b : Size) (s r : Shape) → IsSize a s → IsSize b r → IsSmallProduct s r gs → IsSmallProduct (shape_at a 0 s.weights) (shape_at b 0 r.weights) gs
product_choices gs a b s r h g k =
    subst (λ (t : Shape). IsSmallProduct t (shape_at b 0 r.weights) gs) (sym (as_shape a 0 s h))
    (subst (λ (t : Shape). IsSmallProduct (with_norm s 0) t gs) (sym (as_shape b 0 r g))
    (record { raised_u = k.raised_u; raised_v = k.raised_v; each_a = k.each_a; each_b = k.each_b; cost_a = k.cost_a; cost_b = k.cost_b }))

pub product_weights : (gs : List Seg) (a b : Size) (s r : Shape) → IsSize a s → IsSize b r
    → (product_shape gs (shape_at a 0 s.weights) (shape_at b 0 r.weights)).weights ≡ (product_shape gs s r).weights
product_weights gs a b s r h g =
    ap (λ (t : Shape). (product_shape gs t (shape_at b 0 r.weights)).weights) (as_shape a 0 s h)
    ∙ ap (λ (t : Shape). (product_shape gs (with_norm s 0) t).weights) (as_shape b 0 r g)

pub product_size : (gs : List Seg) (m a b : Size) (p q : ℕ) (s r : Shape) → IsSize a s → IsSize b r → IsSize m (product_shape [] (shape_at a p []) (shape_at b q [])) → IsSize m (product_shape gs s r)
product_size gs m a b p q s r h g l = record {
  rank = l.rank ∙ rw (h.rank, g.rank) refl;
  most = l.most ∙ rw (h.most, g.most) refl;
  most_estimate = l.most_estimate ∙ rw (h.most_estimate, g.most_estimate) refl;
}

-- The arms of the recursion over a series at a single position.
use Rattle.std.proofs.Common.{◌≡◌, ℕ, ◌+◌, ◌*◌, ◌≤◌, ℤ, pos, ◌+ℤ◌, ◌-ℤ◌, ◌*ℤ◌, unsigned_abs, List, [], length, refl, subst, ◌∙◌, arith}
use Rattle.std.proofs.Math.Nat.{mul-le-mul}
use Rattle.segment.specs.declared.segments.Seg.{Seg}
use Rattle.semantics.specs.Term.{Term, constant, bare, plus, minus, times, shift}
use Rattle.semantics.specs.Measures.{rank_of}
use Rattle.bounds.specs.Form.{lift}
use Rattle.bounds.specs.Shape.{constant_shape, sum_shape, product_shape, shape, estimate_by, left_of, right_of, Shape}
use Rattle.bounds.specs.Small.{IsSmallShape}
use Rattle.bounds.proofs.ShapeLaws.{rank-shape}
use Rattle.error_prop.specs.declared.points.Point.{Point}
use Rattle.error_prop.specs.Locals.{CanForm}
use Rattle.error_prop.specs.Points.{shape_of, IsFormedAt, IsPoint, ProductFits}
use Rattle.error_prop.specs.Sizes.{shape_at, weights_of_sum, ProductNeeds}
use Rattle.error_prop.proofs.Arms.{no_weights, product_shapes, sum_weights_of, times_needs, AreSized}
use Rattle.error_prop.proofs.SizeLaws.{can_multiply, product_size, sum_norm, sum_size}

-- ---- what was worked out of the parts

-- points and weights of both parts
pub record AreFormedAt (u v : Term) (gs us vs : List Seg) (xs ys : List ℕ) (a b : Point) (i : ℤ) : Type 0 where
  pub left : us ≡ left_of u gs
  pub right : vs ≡ right_of u gs
  pub formed_left : IsFormedAt u us xs a i
  pub formed_right : IsFormedAt v vs ys b i

-- the same by the segments of the whole
record AreFormedOf (u v : Term) (gs : List Seg) (xs ys : List ℕ) (a b : Point) (i : ℤ) : Type 0 where
  left : IsFormedAt u (left_of u gs) xs a i
  right : IsFormedAt v (right_of u gs) ys b i

formed_of : (u v : Term) (gs us vs : List Seg) (xs ys : List ℕ) (a b : Point) (i : ℤ) → AreFormedAt u v gs us vs xs ys a b i → AreFormedOf u v gs xs ys a b i
formed_of u v gs us vs xs ys a b i h = record {
  left = subst (λ hs. IsFormedAt u hs xs a i) h.left h.formed_left;
  right = subst (λ hs. IsFormedAt v hs ys b i) h.right h.formed_right;
}

sizes_of : (u v : Term) (gs : List Seg) (xs ys : List ℕ) (a b : Point) (i : ℤ) → AreFormedOf u v gs xs ys a b i → AreSized u v gs xs ys a.size b.size
sizes_of u v gs xs ys a b i f = record {
  weights_left = f.left.weights;
  weights_right = f.right.weights;
  left = f.left.point.size;
  right = f.right.point.size;
}

-- ---- sums and differences

sum_point : (op : ℤ → ℤ → ℤ) (m a b : Point) (s r : Shape) (x y : ℤ) (j k : ℕ) → IsPoint a s x → IsPoint b r y → s.rank ≡ j → r.rank ≡ k
    → IsPoint m (sum_shape (shape_of a) (shape_of b)) (op (pos (lift a.size.rank b.size.rank) *ℤ a.value) (pos (lift b.size.rank a.size.rank) *ℤ b.value))
    → IsPoint m (sum_shape s r) (op (pos (lift j k) *ℤ x) (pos (lift k j) *ℤ y))
sum_point op m a b s r x y j k h g ej ek l =
    let el : lift a.size.rank b.size.rank ≡ lift s.rank r.rank = rw (h.size.rank, g.size.rank) refl in
    let er : lift b.size.rank a.size.rank ≡ lift r.rank s.rank = rw (h.size.rank, g.size.rank) refl in
    let n : (sum_shape (shape_of a) (shape_of b)).norm ≤ (sum_shape s r).norm = rw (el, er) (sum_norm _ _ _ _ _ _ _ h.small g.small (omega arith)) in
    record {
      size = sum_size m.size a.size b.size _ _ s r h.size g.size l.size;
      small = omega (arith, l.small, n);
      value = l.value ∙ rw (h.size.rank, g.size.rank, h.value, g.value, ej, ek) refl;
    }

pub plus_done : (u v : Term) (gs us vs : List Seg) (xs ys ws : List ℕ) (m a b : Point) (i : ℤ) → AreFormedAt u v gs us vs xs ys a b i → ws ≡ weights_of_sum a.size b.size xs ys
    → IsPoint m (sum_shape (shape_of a) (shape_of b)) ((pos (lift a.size.rank b.size.rank) *ℤ a.value) +ℤ (pos (lift b.size.rank a.size.rank) *ℤ b.value))
    → IsFormedAt (plus u v) gs ws m i
plus_done u v gs us vs xs ys ws m a b i h e k =
    let f : AreFormedOf u v gs xs ys a b i = formed_of u v gs us vs xs ys a b i h in
    record {
      weights = e ∙ sum_weights_of u v gs xs ys a.size b.size (sizes_of u v gs xs ys a b i f);
      point = sum_point (λ x y. x +ℤ y) m a b _ _ _ _ (rank_of u) (rank_of v) f.left.point f.right.point (rank-shape u (left_of u gs)) (rank-shape v (right_of u gs)) k;
    }

pub minus_done : (u v : Term) (gs us vs : List Seg) (xs ys ws : List ℕ) (m a b : Point) (i : ℤ) → AreFormedAt u v gs us vs xs ys a b i → ws ≡ weights_of_sum a.size b.size xs ys
    → IsPoint m (sum_shape (shape_of a) (shape_of b)) ((pos (lift a.size.rank b.size.rank) *ℤ a.value) -ℤ (pos (lift b.size.rank a.size.rank) *ℤ b.value))
    → IsFormedAt (minus u v) gs ws m i
minus_done u v gs us vs xs ys ws m a b i h e k =
    let f : AreFormedOf u v gs xs ys a b i = formed_of u v gs us vs xs ys a b i h in
    record {
      weights = e ∙ sum_weights_of u v gs xs ys a.size b.size (sizes_of u v gs xs ys a b i f);
      point = sum_point (λ x y. x -ℤ y) m a b _ _ _ _ (rank_of u) (rank_of v) f.left.point f.right.point (rank-shape u (left_of u gs)) (rank-shape v (right_of u gs)) k;
    }

-- ---- products

pub record ProductAsks (us vs : List ℕ) (gs : List Seg) (a b : Point) : Type 0 where
  pub needs : ProductNeeds us vs gs a.size b.size
  pub fits : ProductFits a b

product_fits : (gs : List Seg) (a b : Point) (s r : Shape) (x y : ℤ) → IsPoint a s x → IsPoint b r y → s.rank + r.rank ≤ 2 → IsSmallShape (product_shape gs s r) → ProductFits a b
product_fits gs a b s r x y h g low k =
    let n : unsigned_abs a.value * unsigned_abs b.value ≤ s.norm * r.norm = mul-le-mul h.small g.small in
    record {
      sizes = can_multiply gs a.size b.size s r h.size g.size low k;
      norm = omega (arith, n, k.norm);
    }

pub times_asks : (u v : Term) (gs us vs : List Seg) (r : ℕ) (xs ys : List ℕ) (a b : Point) (i : ℤ) → CanForm (times u v) gs r i 1 → AreFormedAt u v gs us vs xs ys a b i → ProductAsks xs ys gs a b
times_asks u v gs us vs r xs ys a b i h k =
    let f : AreFormedOf u v gs xs ys a b i = formed_of u v gs us vs xs ys a b i k in
    record {
      needs = times_needs u v gs r xs ys a.size b.size i 1 h (sizes_of u v gs xs ys a b i f);
      fits = product_fits gs a b _ _ _ _ f.left.point f.right.point (omega (arith, h.rank, rank-shape u (left_of u gs), rank-shape v (right_of u gs))) h.small.2.2;
    }

product_point : (gs : List Seg) (m a b : Point) (s r : Shape) (x y : ℤ) → IsPoint a s x → IsPoint b r y
    → IsPoint m (product_shape [] (shape_of a) (shape_of b)) (a.value *ℤ b.value)
    → IsPoint m (product_shape gs s r) (x *ℤ y)
product_point gs m a b s r x y h g l =
    let n : unsigned_abs a.value * unsigned_abs b.value ≤ s.norm * r.norm = mul-le-mul h.small g.small in
    record {
      size = product_size gs m.size a.size b.size _ _ s r h.size g.size l.size;
      small = omega (arith, l.small, n);
      value = l.value ∙ rw (h.value, g.value) refl;
    }

pub times_done : (u v : Term) (gs us vs : List Seg) (xs ys ws : List ℕ) (m a b : Point) (i : ℤ) → AreFormedAt u v gs us vs xs ys a b i
    → ws ≡ (product_shape gs (shape_at a.size 0 xs) (shape_at b.size 0 ys)).weights
    → IsPoint m (product_shape [] (shape_of a) (shape_of b)) (a.value *ℤ b.value)
    → IsFormedAt (times u v) gs ws m i
times_done u v gs us vs xs ys ws m a b i h e k =
    let f : AreFormedOf u v gs xs ys a b i = formed_of u v gs us vs xs ys a b i h in
    record {
      weights = e ∙ product_shapes u v gs xs ys a.size b.size (sizes_of u v gs xs ys a b i f);
      point = product_point gs m a b _ _ _ _ f.left.point f.right.point k;
    }

-- ---- the other arms

pub shift_done : (u : Term) (k : ℤ) (gs : List Seg) (ws : List ℕ) (m : Point) (i back : ℤ) → back ≡ (i -ℤ k) → IsFormedAt u gs ws m back → IsFormedAt (shift u k) gs ws m i
shift_done u k gs ws m i back b h = record {
  weights = h.weights;
  point = subst (λ j. IsPoint m (shape u gs) (estimate_by u gs j)) b h.point;
}

pub constant_formed : (v a b : ℤ) (gs : List Seg) (ws : List ℕ) (p : Point) (i : ℤ) → length ws ≡ 0 → IsPoint p (constant_shape v) v → IsFormedAt (constant v a b) gs ws p i
constant_formed v a b gs ws p i e k = record { weights = no_weights ws e; point = k }

pub bare_formed : (v : ℤ) (gs : List Seg) (ws : List ℕ) (p : Point) (i : ℤ) → length ws ≡ 0 → IsPoint p (constant_shape v) v → IsFormedAt (bare v) gs ws p i
bare_formed v gs ws p i e k = record { weights = no_weights ws e; point = k }

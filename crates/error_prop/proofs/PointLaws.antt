-- A series at a single position.
use Rattle.std.proofs.Common.{◌≡◌, ℕ, zero, suc, ◌+◌, ◌*◌, ◌^◌, ◌≤◌, ℤ, pos, ◌+ℤ◌, ◌-ℤ◌, ◌*ℤ◌, List, sym, ap, ◌∙◌, arith}
use Rattle.std.proofs.Math.Nat.{mul-le-mul}
use Rattle.semantics.proofs.Ring.{diff-of, diff-mul, diff-add, diff-same}
use Rattle.semantics.specs.Term.{Term, base, constant, bare, plus, minus, times, shift}
use Rattle.segment.specs.declared.segments.Seg.{Seg}
use Rattle.bounds.specs.Form.{form}
use Rattle.bounds.specs.Segments.{estimate_of}
use Rattle.bounds.specs.Shape.{estimate_by, reads, shape}
use Rattle.bounds.specs.Small.{IsSmall, IsSmallShape}
use Rattle.bounds.proofs.ShapeLaws.{form_by_reads}
use Rattle.error_prop.specs.Points.{IsPointOf}

-- the numbers of the whole of a series, from those of all its parts
pub small_shape : (t : Term) (gs : List Seg) → IsSmall t gs → IsSmallShape (shape t gs)
small_shape (base name) gs h = h
small_shape (constant v a b) gs h = h
small_shape (bare v) gs h = h
small_shape (plus u v) gs h = h.2.2
small_shape (minus u v) gs h = h.2.2
small_shape (times u v) gs h = h.2.2
small_shape (shift u k) gs h = small_shape u gs h

-- the estimate and the weights by the segments are those of the form over the rows that these come from
pub point_of_form : (C : List ℕ → List Seg) (t : Term) (gs : List Seg) (i z : ℤ) (ws : List ℕ) → z ≡ estimate_by t gs i → ws ≡ (shape t gs).weights → reads C t i ≡ gs → IsPointOf (form C t i) z ws
point_of_form C t gs i z ws e w r =
    let f = form_by_reads C t i in
    record {
      estimate = e ∙ ap (λ (hs : List Seg). estimate_by t hs i) (sym r) ∙ sym f.estimate;
      weights = w ∙ ap (λ (hs : List Seg). (shape t hs).weights) (sym r) ∙ sym f.weights;
    }

-- ---- bases

nested_ring : (a b c o : ℤ) → a +ℤ o *ℤ (b +ℤ o *ℤ c) ≡ a +ℤ (b *ℤ o) +ℤ (c *ℤ (o *ℤ o))
nested_ring a b c o = rw (← diff-of a, ← diff-of b, ← diff-of c, ← diff-of o) (simp (diff-mul, diff-add) (diff-same _ _ _ _ (omega arith)))

-- what a segment estimates, by nested multiplication
pub base_estimate : (g : Seg) (i : ℤ) (o : ℕ) → pos o ≡ (i -ℤ pos g.start) → g.a +ℤ pos o *ℤ (g.b +ℤ pos o *ℤ g.c) ≡ estimate_of g i
base_estimate g i o e = nested_ring g.a g.b g.c (pos o) ∙ ap (λ k. g.a +ℤ (g.b *ℤ k) +ℤ (g.c *ℤ (k *ℤ k))) e

-- the slope fits where what it is multiplied to does
pub slope_fits : (a b c o : ℕ) → b ≤ 2 ^ 63 → a + o * (b + o * c) ≤ 2 ^ 125 → b + o * c ≤ 2 ^ 125
slope_fits a b c zero h k = omega arith
slope_fits a b c (suc o) h k =
    let m : 1 * (b + suc o * c) ≤ suc o * (b + suc o * c) = mul-le-mul (omega arith) (omega arith) in
    omega (arith, m)

-- a greater slope gives a greater value
pub value_fits : (a b c o s : ℕ) → s ≤ b + o * c → a + o * s ≤ a + o * (b + o * c)
value_fits a b c o s h = let m : o * s ≤ o * (b + o * c) = mul-le-mul (omega arith) h in omega (arith, m)

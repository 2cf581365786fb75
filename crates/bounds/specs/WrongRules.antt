-- Rules for weights that look like the right one, and are not.
use Rattle.std.specs.Prelude.{ℕ, zero, suc, if◌then◌else◌, ℤ, pos, ◌+ℤ◌, ◌-ℤ◌, List, ◌++◌}
use Rattle.semantics.specs.Term.{Term, base, constant, bare, plus, minus, times, shift}
use Rattle.segment.specs.declared.segments.Seg.{Seg}
use Rattle.bounds.specs.Cut.{ContainsSums, weight_at, weight_of, most_weight}
use Rattle.bounds.specs.Form.{Form, base_form, constant_form, sum_form, product_form, weigh}
use Rattle.bounds.specs.Segments.{covers}

-- ---- both estimates in place of an estimate and a value

abbrev pub estimates_product : (List ℕ → List Seg) → Form → Form → Form
estimates_product C u v =
    record (product_form C u v) { uses = weigh v.most_estimate u.uses ++ weigh u.most_estimate v.uses }

abbrev pub estimates_form : (List ℕ → List Seg) → Term → ℤ → Form
estimates_form C (base name) i = base_form C name i
estimates_form C (constant v a b) i = constant_form v
estimates_form C (bare v) i = constant_form v
estimates_form C (plus u v) i = sum_form (λ x y. x +ℤ y) (estimates_form C u i) (estimates_form C v i)
estimates_form C (minus u v) i = sum_form (λ x y. x -ℤ y) (estimates_form C u i) (estimates_form C v i)
estimates_form C (times u v) i = estimates_product C (estimates_form C u i) (estimates_form C v i)
estimates_form C (shift u k) i = estimates_form C u (i -ℤ k)

abbrev pub estimates_weight_at : (List ℕ → List Seg) → Term → ℤ → ℕ → ℕ → ℕ
estimates_weight_at C t l o j = weight_of (estimates_form C t (l +ℤ pos j)) o

abbrev pub weight_by_estimates : (List ℕ → List Seg) → Term → ℤ → ℕ → ℕ → ℤ → Seg → ℕ
weight_by_estimates C t l n o at g = most_weight (estimates_weight_at C t l o) n at g

abbrev pub CrossTermsCount : Type 0
CrossTermsCount = ContainsSums weight_by_estimates → ⊥

-- ---- the last weight in place of the greatest

-- the weight at the last position that reads a segment
abbrev pub last_of : (ℕ → ℕ) → ℤ → Seg → ℕ → ℕ
last_of w at g zero = 0
last_of w at g (suc n) = if covers g (at +ℤ pos n) then w n else last_of w at g n

abbrev pub last_weight : (List ℕ → List Seg) → Term → ℤ → ℕ → ℕ → ℤ → Seg → ℕ
last_weight C t l n o at g = last_of (weight_at C t l o) at g n

abbrev pub GreatestWeightsCount : Type 0
GreatestWeightsCount = ContainsSums last_weight → ⊥

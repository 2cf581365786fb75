-- The form of a series bounds its value where its segments hold.
use Rattle.std.proofs.Common.{◌≡◌, ℕ, ◌+◌, ◌-◌, ◌*◌, ◌^◌, ◌≤◌, max, ℤ, pos, ◌+ℤ◌, ◌-ℤ◌, ◌*ℤ◌, unsigned_abs, List, [], ◌∷◌, Bool, true, false, cond, nat_le, refl, sym, ap, ◌∙◌, arith}
use Rattle.std.specs.List.{sum_by}
use Rattle.std.proofs.Math.Nat.{mul-le-mul}
use Rattle.std.proofs.lemmas.Int.{ints, unsigned_abs-mul}
use Rattle.std.proofs.lemmas.List.Sums.{sum_by-append, sum_by-cons}
use Rattle.std.proofs.lemmas.Nat.{pow-add}
use Rattle.semantics.specs.Readings.{reading_at}
use Rattle.semantics.specs.Term.{Term, base, constant, bare, plus, minus, times, shift}
use Rattle.semantics.specs.Value.{series_value}
use Rattle.semantics.proofs.Ring.{abs-+ℤ, abs--ℤ}
use Rattle.segment.specs.declared.segments.Seg.{Seg}
use Rattle.segment.specs.Measure.{unit}
use Rattle.bounds.specs.Form.{Form, Use, BoundsValue, miss_of, weighted_miss, weigh, cost, form, uses_a, uses_b, sum_form, product_form, base_form, constant_form, lift}
use Rattle.bounds.specs.Segments.{seg_at, estimate_of, OfEachName}
use Rattle.bounds.proofs.NearLaws.{near_product, near_product_b, near_sum, near_difference}

-- a weighted list costs so many times as much
pub sum_by-weigh : (X : List ℕ → List ℤ) (C : List ℕ → List Seg) (k : ℕ) (us : List Use) → sum_by (weighted_miss X C) (weigh k us) ≡ k * sum_by (weighted_miss X C) us
sum_by-weigh X C k [] = omega arith
sum_by-weigh X C k (u ∷ us) =
    let f : Use → ℕ = weighted_miss X C in
    let e : (k * u.weight) * miss_of X C u.name u.at + sum_by f (weigh k us) ≡ k * (u.weight * miss_of X C u.name u.at + sum_by f us) =
    omega (arith, sum_by-weigh X C k us) in
    sum_by-cons f (record u { weight = k * u.weight }) (weigh k us) ∙ e ∙ ap (λ n. k * n) (sym (sum_by-cons f u us))

-- what the readings of a name say of its segments
pub record SegHolds (X : List ℕ → List ℤ) (C : List ℕ → List Seg) (n : List ℕ) (i : ℤ) : Type 0 where
  pub small : unsigned_abs (reading_at (X n) i) ≤ (seg_at (C n) i).d
  pub small_estimate : unsigned_abs (estimate_of (seg_at (C n) i) i) ≤ (seg_at (C n) i).f

abbrev pub SegsHold : (List ℕ → List ℤ) → (List ℕ → List Seg) → List ℕ → Type 0
SegsHold X C n = (i : ℤ) → SegHolds X C n i

base_bounds : (X : List ℕ → List ℤ) (C : List ℕ → List Seg) (n : List ℕ) (i : ℤ) → SegHolds X C n i → BoundsValue X C (reading_at (X n) i) (base_form C n i)
base_bounds X C n i h = record {
  near = let f : Use → ℕ = weighted_miss X C in omega (arith, sum_by-cons f (record { name = n; at = i; weight = 1 }) []);
  small = h.small;
  small_estimate = h.small_estimate;
}

constant_bounds : (X : List ℕ → List ℤ) (C : List ℕ → List Seg) (v : ℤ) → BoundsValue X C v (constant_form v)
constant_bounds X C v = record {
  near = omega (arith, ints);
  small = omega arith;
  small_estimate = omega arith;
}

pub lifted : (u v : ℕ) → unit ^ max u v ≡ unit ^ (v - u) * unit ^ u
lifted u v = ap (λ n. unit ^ n) (omega arith) ∙ pow-add unit (v - u) u

plus_bounds : (X : List ℕ → List ℤ) (C : List ℕ → List Seg) (x y : ℤ) (u v : Form) → BoundsValue X C x u → BoundsValue X C y v → BoundsValue X C (x +ℤ y) (sum_form (λ x y. x +ℤ y) u v)
plus_bounds X C x y u v g h =
    let f : Use → ℕ = weighted_miss X C in
    let n : unsigned_abs ((pos (unit ^ max u.rank v.rank) *ℤ (x +ℤ y)) -ℤ ((pos (lift u.rank v.rank) *ℤ u.estimate) +ℤ (pos (lift v.rank u.rank) *ℤ v.estimate))) ≤ lift u.rank v.rank * sum_by f u.uses + lift v.rank u.rank * sum_by f v.uses =
    near_sum (pos (unit ^ u.rank)) (pos (unit ^ v.rank)) x y u.estimate v.estimate _ (lift u.rank v.rank) (lift v.rank u.rank) _ _ (ap pos (lifted u.rank v.rank)) (ap pos (ap (λ n. unit ^ n) (omega arith) ∙ lifted v.rank u.rank)) g.near h.near in
    record {
      near = rw (sum_by-append f (weigh (lift u.rank v.rank) u.uses) (weigh (lift v.rank u.rank) v.uses), sum_by-weigh X C (lift u.rank v.rank) u.uses, sum_by-weigh X C (lift v.rank u.rank) v.uses) n;
      small = omega (arith, g.small, h.small, abs-+ℤ x y);
      small_estimate =
          let m1 : lift u.rank v.rank * unsigned_abs u.estimate ≤ lift u.rank v.rank * u.most_estimate = mul-le-mul (omega arith) g.small_estimate in
          let m2 : lift v.rank u.rank * unsigned_abs v.estimate ≤ lift v.rank u.rank * v.most_estimate = mul-le-mul (omega arith) h.small_estimate in
          omega (arith, abs-+ℤ (pos (lift u.rank v.rank) *ℤ u.estimate) (pos (lift v.rank u.rank) *ℤ v.estimate), unsigned_abs-mul (pos (lift u.rank v.rank)) u.estimate, unsigned_abs-mul (pos (lift v.rank u.rank)) v.estimate);
    }

minus_bounds : (X : List ℕ → List ℤ) (C : List ℕ → List Seg) (x y : ℤ) (u v : Form) → BoundsValue X C x u → BoundsValue X C y v → BoundsValue X C (x -ℤ y) (sum_form (λ x y. x -ℤ y) u v)
minus_bounds X C x y u v g h =
    let f : Use → ℕ = weighted_miss X C in
    let n : unsigned_abs ((pos (unit ^ max u.rank v.rank) *ℤ (x -ℤ y)) -ℤ ((pos (lift u.rank v.rank) *ℤ u.estimate) -ℤ (pos (lift v.rank u.rank) *ℤ v.estimate))) ≤ lift u.rank v.rank * sum_by f u.uses + lift v.rank u.rank * sum_by f v.uses =
    near_difference (pos (unit ^ u.rank)) (pos (unit ^ v.rank)) x y u.estimate v.estimate _ (lift u.rank v.rank) (lift v.rank u.rank) _ _ (ap pos (lifted u.rank v.rank)) (ap pos (ap (λ n. unit ^ n) (omega arith) ∙ lifted v.rank u.rank)) g.near h.near in
    record {
      near = rw (sum_by-append f (weigh (lift u.rank v.rank) u.uses) (weigh (lift v.rank u.rank) v.uses), sum_by-weigh X C (lift u.rank v.rank) u.uses, sum_by-weigh X C (lift v.rank u.rank) v.uses) n;
      small = omega (arith, g.small, h.small, abs--ℤ x y);
      small_estimate =
          let m1 : lift u.rank v.rank * unsigned_abs u.estimate ≤ lift u.rank v.rank * u.most_estimate = mul-le-mul (omega arith) g.small_estimate in
          let m2 : lift v.rank u.rank * unsigned_abs v.estimate ≤ lift v.rank u.rank * v.most_estimate = mul-le-mul (omega arith) h.small_estimate in
          omega (arith, abs--ℤ (pos (lift u.rank v.rank) *ℤ u.estimate) (pos (lift v.rank u.rank) *ℤ v.estimate), unsigned_abs-mul (pos (lift u.rank v.rank)) u.estimate, unsigned_abs-mul (pos (lift v.rank u.rank)) v.estimate);
    }

times_near_a : (X : List ℕ → List ℤ) (C : List ℕ → List Seg) (x y : ℤ) (u v : Form) → BoundsValue X C x u → BoundsValue X C y v → unsigned_abs ((pos (unit ^ (u.rank + v.rank)) *ℤ (x *ℤ y)) -ℤ (u.estimate *ℤ v.estimate)) ≤ sum_by (weighted_miss X C) (uses_a u v)
times_near_a X C x y u v g h =
    let f : Use → ℕ = weighted_miss X C in
    let n : unsigned_abs ((pos (unit ^ u.rank) *ℤ pos (unit ^ v.rank)) *ℤ (x *ℤ y) -ℤ (u.estimate *ℤ v.estimate)) ≤ v.most_estimate * sum_by f u.uses + (u.most * unit ^ u.rank) * sum_by f v.uses =
    near_product (pos (unit ^ u.rank)) (pos (unit ^ v.rank)) x y u.estimate v.estimate (unit ^ u.rank) u.most v.most_estimate _ _ refl g.near h.near g.small h.small_estimate in
    rw (pow-add unit u.rank v.rank, sum_by-append f (weigh v.most_estimate u.uses) (weigh (u.most * unit ^ u.rank) v.uses), sum_by-weigh X C v.most_estimate u.uses, sum_by-weigh X C (u.most * unit ^ u.rank) v.uses) n

times_near_b : (X : List ℕ → List ℤ) (C : List ℕ → List Seg) (x y : ℤ) (u v : Form) → BoundsValue X C x u → BoundsValue X C y v → unsigned_abs ((pos (unit ^ (u.rank + v.rank)) *ℤ (x *ℤ y)) -ℤ (u.estimate *ℤ v.estimate)) ≤ sum_by (weighted_miss X C) (uses_b u v)
times_near_b X C x y u v g h =
    let f : Use → ℕ = weighted_miss X C in
    let n : unsigned_abs ((pos (unit ^ u.rank) *ℤ pos (unit ^ v.rank)) *ℤ (x *ℤ y) -ℤ (u.estimate *ℤ v.estimate)) ≤ (v.most * unit ^ v.rank) * sum_by f u.uses + u.most_estimate * sum_by f v.uses =
    near_product_b (pos (unit ^ u.rank)) (pos (unit ^ v.rank)) x y u.estimate v.estimate (unit ^ v.rank) v.most u.most_estimate _ _ refl g.near h.near h.small g.small_estimate in
    rw (pow-add unit u.rank v.rank, sum_by-append f (weigh (v.most * unit ^ v.rank) u.uses) (weigh u.most_estimate v.uses), sum_by-weigh X C (v.most * unit ^ v.rank) u.uses, sum_by-weigh X C u.most_estimate v.uses) n

-- what holds of both choices holds of the one taken
of_choice : (P : List Use → Type 0) (b : Bool) (x y : List Use) → P x → P y → P (cond b x y)
of_choice P true x y h k = h
of_choice P false x y h k = k

times_bounds : (X : List ℕ → List ℤ) (C : List ℕ → List Seg) (x y : ℤ) (u v : Form) → BoundsValue X C x u → BoundsValue X C y v → BoundsValue X C (x *ℤ y) (product_form C u v)
times_bounds X C x y u v g h = record {
  near = of_choice (λ us. unsigned_abs ((pos (unit ^ (u.rank + v.rank)) *ℤ (x *ℤ y)) -ℤ (u.estimate *ℤ v.estimate)) ≤ sum_by (weighted_miss X C) us)
      (nat_le (cost C (uses_a u v)) (cost C (uses_b u v))) (uses_a u v) (uses_b u v) (times_near_a X C x y u v g h) (times_near_b X C x y u v g h);
  small = rw (unsigned_abs-mul x y) (mul-le-mul g.small h.small);
  small_estimate = rw (unsigned_abs-mul u.estimate v.estimate) (mul-le-mul g.small_estimate h.small_estimate);
}

-- over segments that hold at every position, the form of every series bounds its value
pub form_bounds : (X : List ℕ → List ℤ) (C : List ℕ → List Seg) (t : Term) (i : ℤ) → OfEachName (SegsHold X C) t → BoundsValue X C (series_value X t i) (form C t i)
form_bounds X C (base n) i all = base_bounds X C n i (all i)
form_bounds X C (constant v a b) i all = constant_bounds X C v
form_bounds X C (bare v) i all = constant_bounds X C v
form_bounds X C (plus u v) i all = plus_bounds X C _ _ _ _ (form_bounds X C u i all.0) (form_bounds X C v i all.1)
form_bounds X C (minus u v) i all = minus_bounds X C _ _ _ _ (form_bounds X C u i all.0) (form_bounds X C v i all.1)
form_bounds X C (times u v) i all = times_bounds X C _ _ _ _ (form_bounds X C u i all.0) (form_bounds X C v i all.1)
form_bounds X C (shift u k) i all = form_bounds X C u (i -ℤ k) all

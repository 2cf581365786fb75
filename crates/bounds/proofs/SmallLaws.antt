-- No number of a local form of an admitted series passes 2^125.
use Rattle.std.proofs.Common.{◌≡◌, ℕ, zero, suc, ◌+◌, ◌*◌, ◌^◌, ◌≤◌, ◌<◌, List, [], ◌∷◌, ◌++◌, length, get_or, ap, arith}
use Rattle.std.specs.Prelude.{All}
use Rattle.std.proofs.Math.Nat.{mul-le-mul, one-le-pow}
use Rattle.semantics.specs.Measures.{rank_of, units_of, FitsOver, InRange}
use Rattle.semantics.specs.Term.{Term, base, constant, bare, plus, minus, times, shift}
use Rattle.segment.specs.declared.segments.Seg.{Seg}
use Rattle.segment.specs.Measure.{unit}
use Rattle.bounds.specs.Magnitudes.{estimate_bound, error_bound, weight_bounds, miss_bounds, pair_sum, EachBelow, IsWithin}
use Rattle.bounds.specs.Shape.{Shape, shape, left_of, right_of, reads}
use Rattle.bounds.specs.Small.{AreSmallParts, IsSmall, IsSmallProduct, IsSmallShape, FormsAreSmall}
use Rattle.bounds.proofs.SaneLaws.{AreKept, reads_kept}
use Rattle.bounds.proofs.ShapeBounds.{a_below, b_below, cost_small, lengths_agree, magnitudes_fit, shape_within, weights_total}

-- each number of a list is at least 1
abbrev pub EachSome : List ℕ → Type 0
EachSome [] = Unit {0}
EachSome (x ∷ xs) = (1 ≤ x) × EachSome xs

EachSome-append : (xs ys : List ℕ) → EachSome xs → EachSome ys → EachSome (xs ++ ys)
EachSome-append [] ys h k = k
EachSome-append (x ∷ xs) ys h k = (h.0, EachSome-append xs ys h.1 k)

pub some_reach : (D : List ℕ → ℕ) (t : Term) → EachSome (miss_bounds D t)
some_reach D (base n) = (omega arith, tt)
some_reach D (constant v a b) = tt
some_reach D (bare v) = tt
some_reach D (plus u v) = EachSome-append _ _ (some_reach D u) (some_reach D v)
some_reach D (minus u v) = EachSome-append _ _ (some_reach D u) (some_reach D v)
some_reach D (times u v) = EachSome-append _ _ (some_reach D u) (some_reach D v)
some_reach D (shift u k) = some_reach D u

one_weight : (u w x s m : ℕ) → u ≤ w → 1 ≤ x → w * x + s ≤ m → u ≤ m
one_weight u w x s m h k l = let q : w * 1 ≤ w * x = mul-le-mul (omega arith) k in omega (arith, q)

-- what holds of the first and of all others holds of all
all_more : (m u : ℕ) (us : List ℕ) → u ≤ m → All (λ w. w ≤ m) us → All (λ w. w ≤ m) (u ∷ us)
all_more m u us h r = λ k d lt. at k d lt
  where
    at : (k d : ℕ) → k < length (u ∷ us) → get_or (u ∷ us) k d ≤ m
    at zero d lt = h
    at (suc k) d lt = r k d (omega arith)

-- no weight is above what all cost
pub each_within : (m : ℕ) (us ws xs : List ℕ) → EachBelow us ws → length ws ≡ length xs → EachSome xs → pair_sum ws xs ≤ m → All (λ w. w ≤ m) us
each_within m [] ws xs h e s l = λ k d lt. absurd (omega arith)
each_within m (u ∷ us) [] xs h e s l = absurd h
each_within m (u ∷ us) (w ∷ ws) [] h e s l = absurd (omega arith)
each_within m (u ∷ us) (w ∷ ws) (x ∷ xs) h e s l =
    all_more m u us (one_weight u w x (pair_sum ws xs) m h.0 s.0 l) (each_within m us ws xs h.1 (omega arith) s.1 (omega arith))

-- the whole term's magnitude, from that of all parts
pub whole_fits : (D : List ℕ → ℕ) (n : ℕ) (t : Term) → InRange D n t → FitsOver D n t
whole_fits D n (base m) h = h
whole_fits D n (constant v a b) h = h
whole_fits D n (bare v) h = h
whole_fits D n (plus u v) h = h.2
whole_fits D n (minus u v) h = h.2
whole_fits D n (times u v) h = h.2
whole_fits D n (shift u k) h = whole_fits D n u h

-- the magnitudes of value and error of a term over n positions, and of each position
pub record Magnitudes (D : List ℕ → ℕ) (n : ℕ) (t : Term) : Type 0 where
  pub both : n * (unit ^ rank_of t * estimate_bound D t) + n * (unit ^ rank_of t * error_bound D t) ≤ 2 ^ 125
  pub f : unit ^ rank_of t * estimate_bound D t ≤ 2 ^ 125
  pub e : unit ^ rank_of t * error_bound D t ≤ 2 ^ 125
  pub plain : estimate_bound D t ≤ 2 ^ 125

one_le : (n x m : ℕ) → 1 ≤ n → n * x ≤ m → x ≤ m
one_le n x m h k = let q : 1 * x ≤ n * x = mul-le-mul h (omega arith) in omega (arith, q)

pub magnitudes_of : (D : List ℕ → ℕ) (n : ℕ) (t : Term) → 1 ≤ n → FitsOver D n t → Magnitudes D n t
magnitudes_of D n t some h =
    let m : (unit ^ rank_of t * n) * (estimate_bound D t + error_bound D t) ≤ (unit ^ rank_of t * n) * units_of D t = mul-le-mul (omega arith) (magnitudes_fit D t) in
    let both : n * (unit ^ rank_of t * estimate_bound D t) + n * (unit ^ rank_of t * error_bound D t) ≤ 2 ^ 125 = omega (arith, m, h) in
    let f : unit ^ rank_of t * estimate_bound D t ≤ 2 ^ 125 = one_le n (unit ^ rank_of t * estimate_bound D t) (2 ^ 125) some (omega (arith, both)) in
    record {
      both = both;
      f = f;
      e = one_le n (unit ^ rank_of t * error_bound D t) (2 ^ 125) some (omega (arith, both));
      plain = one_le (unit ^ rank_of t) (estimate_bound D t) (2 ^ 125) (one-le-pow _ _ (omega arith)) f;
    }

pub small_whole : (D : List ℕ → ℕ) (n : ℕ) (t : Term) (s : Shape) → 1 ≤ n → rank_of t ≤ 3 → FitsOver D n t → IsWithin s (rank_of t) (estimate_bound D t) (weight_bounds D t) → IsSmallShape s
small_whole D n t s some low fit h =
    let m : Magnitudes D n t = magnitudes_of D n t some fit in
    record {
      rank = omega (arith, h.rank);
      most = omega (arith, h.most, m.plain);
      most_estimate = omega (arith, h.most_estimate, m.f);
      norm = omega (arith, h.norm, m.f);
      weights = each_within (2 ^ 125) s.weights (weight_bounds D t) (miss_bounds D t) h.weights (lengths_agree D t) (some_reach D t) (omega (arith, weights_total D t, m.e));
    }

product_small : (D : List ℕ → ℕ) (n : ℕ) (u v : Term) (gs : List Seg) → 1 ≤ n → rank_of u + rank_of v ≤ 3 → InRange D n (times u v) → AreKept D n (times u v) gs
    → IsWithin (shape u (left_of u gs)) (rank_of u) (estimate_bound D u) (weight_bounds D u) → IsWithin (shape v (right_of u gs)) (rank_of v) (estimate_bound D v) (weight_bounds D v)
    → IsSmallProduct (shape u (left_of u gs)) (shape v (right_of u gs)) gs
product_small D n u v gs some low fit sane h k =
    let mu : Magnitudes D n u = magnitudes_of D n u some (whole_fits D n u fit.0) in
    let mv : Magnitudes D n v = magnitudes_of D n v some (whole_fits D n v fit.1) in
    let m : Magnitudes D n (times u v) = magnitudes_of D n (times u v) some fit.2 in
    let ba = a_below (shape u (left_of u gs)) (shape v (right_of u gs)) _ _ _ _ _ _ h k in
    let bb = b_below (shape u (left_of u gs)) (shape v (right_of u gs)) _ _ _ _ _ _ h k in
    let eu : unit ^ (shape u (left_of u gs)).rank ≡ unit ^ rank_of u = ap (λ n. unit ^ n) h.rank in
    let ev : unit ^ (shape v (right_of u gs)).rank ≡ unit ^ rank_of v = ap (λ n. unit ^ n) k.rank in
    let ru : (shape u (left_of u gs)).most * unit ^ (shape u (left_of u gs)).rank ≤ estimate_bound D u * unit ^ rank_of u = mul-le-mul h.most (omega (arith, eu)) in
    let rv : (shape v (right_of u gs)).most * unit ^ (shape v (right_of u gs)).rank ≤ estimate_bound D v * unit ^ rank_of v = mul-le-mul k.most (omega (arith, ev)) in
    record {
      raised_u = omega (arith, ru, mu.f);
      raised_v = omega (arith, rv, mv.f);
      each_a = each_within (2 ^ 125) _ (weight_bounds D (times u v)) (miss_bounds D (times u v)) ba (lengths_agree D (times u v)) (some_reach D (times u v)) (omega (arith, weights_total D (times u v), m.e));
      each_b = each_within (2 ^ 125) _ (weight_bounds D (times u v)) (miss_bounds D (times u v)) bb (lengths_agree D (times u v)) (some_reach D (times u v)) (omega (arith, weights_total D (times u v), m.e));
      cost_a = omega (arith, cost_small D n (times u v) _ gs ba sane, m.both);
      cost_b = omega (arith, cost_small D n (times u v) _ gs bb sane, m.both);
    }

-- the whole and its two parts
small_parts : (D : List ℕ → ℕ) (n : ℕ) (u v t : Term) (a b s : Shape) → 1 ≤ n → rank_of u ≤ 3 → rank_of v ≤ 3 → rank_of t ≤ 3 → FitsOver D n u → FitsOver D n v → FitsOver D n t
    → IsWithin a (rank_of u) (estimate_bound D u) (weight_bounds D u) → IsWithin b (rank_of v) (estimate_bound D v) (weight_bounds D v) → IsWithin s (rank_of t) (estimate_bound D t) (weight_bounds D t)
    → AreSmallParts a b s
small_parts D n u v t a b s some ru rv rt fu fv ft hu hv ht = (small_whole D n u a some ru fu hu, small_whole D n v b some rv fv hv, small_whole D n t s some rt ft ht)

-- what is admitted is small over sane segments: no number of a local form passes 2^125
pub admitted_small : (D : List ℕ → ℕ) (n : ℕ) (t : Term) (gs : List Seg) → 1 ≤ n → rank_of t ≤ 3 → InRange D n t → AreKept D n t gs → IsSmall t gs
admitted_small D n (base m) gs some low fit sane = small_whole D n (base m) _ some low fit (shape_within D n (base m) gs sane)
admitted_small D n (constant v a b) gs some low fit sane = small_whole D n (constant v a b) _ some low fit (shape_within D n (constant v a b) gs tt)
admitted_small D n (bare v) gs some low fit sane = small_whole D n (bare v) _ some low fit (shape_within D n (bare v) gs tt)
admitted_small D n (plus u v) gs some low fit sane = (
  admitted_small D n u _ some (omega arith) fit.0 sane.0,
  admitted_small D n v _ some (omega arith) fit.1 sane.1,
  small_parts D n u v (plus u v) _ _ _ some (omega arith) (omega arith) low (whole_fits D n u fit.0) (whole_fits D n v fit.1) fit.2
      (shape_within D n u _ sane.0) (shape_within D n v _ sane.1) (shape_within D n (plus u v) gs sane),
)
admitted_small D n (minus u v) gs some low fit sane = (
  admitted_small D n u _ some (omega arith) fit.0 sane.0,
  admitted_small D n v _ some (omega arith) fit.1 sane.1,
  small_parts D n u v (minus u v) _ _ _ some (omega arith) (omega arith) low (whole_fits D n u fit.0) (whole_fits D n v fit.1) fit.2
      (shape_within D n u _ sane.0) (shape_within D n v _ sane.1) (shape_within D n (minus u v) gs sane),
)
admitted_small D n (times u v) gs some low fit sane = (
  admitted_small D n u _ some (omega arith) fit.0 sane.0,
  admitted_small D n v _ some (omega arith) fit.1 sane.1,
  small_parts D n u v (times u v) _ _ _ some (omega arith) (omega arith) low (whole_fits D n u fit.0) (whole_fits D n v fit.1) fit.2
      (shape_within D n u _ sane.0) (shape_within D n v _ sane.1) (shape_within D n (times u v) gs sane),
  product_small D n u v gs some low fit sane (shape_within D n u _ sane.0) (shape_within D n v _ sane.1),
)
admitted_small D n (shift u k) gs some low fit sane = admitted_small D n u gs some low fit sane

pub forms_small : FormsAreSmall
forms_small D n C t i some low fit sane = admitted_small D n t (reads C t i) some low fit (reads_kept D n C t i sane)

-- Shapes over sane segments are within the magnitudes of their series.
use Rattle.std.proofs.Common.{◌≡◌, ℕ, zero, suc, max, ◌+◌, ◌*◌, ◌^◌, ◌≤◌, Bool, true, false, cond, nat_le, List, [], ◌∷◌, ◌++◌, length, take, drop, refl, sym, ap, ◌∙◌, arith, length-append}
use Rattle.std.proofs.Math.Nat.{mul-le-mul}
use Rattle.std.proofs.lemmas.Nat.{pow-add}
use Rattle.std.proofs.lemmas.List.{length-map}
use Rattle.semantics.specs.Measures.{rank_of, names_in, units_of}
use Rattle.semantics.specs.Term.{Term, base, constant, bare, plus, minus, times, shift}
use Rattle.segment.specs.declared.segments.Seg.{Seg}
use Rattle.segment.specs.Measure.{unit}
use Rattle.bounds.specs.Form.{lift}
use Rattle.bounds.specs.Magnitudes.{estimate_bound, error_bound, weight_bounds, miss_bounds, pair_sum, EachBelow, IsWithin}
use Rattle.bounds.specs.Shape.{Shape, cost_over, times_each, sum_shape, product_shape, weights_a, weights_b, shape, first_of}
use Rattle.bounds.proofs.FormBounds.{lifted}
use Rattle.bounds.proofs.SaneLaws.{AreKept, KeepsBounds}

-- ---- the units

fits_sum : (f e h g d k : ℕ) → f + e ≤ h → g + d ≤ k → f * g + (f * d + g * e) ≤ h * k
fits_sum f e h g d k p q = let m : (f + e) * (g + d) ≤ h * k = mul-le-mul p q in omega arith

-- value and error together are within the units
pub magnitudes_fit : (D : List ℕ → ℕ) (t : Term) → estimate_bound D t + error_bound D t ≤ units_of D t
magnitudes_fit D (base n) = omega arith
magnitudes_fit D (constant v a b) = omega arith
magnitudes_fit D (bare v) = omega arith
magnitudes_fit D (plus u v) = omega (arith, magnitudes_fit D u, magnitudes_fit D v)
magnitudes_fit D (minus u v) = omega (arith, magnitudes_fit D u, magnitudes_fit D v)
magnitudes_fit D (times u v) = fits_sum _ _ _ _ _ _ (magnitudes_fit D u) (magnitudes_fit D v)
magnitudes_fit D (shift u k) = magnitudes_fit D u

-- ---- weights below their bounds

EachBelow-append : (us vs : List ℕ) (ws xs : List ℕ) → EachBelow us ws → EachBelow vs xs → EachBelow (us ++ vs) (ws ++ xs)
EachBelow-append [] vs [] xs h k = k
EachBelow-append [] vs (w ∷ ws) xs h k = absurd h
EachBelow-append (u ∷ us) vs [] xs h k = absurd h
EachBelow-append (u ∷ us) vs (w ∷ ws) xs h k = (h.0, EachBelow-append us vs ws xs h.1 k)

EachBelow-times : (j k : ℕ) (us : List ℕ) (ws : List ℕ) → j ≤ k → EachBelow us ws → EachBelow (times_each j us) (times_each k ws)
EachBelow-times j k [] [] l h = tt
EachBelow-times j k [] (w ∷ ws) l h = absurd h
EachBelow-times j k (u ∷ us) [] l h = absurd h
EachBelow-times j k (u ∷ us) (w ∷ ws) l h = (mul-le-mul l h.0, EachBelow-times j k us ws l h.1)

either_below : (b : Bool) (us vs ws : List ℕ) → EachBelow us ws → EachBelow vs ws → EachBelow (cond b us vs) ws
either_below true us vs ws h k = h
either_below false us vs ws h k = k

pub lifted_sum : (r s a b f g x y : ℕ) → x ≤ unit ^ r * f → y ≤ unit ^ s * g → a ≡ lift r s → b ≡ lift s r → a * x + b * y ≤ unit ^ max r s * (f + g)
lifted_sum r s a b f g x y h k ea eb =
    let m1 : lift r s * x ≤ lift r s * (unit ^ r * f) = mul-le-mul (omega arith) h in
    let m2 : lift s r * y ≤ lift s r * (unit ^ s * g) = mul-le-mul (omega arith) k in
    let e1 : unit ^ max r s * f ≡ lift r s * unit ^ r * f = ap (λ n. n * f) (lifted r s) in
    let e2 : unit ^ max r s * g ≡ lift s r * unit ^ s * g = ap (λ n. n * g) (ap (λ n. unit ^ n) (omega arith) ∙ lifted s r) in
    rw (ea, eb) (omega (arith, m1, m2, e1, e2))

sum_within : (u v : Shape) (r s f g : ℕ) (ws xs : List ℕ) → IsWithin u r f ws → IsWithin v s g xs
    → IsWithin (sum_shape u v) (max r s) (f + g) (times_each (lift r s) ws ++ times_each (lift s r) xs)
sum_within u v r s f g ws xs h k =
    let e : lift u.rank v.rank ≡ lift r s = rw (h.rank, k.rank) refl in
    let d : lift v.rank u.rank ≡ lift s r = rw (h.rank, k.rank) refl in
    record {
      rank = rw (h.rank, k.rank) refl;
      most = omega (arith, h.most, k.most);
      most_estimate = lifted_sum r s _ _ f g u.most_estimate v.most_estimate h.most_estimate k.most_estimate e d;
      norm = lifted_sum r s _ _ f g u.norm v.norm h.norm k.norm e d;
      weights = EachBelow-append _ _ _ _ (EachBelow-times _ _ _ _ (omega (arith, e)) h.weights) (EachBelow-times _ _ _ _ (omega (arith, d)) k.weights);
    }

pub product_size : (r s f g x y : ℕ) → x ≤ unit ^ r * f → y ≤ unit ^ s * g → x * y ≤ unit ^ (r + s) * (f * g)
product_size r s f g x y h k =
    let m : x * y ≤ (unit ^ r * f) * (unit ^ s * g) = mul-le-mul h k in
    let p : unit ^ (r + s) * (f * g) ≡ unit ^ r * unit ^ s * (f * g) = ap (λ n. n * (f * g)) (pow-add unit r s) in
    omega (arith, m, p)

-- the weights of either form of a product are within the same bounds
pub a_below : (u v : Shape) (r s f g : ℕ) (ws xs : List ℕ) → IsWithin u r f ws → IsWithin v s g xs
    → EachBelow (weights_a u v) (times_each (unit ^ s * g) ws ++ times_each (unit ^ r * f) xs)
a_below u v r s f g ws xs h k =
    let e : unit ^ u.rank ≡ unit ^ r = ap (λ n. unit ^ n) h.rank in
    let m : u.most * unit ^ u.rank ≤ f * unit ^ r = mul-le-mul h.most (omega arith) in
    EachBelow-append _ _ _ _ (EachBelow-times _ _ _ _ k.most_estimate h.weights) (EachBelow-times _ _ _ _ (omega (arith, m)) k.weights)

pub b_below : (u v : Shape) (r s f g : ℕ) (ws xs : List ℕ) → IsWithin u r f ws → IsWithin v s g xs
    → EachBelow (weights_b u v) (times_each (unit ^ s * g) ws ++ times_each (unit ^ r * f) xs)
b_below u v r s f g ws xs h k =
    let e : unit ^ v.rank ≡ unit ^ s = ap (λ n. unit ^ n) k.rank in
    let m : v.most * unit ^ v.rank ≤ g * unit ^ s = mul-le-mul k.most (omega arith) in
    EachBelow-append _ _ _ _ (EachBelow-times _ _ _ _ (omega (arith, m)) h.weights) (EachBelow-times _ _ _ _ h.most_estimate k.weights)

product_within : (gs : List Seg) (u v : Shape) (r s f g : ℕ) (ws xs : List ℕ) → IsWithin u r f ws → IsWithin v s g xs
    → IsWithin (product_shape gs u v) (r + s) (f * g) (times_each (unit ^ s * g) ws ++ times_each (unit ^ r * f) xs)
product_within gs u v r s f g ws xs h k = record {
  rank = omega (arith, h.rank, k.rank);
  most = mul-le-mul h.most k.most;
  most_estimate = product_size r s f g _ _ h.most_estimate k.most_estimate;
  norm = product_size r s f g _ _ h.norm k.norm;
  weights = either_below (nat_le (cost_over (weights_a u v) gs) (cost_over (weights_b u v) gs)) (weights_a u v) (weights_b u v) _
      (a_below u v r s f g ws xs h k) (b_below u v r s f g ws xs h k);
}

-- every shape over sane segments is within the magnitudes
pub shape_within : (D : List ℕ → ℕ) (n : ℕ) (t : Term) (gs : List Seg) → AreKept D n t gs → IsWithin (shape t gs) (rank_of t) (estimate_bound D t) (weight_bounds D t)
shape_within D n (base m) gs h = record {
  rank = refl;
  most = omega (arith, h.0.d);
  most_estimate = omega (arith, h.0.f);
  norm = omega (arith, h.0.a, h.0.b, h.0.c);
  weights = (omega arith, tt);
}
shape_within D n (constant v a b) gs h = record { rank = refl; most = omega arith; most_estimate = omega arith; norm = omega arith; weights = tt }
shape_within D n (bare v) gs h = record { rank = refl; most = omega arith; most_estimate = omega arith; norm = omega arith; weights = tt }
shape_within D n (plus u v) gs h = sum_within _ _ _ _ _ _ _ _ (shape_within D n u _ h.0) (shape_within D n v _ h.1)
shape_within D n (minus u v) gs h = sum_within _ _ _ _ _ _ _ _ (shape_within D n u _ h.0) (shape_within D n v _ h.1)
shape_within D n (times u v) gs h = product_within gs _ _ _ _ _ _ _ _ (shape_within D n u _ h.0) (shape_within D n v _ h.1)
shape_within D n (shift u k) gs h = shape_within D n u gs h

pub length-miss_bounds : (D : List ℕ → ℕ) (t : Term) → length (miss_bounds D t) ≡ names_in t
length-miss_bounds D (base n) = refl
length-miss_bounds D (constant v a b) = refl
length-miss_bounds D (bare v) = refl
length-miss_bounds D (plus u v) = omega (arith, length-append (miss_bounds D u) (miss_bounds D v), length-miss_bounds D u, length-miss_bounds D v)
length-miss_bounds D (minus u v) = omega (arith, length-append (miss_bounds D u) (miss_bounds D v), length-miss_bounds D u, length-miss_bounds D v)
length-miss_bounds D (times u v) = omega (arith, length-append (miss_bounds D u) (miss_bounds D v), length-miss_bounds D u, length-miss_bounds D v)
length-miss_bounds D (shift u k) = length-miss_bounds D u

length_two : (j k m n : ℕ) (ws xs : List ℕ) → length ws ≡ m → length xs ≡ n → length (times_each j ws ++ times_each k xs) ≡ m + n
length_two j k m n ws xs h g = omega (arith, length-append (times_each j ws) (times_each k xs), length-map ws (λ w. j * w), length-map xs (λ w. k * w))

pub length-weight_bounds : (D : List ℕ → ℕ) (t : Term) → length (weight_bounds D t) ≡ names_in t
length-weight_bounds D (base n) = refl
length-weight_bounds D (constant v a b) = refl
length-weight_bounds D (bare v) = refl
length-weight_bounds D (plus u v) = length_two _ _ _ _ _ _ (length-weight_bounds D u) (length-weight_bounds D v)
length-weight_bounds D (minus u v) = length_two _ _ _ _ _ _ (length-weight_bounds D u) (length-weight_bounds D v)
length-weight_bounds D (times u v) = length_two _ _ _ _ _ _ (length-weight_bounds D u) (length-weight_bounds D v)
length-weight_bounds D (shift u k) = length-weight_bounds D u

pub lengths_agree : (D : List ℕ → ℕ) (t : Term) → length (weight_bounds D t) ≡ length (miss_bounds D t)
lengths_agree D t = length-weight_bounds D t ∙ sym (length-miss_bounds D t)

pair_sum-append : (ws vs xs ys : List ℕ) → length ws ≡ length xs → pair_sum (ws ++ vs) (xs ++ ys) ≡ pair_sum ws xs + pair_sum vs ys
pair_sum-append [] vs [] ys h = omega arith
pair_sum-append [] vs (x ∷ xs) ys h = absurd (omega arith)
pair_sum-append (w ∷ ws) vs [] ys h = absurd (omega arith)
pair_sum-append (w ∷ ws) vs (x ∷ xs) ys h = omega (arith, pair_sum-append ws vs xs ys (omega arith))

pair_sum-times : (k : ℕ) (ws xs : List ℕ) → pair_sum (times_each k ws) xs ≡ k * pair_sum ws xs
pair_sum-times k [] xs = omega arith
pair_sum-times k (w ∷ ws) [] = omega arith
pair_sum-times k (w ∷ ws) (x ∷ xs) = omega (arith, pair_sum-times k ws xs)

two_sums : (j k m : ℕ) (ws vs xs ys : List ℕ) → length ws ≡ m → length xs ≡ m → pair_sum (times_each j ws ++ times_each k vs) (xs ++ ys) ≡ j * pair_sum ws xs + k * pair_sum vs ys
two_sums j k m ws vs xs ys h g =
    pair_sum-append (times_each j ws) (times_each k vs) xs ys (length-map ws (λ w. j * w) ∙ h ∙ sym g)
    ∙ ap (λ n. n + pair_sum (times_each k vs) ys) (pair_sum-times j ws xs)
    ∙ ap (λ n. j * pair_sum ws xs + n) (pair_sum-times k vs ys)

sum_total : (r s f g x y : ℕ) → x ≡ unit ^ r * f → y ≡ unit ^ s * g → lift r s * x + lift s r * y ≡ unit ^ max r s * (f + g)
sum_total r s f g x y h k =
    let e1 : unit ^ max r s * f ≡ lift r s * unit ^ r * f = ap (λ n. n * f) (lifted r s) in
    let e2 : unit ^ max r s * g ≡ lift s r * unit ^ s * g = ap (λ n. n * g) (ap (λ n. unit ^ n) (omega arith) ∙ lifted s r) in
    rw (h, k) (omega (arith, e1, e2))

product_total : (r s f g e d x y : ℕ) → x ≡ unit ^ r * e → y ≡ unit ^ s * d → (unit ^ s * g) * x + (unit ^ r * f) * y ≡ unit ^ (r + s) * (f * d + g * e)
product_total r s f g e d x y h k =
    let p : unit ^ (r + s) * (f * d + g * e) ≡ unit ^ r * unit ^ s * (f * d + g * e) = ap (λ n. n * (f * d + g * e)) (pow-add unit r s) in
    rw (h, k) (omega (arith, p))

-- all weights at their bounds cost, for each position, as much as the error's magnitude
pub weights_total : (D : List ℕ → ℕ) (t : Term) → pair_sum (weight_bounds D t) (miss_bounds D t) ≡ unit ^ rank_of t * error_bound D t
weights_total D (base n) = omega arith
weights_total D (constant v a b) = omega arith
weights_total D (bare v) = omega arith
weights_total D (plus u v) = two_sums _ _ _ (weight_bounds D u) _ (miss_bounds D u) _ (length-weight_bounds D u) (length-miss_bounds D u) ∙ sum_total _ _ _ _ _ _ (weights_total D u) (weights_total D v)
weights_total D (minus u v) = two_sums _ _ _ (weight_bounds D u) _ (miss_bounds D u) _ (length-weight_bounds D u) (length-miss_bounds D u) ∙ sum_total _ _ _ _ _ _ (weights_total D u) (weights_total D v)
weights_total D (times u v) = two_sums _ _ _ (weight_bounds D u) _ (miss_bounds D u) _ (length-weight_bounds D u) (length-miss_bounds D u) ∙ product_total (rank_of u) (rank_of v) (estimate_bound D u) (estimate_bound D v) _ _ _ _ (weights_total D u) (weights_total D v)
weights_total D (shift u k) = weights_total D u

-- the l of each segment is at most so much for each of n positions
abbrev pub Reaches : ℕ → List Seg → List ℕ → Type 0
Reaches n gs [] = Unit {0}
Reaches n [] (x ∷ xs) = Unit {0}
Reaches n (g ∷ gs) (x ∷ xs) = (g.l ≤ x * n) × Reaches n gs xs

Reaches-join : (n k : ℕ) (gs : List Seg) (xs ys : List ℕ) → length xs ≡ k → Reaches n (take k gs) xs → Reaches n (drop k gs) ys → Reaches n gs (xs ++ ys)
Reaches-join n zero gs [] ys e h k = k
Reaches-join n (suc m) gs [] ys e h k = absurd (omega arith)
Reaches-join n zero gs (x ∷ xs) ys e h k = absurd (omega arith)
Reaches-join n (suc m) [] (x ∷ xs) ys e h k = tt
Reaches-join n (suc m) (g ∷ gs) (x ∷ xs) ys e h k = (h.0, Reaches-join n m gs xs ys (omega arith) h.1 k)

one_reaches : (n d : ℕ) (gs : List Seg) → KeepsBounds d (first_of gs) → (first_of gs).len ≤ n → Reaches n gs ((25 * unit * max 1 d) ∷ [])
one_reaches n d [] h k = tt
one_reaches n d (g ∷ gs) h k = let m : (25 * unit * max 1 d) * g.len ≤ (25 * unit * max 1 d) * n = mul-le-mul (omega arith) k in (omega (arith, h.l, m), tt)

pub sane_reaches : (D : List ℕ → ℕ) (n : ℕ) (t : Term) (gs : List Seg) → AreKept D n t gs → Reaches n gs (miss_bounds D t)
sane_reaches D n (base m) gs h = one_reaches n (D m) gs h.0 h.1
sane_reaches D n (constant v a b) gs h = tt
sane_reaches D n (bare v) gs h = tt
sane_reaches D n (plus u v) gs h = Reaches-join n (names_in u) gs _ _ (length-miss_bounds D u) (sane_reaches D n u _ h.0) (sane_reaches D n v _ h.1)
sane_reaches D n (minus u v) gs h = Reaches-join n (names_in u) gs _ _ (length-miss_bounds D u) (sane_reaches D n u _ h.0) (sane_reaches D n v _ h.1)
sane_reaches D n (times u v) gs h = Reaches-join n (names_in u) gs _ _ (length-miss_bounds D u) (sane_reaches D n u _ h.0) (sane_reaches D n v _ h.1)
sane_reaches D n (shift u k) gs h = sane_reaches D n u gs h

pub cost_over-within : (n : ℕ) (us ws xs : List ℕ) (gs : List Seg) → EachBelow us ws → length ws ≡ length xs → Reaches n gs xs → cost_over us gs ≤ pair_sum ws xs * n
cost_over-within n [] ws xs gs h e k = omega arith
cost_over-within n (u ∷ us) [] xs gs h e k = absurd h
cost_over-within n (u ∷ us) (w ∷ ws) [] gs h e k = absurd (omega arith)
cost_over-within n (u ∷ us) (w ∷ ws) (x ∷ xs) [] h e k = omega arith
cost_over-within n (u ∷ us) (w ∷ ws) (x ∷ xs) (g ∷ gs) h e k =
    let m : u * g.l ≤ w * (x * n) = mul-le-mul h.0 k.0 in
    omega (arith, m, cost_over-within n us ws xs gs h.1 (omega arith) k.1)

-- weights within their bounds cost no more than the error's magnitude over n positions
pub cost_small : (D : List ℕ → ℕ) (n : ℕ) (t : Term) (us : List ℕ) (gs : List Seg) → EachBelow us (weight_bounds D t) → AreKept D n t gs → cost_over us gs ≤ n * (unit ^ rank_of t * error_bound D t)
cost_small D n t us gs h sane =
    let d : cost_over us gs ≤ pair_sum (weight_bounds D t) (miss_bounds D t) * n = cost_over-within n us (weight_bounds D t) (miss_bounds D t) gs h (lengths_agree D t) (sane_reaches D n t gs sane) in
    let e : pair_sum (weight_bounds D t) (miss_bounds D t) * n ≡ (unit ^ rank_of t * error_bound D t) * n = ap (λ x. x * n) (weights_total D t) in
    omega (arith, d, e)

-- The numbers of forms and of sums over sane segments are within the magnitudes of their series.
use Rattle.std.proofs.Common.{◌≡◌, ℕ, zero, suc, max, ◌+◌, ◌*◌, ◌^◌, ◌≤◌, ◌<◌, ℤ, pos, ◌+ℤ◌, ◌-ℤ◌, ◌*ℤ◌, unsigned_abs, Bool, true, false, cond, List, [], ◌∷◌, map, length, get_or, refl, sym, ap, ◌∙◌, arith}
use Rattle.std.specs.List.{sum_by, AllByRecursion}
use Rattle.std.proofs.Math.Nat.{mul-le-mul}
use Rattle.std.proofs.lemmas.Int.{unsigned_abs-mul}
use Rattle.std.proofs.lemmas.List.{get_or-map, map-append}
use Rattle.std.proofs.lemmas.List.Sums.{sum_by-cons}
use Rattle.semantics.specs.Measures.{names_in, rank_of, top, units_of}
use Rattle.semantics.specs.Sums.{sum_below}
use Rattle.semantics.specs.Term.{Term, base, constant, bare, plus, minus, times, shift}
use Rattle.semantics.proofs.Ring.{abs-+ℤ, abs--ℤ}
use Rattle.semantics.proofs.SumLaws.{abs-total_below, most_below-le}
use Rattle.segment.specs.declared.segments.Seg.{Seg}
use Rattle.segment.specs.Measure.{unit}
use Rattle.bounds.specs.Cut.{Entry, Occurrence, occurrences, occurrence_at, no_occurrence, segs_of, weight_at, weight_in, most_weight, greatest_weight, estimate_from, sum_error, sum_estimate, AreDistinct}
use Rattle.bounds.specs.Form.{form, lift}
use Rattle.bounds.specs.Magnitudes.{estimate_bound, error_bound, weight_bounds, miss_bounds, pair_sum, EachBelow, IsFormWithin, IsSumWithin, NumbersAreWithin}
use Rattle.bounds.specs.Segments.{covers, len_of, AreSaneFor, HasSaneSegs, IsSaneFor, OfEachName}
use Rattle.bounds.specs.Shape.{shape, reads}
use Rattle.bounds.proofs.ChargeLaws.{by_occurrences, charge_in, part_of, parts_are}
use Rattle.bounds.proofs.OccurrenceLaws.{at_occurrence, length-occurrences, rank-form}
use Rattle.bounds.proofs.SaneLaws.{found_estimate, keeps_bounds, reads_kept}
use Rattle.bounds.proofs.ShapeBounds.{cost_small, length-miss_bounds, length-weight_bounds, lifted_sum, magnitudes_fit, product_size, shape_within, weights_total}
use Rattle.bounds.proofs.ShapeLaws.{cost_by_reads, weight_by_reads}
use Rattle.bounds.proofs.SmallLaws.{whole_fits}
use Rattle.bounds.proofs.Sums.{sum_below-front, sum_below-mono, sum_below-scale}

-- ---- estimates

joined_estimate : (r s f g a b : ℕ) (x y : ℤ) → a ≡ r → b ≡ s → unsigned_abs x ≤ unit ^ r * f → unsigned_abs y ≤ unit ^ s * g
    → unsigned_abs (pos (lift a b) *ℤ x) + unsigned_abs (pos (lift b a) *ℤ y) ≤ unit ^ max r s * (f + g)
joined_estimate r s f g a b x y ea eb h k =
    let m = lifted_sum r s (lift a b) (lift b a) f g (unsigned_abs x) (unsigned_abs y) h k (rw (ea, eb) refl) (rw (ea, eb) refl) in
    omega (arith, m, unsigned_abs-mul (pos (lift a b)) x, unsigned_abs-mul (pos (lift b a)) y)

estimate_within : (D : List ℕ → ℕ) (n : ℕ) (C : List ℕ → List Seg) (t : Term) (i : ℤ) → OfEachName (HasSaneSegs D n C) t → unsigned_abs (form C t i).estimate ≤ unit ^ rank_of t * estimate_bound D t
estimate_within D n C (base m) i h = omega (arith, found_estimate (D m) (C m) i h.each)
estimate_within D n C (constant v a b) i h = omega arith
estimate_within D n C (bare v) i h = omega arith
estimate_within D n C (plus u v) i h =
    let m = joined_estimate (rank_of u) (rank_of v) _ _ _ _ (form C u i).estimate (form C v i).estimate (rank-form C u i) (rank-form C v i) (estimate_within D n C u i h.0) (estimate_within D n C v i h.1) in
    omega (arith, m, abs-+ℤ (pos (lift (form C u i).rank (form C v i).rank) *ℤ (form C u i).estimate) (pos (lift (form C v i).rank (form C u i).rank) *ℤ (form C v i).estimate))
estimate_within D n C (minus u v) i h =
    let m = joined_estimate (rank_of u) (rank_of v) _ _ _ _ (form C u i).estimate (form C v i).estimate (rank-form C u i) (rank-form C v i) (estimate_within D n C u i h.0) (estimate_within D n C v i h.1) in
    omega (arith, m, abs--ℤ (pos (lift (form C u i).rank (form C v i).rank) *ℤ (form C u i).estimate) (pos (lift (form C v i).rank (form C u i).rank) *ℤ (form C v i).estimate))
estimate_within D n C (times u v) i h =
    let m = product_size (rank_of u) (rank_of v) _ _ (unsigned_abs (form C u i).estimate) (unsigned_abs (form C v i).estimate) (estimate_within D n C u i h.0) (estimate_within D n C v i h.1) in
    omega (arith, m, unsigned_abs-mul (form C u i).estimate (form C v i).estimate)
estimate_within D n C (shift u k) i h = estimate_within D n C u (i -ℤ k) h

form_within : (D : List ℕ → ℕ) (n : ℕ) (C : List ℕ → List Seg) (t : Term) (i : ℤ) → OfEachName (HasSaneSegs D n C) t → IsFormWithin D n C t i
form_within D n C t i h =
    let kept = reads_kept D n C t i h in
    let within = shape_within D n t (reads C t i) kept in
    record {
      within = within;
      estimate = estimate_within D n C t i h;
      costs = omega (arith, cost_by_reads C t i, cost_small D n t (shape t (reads C t i)).weights (reads C t i) within.weights kept);
    }

-- ---- charges

below_at : (us ws : List ℕ) (o : ℕ) → EachBelow us ws → get_or us o 0 ≤ get_or ws o 0
below_at [] [] o h = omega arith
below_at [] (w ∷ ws) o h = absurd h
below_at (u ∷ us) [] o h = absurd h
below_at (u ∷ us) (w ∷ ws) zero h = h.0
below_at (u ∷ us) (w ∷ ws) (suc o) h = below_at us ws o h.1

-- no weight at any position is above its bound
weight_within : (D : List ℕ → ℕ) (n : ℕ) (C : List ℕ → List Seg) (t : Term) (l : ℤ) (o j : ℕ) → OfEachName (HasSaneSegs D n C) t → o < names_in t → weight_at C t l o j ≤ get_or (weight_bounds D t) o 0
weight_within D n C t l o j h lt =
    let s = shape_within D n t (reads C t (l +ℤ pos j)) (reads_kept D n C t (l +ℤ pos j) h) in
    omega (arith, weight_by_reads C t l o j lt, below_at _ _ o s.weights)

cond_within : (b : Bool) (x m : ℕ) → x ≤ m → cond b x 0 ≤ m
cond_within true x m h = h
cond_within false x m h = omega arith

most_weight-within : (w : ℕ → ℕ) (n : ℕ) (at : ℤ) (g : Seg) (m : ℕ) → ((j : ℕ) → w j ≤ m) → most_weight w n at g ≤ m
most_weight-within w n at g m h = most_below-le (weight_in w at g) n m (λ j _. cond_within (covers g (at +ℤ pos j)) (w j) m (h j))

-- all l of a name's segments are at most a bound for each position
sum_l : (most : ℕ) (gs : List Seg) (k : ℕ) (c : Seg → ℕ) → AllByRecursion (IsSaneFor most) gs → ((g : Seg) → c g ≤ g.l * k) → sum_by c gs ≤ k * (25 * unit * max 1 most * sum_by len_of gs)
sum_l most [] k c h le = omega arith
sum_l most (g ∷ gs) k c h le =
    let m : g.l * k ≤ (25 * unit * max 1 most * g.len) * k = mul-le-mul (keeps_bounds most g h.0).l (omega arith) in
    let e : sum_by len_of (g ∷ gs) ≡ g.len + sum_by len_of gs = sum_by-cons len_of g gs in
    let p : k * (25 * unit * max 1 most * sum_by len_of (g ∷ gs)) ≡ k * (25 * unit * max 1 most * (g.len + sum_by len_of gs)) = ap (λ x. k * (25 * unit * max 1 most * x)) e in
    let q : sum_by c (g ∷ gs) ≡ c g + sum_by c gs = sum_by-cons c g gs in
    omega (arith, m, le g, p, q, sum_l most gs k c h.1 le)

name_charges : (most n : ℕ) (gs : List Seg) (k : ℕ) (c : Seg → ℕ) → AreSaneFor most n gs → ((g : Seg) → c g ≤ g.l * k) → sum_by c gs ≤ k * (25 * unit * max 1 most * n)
name_charges most n gs k c h le =
    let r : (25 * unit * max 1 most) * sum_by len_of gs ≤ (25 * unit * max 1 most) * n = mul-le-mul (omega arith) h.few in
    let u : k * ((25 * unit * max 1 most) * sum_by len_of gs) ≤ k * ((25 * unit * max 1 most) * n) = mul-le-mul (omega arith) r in
    omega (arith, sum_l most gs k c h.each le, u)

pair_sum-places : (ws xs : List ℕ) (n : ℕ) → length ws ≡ n → length xs ≡ n → pair_sum ws xs ≡ sum_below (λ o. get_or ws o 0 * get_or xs o 0) n
pair_sum-places [] xs zero h k = refl
pair_sum-places [] xs (suc n) h k = absurd (omega arith)
pair_sum-places (w ∷ ws) xs zero h k = absurd (omega arith)
pair_sum-places (w ∷ ws) [] (suc n) h k = absurd (omega arith)
pair_sum-places (w ∷ ws) (x ∷ xs) (suc n) h k =
    omega (arith, sum_below-front (λ o. get_or (w ∷ ws) o 0 * get_or (x ∷ xs) o 0) n, pair_sum-places ws xs n (omega arith) (omega arith))

abbrev miss_bound : (List ℕ → ℕ) → Occurrence → ℕ
miss_bound D o = 25 * unit * top D o.name

miss_bounds-are : (D : List ℕ → ℕ) (t : Term) (i : ℤ) → miss_bounds D t ≡ map (miss_bound D) (occurrences t i)
miss_bounds-are D (base n) i = refl
miss_bounds-are D (constant v a b) i = refl
miss_bounds-are D (bare v) i = refl
miss_bounds-are D (plus u v) i = rw (miss_bounds-are D u i, miss_bounds-are D v i) (sym (map-append (miss_bound D) (occurrences u i) (occurrences v i)))
miss_bounds-are D (minus u v) i = rw (miss_bounds-are D u i, miss_bounds-are D v i) (sym (map-append (miss_bound D) (occurrences u i) (occurrences v i)))
miss_bounds-are D (times u v) i = rw (miss_bounds-are D u i, miss_bounds-are D v i) (sym (map-append (miss_bound D) (occurrences u i) (occurrences v i)))
miss_bounds-are D (shift u k) i = miss_bounds-are D u (i -ℤ k)

miss_bounds-at : (D : List ℕ → ℕ) (t : Term) (i : ℤ) (o : ℕ) → o < names_in t → get_or (miss_bounds D t) o 0 ≡ miss_bound D (occurrence_at t i o)
miss_bounds-at D t i o lt = ap (λ xs. get_or xs o 0) (miss_bounds-are D t i) ∙ get_or-map (miss_bound D) (occurrences t i) o no_occurrence 0 (omega (arith, length-occurrences t i))

-- what one occurrence is charged
occurrence_within : (D : List ℕ → ℕ) (n : ℕ) (es : List Entry) (t : Term) (l : ℤ) (m o : ℕ) → AreDistinct es → OfEachName (HasSaneSegs D n (segs_of es)) t → o < names_in t
    → sum_by (part_of (charge_in (greatest_weight (segs_of es) t l m) t l o) (occurrence_at t l o).name) es ≤ n * (get_or (weight_bounds D t) o 0 * get_or (miss_bounds D t) o 0)
occurrence_within D n es t l m o distinct h lt =
    let le : (g : Seg) → charge_in (greatest_weight (segs_of es) t l m) t l o g ≤ g.l * get_or (weight_bounds D t) o 0 =
    λ g. mul-le-mul (omega arith) (most_weight-within (weight_at (segs_of es) t l o) m (occurrence_at t l o).at g (get_or (weight_bounds D t) o 0) (λ j. weight_within D n (segs_of es) t l o j h lt)) in
    let sane : AreSaneFor (D (occurrence_at t l o).name) n (segs_of es (occurrence_at t l o).name) = at_occurrence (HasSaneSegs D n (segs_of es)) t l o h lt in
    let p = name_charges (D (occurrence_at t l o).name) n (segs_of es (occurrence_at t l o).name) (get_or (weight_bounds D t) o 0) (charge_in (greatest_weight (segs_of es) t l m) t l o) sane le in
    let r : get_or (weight_bounds D t) o 0 * (get_or (miss_bounds D t) o 0 * n) ≡ get_or (weight_bounds D t) o 0 * (25 * unit * top D (occurrence_at t l o).name * n) =
    ap (λ x. get_or (weight_bounds D t) o 0 * (x * n)) (miss_bounds-at D t l o lt) in
    omega (arith, parts_are (charge_in (greatest_weight (segs_of es) t l m) t l o) (occurrence_at t l o).name es distinct, p, r)

-- all charges together are at most the bound on errors, n times
charges_within : (D : List ℕ → ℕ) (n : ℕ) (es : List Entry) (t : Term) (l : ℤ) (m : ℕ) → AreDistinct es → OfEachName (HasSaneSegs D n (segs_of es)) t → sum_error es t l m ≤ n * (unit ^ rank_of t * error_bound D t)
charges_within D n es t l m distinct h =
    let each = sum_below-mono (λ o. sum_by (part_of (charge_in (greatest_weight (segs_of es) t l m) t l o) (occurrence_at t l o).name) es) (λ o. n * (get_or (weight_bounds D t) o 0 * get_or (miss_bounds D t) o 0)) (names_in t)
    (λ o lt. occurrence_within D n es t l m o distinct h lt) in
    let total = sum_below-scale n (λ o. get_or (weight_bounds D t) o 0 * get_or (miss_bounds D t) o 0) (names_in t) in
    let places : n * pair_sum (weight_bounds D t) (miss_bounds D t) ≡ n * sum_below (λ o. get_or (weight_bounds D t) o 0 * get_or (miss_bounds D t) o 0) (names_in t) =
    ap (λ x. n * x) (pair_sum-places (weight_bounds D t) (miss_bounds D t) (names_in t) (length-weight_bounds D t) (length-miss_bounds D t)) in
    let whole : n * pair_sum (weight_bounds D t) (miss_bounds D t) ≡ n * (unit ^ rank_of t * error_bound D t) = ap (λ x. n * x) (weights_total D t) in
    omega (arith, by_occurrences (greatest_weight (segs_of es) t l m) es t l, each, total, places, whole)

-- ---- sums

sum_within : (D : List ℕ → ℕ) (n : ℕ) (es : List Entry) (t : Term) (l : ℤ) (m : ℕ) → AreDistinct es → OfEachName (HasSaneSegs D n (segs_of es)) t → m ≤ n → IsSumWithin D n es t l m
sum_within D n es t l m distinct h le =
    let below = abs-total_below (estimate_from (segs_of es) t l) m (unit ^ rank_of t * estimate_bound D t) (λ j _. estimate_within D n (segs_of es) t (l +ℤ pos j) h) in
    let longer : m * (unit ^ rank_of t * estimate_bound D t) ≤ n * (unit ^ rank_of t * estimate_bound D t) = mul-le-mul le (omega arith) in
    let estimate : unsigned_abs (sum_estimate es t l m) ≤ n * (unit ^ rank_of t * estimate_bound D t) = omega (arith, below, longer) in
    let error : sum_error es t l m ≤ n * (unit ^ rank_of t * error_bound D t) = charges_within D n es t l m distinct h in
    let units : (unit ^ rank_of t * n) * (estimate_bound D t + error_bound D t) ≤ (unit ^ rank_of t * n) * units_of D t = mul-le-mul (omega arith) (magnitudes_fit D t) in
    let both : unsigned_abs (sum_estimate es t l m) + sum_error es t l m ≤ unit ^ rank_of t * n * units_of D t = omega (arith, estimate, error, units) in
    record { estimate = estimate; error = error; both = both; admitted = λ fit. omega (arith, both, whole_fits D n t fit) }

pub numbers_within : NumbersAreWithin
numbers_within = record {
  series = λ D t. record { both = magnitudes_fit D t; weights = weights_total D t };
  forms = form_within;
  sums = sum_within;
}

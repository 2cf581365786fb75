-- The form of a series is that of its shape over the segments that are read.
use Rattle.std.proofs.Common.{◌≡◌, ℕ, zero, suc, ◌+◌, ◌*◌, ℤ, pos, ◌+ℤ◌, ◌-ℤ◌, ◌*ℤ◌, Bool, true, false, cond, nat_le, List, [], ◌∷◌, ◌++◌, map, length, get_or, take, drop, ◌<◌, refl, sym, ap, ◌∙◌, arith}
use Rattle.std.proofs.lemmas.List.{get_or-map, length-map, map-append}
use Rattle.std.proofs.lemmas.List.Sums.{sum_by-cons}
use Rattle.semantics.specs.Measures.{rank_of, names_in}
use Rattle.semantics.specs.Term.{Term, base, constant, bare, plus, minus, times, shift}
use Rattle.segment.specs.declared.segments.Seg.{Seg}
use Rattle.bounds.specs.Cut.{Occurrence, occurrences, no_use, weight_at}
use Rattle.bounds.specs.Form.{Form, Use, weigh, form, uses_a, uses_b, sum_form, product_form, lift, cost, cost_of}
use Rattle.bounds.specs.Segments.{seg_at}
use Rattle.bounds.specs.Shape.{Shape, HasShape, FormsAreByReads, weight_in_use, reads, read_by, cost_over, times_each, sum_shape, product_shape, weights_a, weights_b, shape, left_of, right_of}
use Rattle.bounds.proofs.OccurrenceLaws.{length-uses, occurrence_of, occurrences_are, length-occurrences, two_weighed}

pub take_front : {A : Type 0} (xs ys : List A) (n : ℕ) → length xs ≡ n → take n (xs ++ ys) ≡ xs
take_front [] ys zero h = refl
take_front [] ys (suc n) h = absurd (omega arith)
take_front (x ∷ xs) ys zero h = absurd (omega arith)
take_front (x ∷ xs) ys (suc n) h = ap (λ zs. x ∷ zs) (take_front xs ys n (omega arith))

pub drop_front : {A : Type 0} (xs ys : List A) (n : ℕ) → length xs ≡ n → drop n (xs ++ ys) ≡ ys
drop_front [] ys zero h = refl
drop_front [] ys (suc n) h = absurd (omega arith)
drop_front (x ∷ xs) ys zero h = absurd (omega arith)
drop_front (x ∷ xs) ys (suc n) h = drop_front xs ys n (omega arith)

pub length-reads : (C : List ℕ → List Seg) (t : Term) (i : ℤ) → length (reads C t i) ≡ names_in t
length-reads C t i = length-map (occurrences t i) (read_by C) ∙ length-occurrences t i

pub left_reads : (C : List ℕ → List Seg) (u v : Term) (i : ℤ) → take (names_in u) (map (read_by C) (occurrences u i ++ occurrences v i)) ≡ reads C u i
left_reads C u v i = rw (map-append (read_by C) (occurrences u i) (occurrences v i)) (take_front (reads C u i) (reads C v i) (names_in u) (length-reads C u i))

pub right_reads : (C : List ℕ → List Seg) (u v : Term) (i : ℤ) → drop (names_in u) (map (read_by C) (occurrences u i ++ occurrences v i)) ≡ reads C v i
right_reads C u v i = rw (map-append (read_by C) (occurrences u i) (occurrences v i)) (drop_front (reads C u i) (reads C v i) (names_in u) (length-reads C u i))

weights-weigh : (k : ℕ) (us : List Use) → map weight_in_use (weigh k us) ≡ times_each k (map weight_in_use us)
weights-weigh k [] = refl
weights-weigh k (u ∷ us) = ap (λ ws. (k * u.weight) ∷ ws) (weights-weigh k us)

two_weights : (j k j' k' : ℕ) (us vs : List Use) (ws xs : List ℕ) → j ≡ j' → k ≡ k' → map weight_in_use us ≡ ws → map weight_in_use vs ≡ xs
    → map weight_in_use (weigh j us ++ weigh k vs) ≡ times_each j' ws ++ times_each k' xs
two_weights j k j' k' us vs ws xs ej ek e f =
    let g : Use → ℕ = weight_in_use in
    map-append g (weigh j us) (weigh k vs)
    ∙ ap (λ zs. zs ++ map g (weigh k vs)) (weights-weigh j us ∙ ap (times_each j) e ∙ ap (λ n. times_each n ws) ej)
    ∙ ap (λ zs. times_each j' ws ++ zs) (weights-weigh k vs ∙ ap (times_each k) f ∙ ap (λ n. times_each n xs) ek)

-- what the uses cost is their weights times the l of what they read
pub cost_is_over : (C : List ℕ → List Seg) (us : List Use) → cost C us ≡ cost_over (map weight_in_use us) (map (read_by C) (map occurrence_of us))
cost_is_over C [] = refl
cost_is_over C (u ∷ us) = sum_by-cons (cost_of C) u us ∙ ap (λ n. u.weight * (seg_at (C u.name) u.at).l + n) (cost_is_over C us)

sum_is : (op : ℤ → ℤ → ℤ) (m n : Form) (s r : Shape) (x y : ℤ) (j k : ℕ) → HasShape m s x → HasShape n r y → s.rank ≡ j → r.rank ≡ k
    → HasShape (sum_form op m n) (sum_shape s r) (op (pos (lift j k) *ℤ x) (pos (lift k j) *ℤ y))
sum_is op m n s r x y j k h g ej ek = record {
  rank = rw (h.rank, g.rank) refl;
  estimate = rw (h.rank, g.rank, h.estimate, g.estimate, ej, ek) refl;
  most = rw (h.most, g.most) refl;
  most_estimate = rw (h.rank, g.rank, h.most_estimate, g.most_estimate) refl;
  weights = two_weights _ _ _ _ m.uses n.uses _ _ (rw (h.rank, g.rank) refl) (rw (h.rank, g.rank) refl) h.weights g.weights;
}

cond_ap : {A B : Type 0} (f : A → B) (b : Bool) (x y : A) (p q : B) → f x ≡ p → f y ≡ q → f (cond b x y) ≡ cond b p q
cond_ap f true x y p q h k = h
cond_ap f false x y p q h k = k

product_is : (C : List ℕ → List Seg) (m n : Form) (s r : Shape) (x y : ℤ) (us vs : List Occurrence) → HasShape m s x → HasShape n r y → map occurrence_of m.uses ≡ us → map occurrence_of n.uses ≡ vs
    → HasShape (product_form C m n) (product_shape (map (read_by C) (us ++ vs)) s r) (x *ℤ y)
product_is C m n s r x y us vs h g ku kv =
    let w : Use → ℕ = weight_in_use in
    let ea : map w (uses_a m n) ≡ weights_a s r = two_weights _ _ _ _ m.uses n.uses _ _ g.most_estimate (rw (h.rank, h.most) refl) h.weights g.weights in
    let eb : map w (uses_b m n) ≡ weights_b s r = two_weights _ _ _ _ m.uses n.uses _ _ (rw (g.rank, g.most) refl) h.most_estimate h.weights g.weights in
    let ca : cost C (uses_a m n) ≡ cost_over (weights_a s r) (map (read_by C) (us ++ vs)) = cost_is_over C (uses_a m n) ∙ ap (λ ws. cost_over ws (map (read_by C) (map occurrence_of (uses_a m n)))) ea ∙ ap (λ ks. cost_over (weights_a s r) (map (read_by C) ks)) (two_weighed _ _ m.uses n.uses us vs ku kv) in
    let cb : cost C (uses_b m n) ≡ cost_over (weights_b s r) (map (read_by C) (us ++ vs)) = cost_is_over C (uses_b m n) ∙ ap (λ ws. cost_over ws (map (read_by C) (map occurrence_of (uses_b m n)))) eb ∙ ap (λ ks. cost_over (weights_b s r) (map (read_by C) ks)) (two_weighed _ _ m.uses n.uses us vs ku kv) in
    record {
      rank = rw (h.rank, g.rank) refl;
      estimate = rw (h.estimate, g.estimate) refl;
      most = rw (h.most, g.most) refl;
      most_estimate = rw (h.most_estimate, g.most_estimate) refl;
      weights = cond_ap (map w) (nat_le (cost C (uses_a m n)) (cost C (uses_b m n))) (uses_a m n) (uses_b m n) _ _ ea eb
          ∙ ap (λ x. cond (nat_le x (cost C (uses_b m n))) (weights_a s r) (weights_b s r)) ca
          ∙ ap (λ x. cond (nat_le (cost_over (weights_a s r) (map (read_by C) (us ++ vs))) x) (weights_a s r) (weights_b s r)) cb;
    }

pub rank-shape : (t : Term) (gs : List Seg) → (shape t gs).rank ≡ rank_of t
rank-shape (base n) gs = refl
rank-shape (constant v a b) gs = refl
rank-shape (bare v) gs = refl
rank-shape (plus u v) gs = omega (arith, rank-shape u (left_of u gs), rank-shape v (right_of u gs))
rank-shape (minus u v) gs = omega (arith, rank-shape u (left_of u gs), rank-shape v (right_of u gs))
rank-shape (times u v) gs = omega (arith, rank-shape u (left_of u gs), rank-shape v (right_of u gs))
rank-shape (shift u k) gs = rank-shape u gs

-- the form at a position depends on the position only by the segments that are read and their estimates
pub form_by_reads : FormsAreByReads
form_by_reads C (base n) i = record { rank = refl; estimate = refl; most = refl; most_estimate = refl; weights = refl }
form_by_reads C (constant v a b) i = record { rank = refl; estimate = refl; most = refl; most_estimate = refl; weights = refl }
form_by_reads C (bare v) i = record { rank = refl; estimate = refl; most = refl; most_estimate = refl; weights = refl }
form_by_reads C (plus u v) i = rw (left_reads C u v i, right_reads C u v i) (sum_is (λ x y. x +ℤ y) _ _ _ _ _ _ _ _ (form_by_reads C u i) (form_by_reads C v i) (rank-shape u _) (rank-shape v _))
form_by_reads C (minus u v) i = rw (left_reads C u v i, right_reads C u v i) (sum_is (λ x y. x -ℤ y) _ _ _ _ _ _ _ _ (form_by_reads C u i) (form_by_reads C v i) (rank-shape u _) (rank-shape v _))
form_by_reads C (times u v) i = rw (left_reads C u v i, right_reads C u v i) (product_is C _ _ _ _ _ _ _ _ (form_by_reads C u i) (form_by_reads C v i) (occurrences_are C u i) (occurrences_are C v i))
form_by_reads C (shift u k) i = form_by_reads C u (i -ℤ k)

-- so is the weight of an occurrence
pub weight_by_reads : (C : List ℕ → List Seg) (t : Term) (l : ℤ) (o j : ℕ) → o < names_in t → weight_at C t l o j ≡ get_or (shape t (reads C t (l +ℤ pos j))).weights o 0
weight_by_reads C t l o j lt =
    sym (get_or-map weight_in_use (form C t (l +ℤ pos j)).uses o no_use 0 (omega (arith, length-uses C t (l +ℤ pos j))))
    ∙ ap (λ ws. get_or ws o 0) (form_by_reads C t (l +ℤ pos j)).weights

-- and what the weights cost
pub cost_by_reads : (C : List ℕ → List Seg) (t : Term) (i : ℤ) → cost C (form C t i).uses ≡ cost_over (shape t (reads C t i)).weights (reads C t i)
cost_by_reads C t i =
    cost_is_over C (form C t i).uses
    ∙ ap (λ ws. cost_over ws (map (read_by C) (map occurrence_of (form C t i).uses))) (form_by_reads C t i).weights
    ∙ ap (λ (os : List Occurrence). cost_over (shape t (reads C t i)).weights (map (read_by C) os)) (occurrences_are C t i)

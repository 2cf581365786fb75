-- Admission looks at the series that a query names, and at no other.
use Rattle.std.proofs.Common.{◌≡◌, ℕ, ◌+◌, ◌*◌, ◌^◌, ◌≤◌, max, cond, Bool, true, false, inl, inr, Option, Some, List, [], ◌∷◌, ◌++◌, refl, sym, ap, ap₂, subst, ◌∙◌}
use Rattle.std.specs.Prelude.{◌||◌, find, slice_index, unsigned_abs}
use Rattle.std.specs.List.{All, list_any}
use Rattle.std.specs.Option.{option_map_or}
use Rattle.std.proofs.lemmas.Bool.{cases_Bool}
use Rattle.std.proofs.lemmas.List.Elements.{All-nil, All-cons, All-head, All-append}
use Rattle.semantics.specs.Admission.{Fact, fact_at, is_unknown, count_at, greatest_at, series_names, query_names, longest, extent_of, bound_of}
use Rattle.semantics.specs.Admitted.{IsKnown, IsInDomain, IsAdmitted, IsAdmittedSum}
use Rattle.semantics.specs.Measures.{rank_of, units_of, FitsOver, InRange}
use Rattle.semantics.specs.Names.{same_name}
use Rattle.semantics.specs.Readings.{positions_in}
use Rattle.semantics.specs.Term.{Term, base, constant, bare, plus, minus, times, shift, Range, QueryTerm, number, sum, variance, covariance, add, sub, mul}
use Rattle.semantics.specs.Value.{range_or}
use Rattle.segment.specs.declared.segments.Seg.{Seg}
use Rattle.bounds.specs.Segments.{OfEachName}
use Rattle.error_prop.specs.QueryOver.{OfEachSum}
use Rattle.error_prop.proofs.QueryOverLaws.{same_domain}
use Rattle.descent.specs.Rows.{Track}
use Rattle.descent.specs.Choice.{Has}
use Rattle.descent.specs.Held.{heads}
use Rattle.descent.specs.Known.{fact_of, facts_in, root_head, facts_from, heads_from}
use Rattle.descent.proofs.Exact.{All-left, All-right}

-- two lists of facts say the same of a name
abbrev pub SayTheSame : List Fact → List Fact → List ℕ → Type 0
SayTheSame gs facts name = fact_at gs name ≡ fact_at facts name

same-counts : (gs facts : List Fact) (t : Term) → OfEachName (SayTheSame gs facts) t → OfEachName (λ name. count_at gs name ≡ count_at facts name) t
same-counts gs facts (base name) h = ap (λ o. option_map_or (λ (f : Fact). f.count) o 0) h
same-counts gs facts (constant v a b) h = tt
same-counts gs facts (bare v) h = tt
same-counts gs facts (plus u v) h = (same-counts gs facts u h.0, same-counts gs facts v h.1)
same-counts gs facts (minus u v) h = (same-counts gs facts u h.0, same-counts gs facts v h.1)
same-counts gs facts (times u v) h = (same-counts gs facts u h.0, same-counts gs facts v h.1)
same-counts gs facts (shift u k) h = same-counts gs facts u h

same-units : (gs facts : List Fact) (t : Term) → OfEachName (SayTheSame gs facts) t → units_of (greatest_at gs) t ≡ units_of (greatest_at facts) t
same-units gs facts (base name) h = ap (λ o. 128 * max 1 (option_map_or (λ (f : Fact). f.greatest) o 0)) h
same-units gs facts (constant v a b) h = refl
same-units gs facts (bare v) h = refl
same-units gs facts (plus u v) h = ap₂ (λ a b. a + b) (same-units gs facts u h.0) (same-units gs facts v h.1)
same-units gs facts (minus u v) h = ap₂ (λ a b. a + b) (same-units gs facts u h.0) (same-units gs facts v h.1)
same-units gs facts (times u v) h = ap₂ (λ a b. a * b) (same-units gs facts u h.0) (same-units gs facts v h.1)
same-units gs facts (shift u k) h = same-units gs facts u h

same-longest : (gs facts : List Fact) (t : Term) → OfEachName (SayTheSame gs facts) t → longest gs t ≡ longest facts t
same-longest gs facts (base name) h = ap (λ o. option_map_or (λ (f : Fact). f.count) o 0) h
same-longest gs facts (constant v a b) h = refl
same-longest gs facts (bare v) h = refl
same-longest gs facts (plus u v) h = ap₂ max (same-longest gs facts u h.0) (same-longest gs facts v h.1)
same-longest gs facts (minus u v) h = ap₂ max (same-longest gs facts u h.0) (same-longest gs facts v h.1)
same-longest gs facts (times u v) h = ap₂ max (same-longest gs facts u h.0) (same-longest gs facts v h.1)
same-longest gs facts (shift u k) h = same-longest gs facts u h

same-extent : (gs facts : List Fact) (t : Term) (range : Option Range) → OfEachName (SayTheSame gs facts) t → extent_of gs t range ≡ extent_of facts t range
same-extent gs facts t range h =
    let d = same_domain (count_at gs) (count_at facts) t (same-counts gs facts t h) in
    ap₂ max (same-longest gs facts t h) (ap (λ d. positions_in (range_or range d).left (range_or range d).right) d)

fits-over : (gs facts : List Fact) (n : ℕ) (t : Term) → OfEachName (SayTheSame gs facts) t → FitsOver (greatest_at facts) n t → FitsOver (greatest_at gs) n t
fits-over gs facts n t h f = subst (λ u. 16384 ^ rank_of t * n * u ≤ 2 ^ 125) (sym (same-units gs facts t h)) f

in-range : (gs facts : List Fact) (n : ℕ) (t : Term) → OfEachName (SayTheSame gs facts) t → InRange (greatest_at facts) n t → InRange (greatest_at gs) n t
in-range gs facts n (base name) h r = fits-over gs facts n (base name) h r
in-range gs facts n (constant v a b) h r = r
in-range gs facts n (bare v) h r = r
in-range gs facts n (plus u v) h r = (in-range gs facts n u h.0 r.0, in-range gs facts n v h.1 r.1, fits-over gs facts n (plus u v) h r.2)
in-range gs facts n (minus u v) h r = (in-range gs facts n u h.0 r.0, in-range gs facts n v h.1 r.1, fits-over gs facts n (minus u v) h r.2)
in-range gs facts n (times u v) h r = (in-range gs facts n u h.0 r.0, in-range gs facts n v h.1 r.1, fits-over gs facts n (times u v) h r.2)
in-range gs facts n (shift u k) h r = in-range gs facts n u h r

known-both : (gs : List Fact) (facts : List Fact) (us vs : List (List ℕ)) → (All (IsKnown facts) us → All (IsKnown gs) us) → (All (IsKnown facts) vs → All (IsKnown gs) vs) → All (IsKnown facts) (us ++ vs) → All (IsKnown gs) (us ++ vs)
known-both gs facts us vs f h all = All-append (IsKnown gs) us vs (f (All-left (IsKnown facts) us vs all)) (h (All-right (IsKnown facts) us vs all))

same-known : (gs facts : List Fact) (t : Term) → OfEachName (SayTheSame gs facts) t → All (IsKnown facts) (series_names t) → All (IsKnown gs) (series_names t)
same-known gs facts (base name) h all =
    let one : is_unknown facts name ≡ false = All-head (IsKnown facts) name [] all in
    All-cons (IsKnown gs) name [] (subst (λ o. Rattle.std.specs.Prelude.not (Rattle.std.specs.Prelude.is_some o) ≡ false) (sym h) one) (All-nil (IsKnown gs))
same-known gs facts (constant v a b) h all = All-nil (IsKnown gs)
same-known gs facts (bare v) h all = All-nil (IsKnown gs)
same-known gs facts (plus u v) h all = known-both gs facts (series_names u) (series_names v) (same-known gs facts u h.0) (same-known gs facts v h.1) all
same-known gs facts (minus u v) h all = known-both gs facts (series_names u) (series_names v) (same-known gs facts u h.0) (same-known gs facts v h.1) all
same-known gs facts (times u v) h all = known-both gs facts (series_names u) (series_names v) (same-known gs facts u h.0) (same-known gs facts v h.1) all
same-known gs facts (shift u k) h all = same-known gs facts u h all

same-bound-sum : (gs facts : List Fact) (t : Term) (range : Option Range) → OfEachName (SayTheSame gs facts) t → bound_of gs (sum t range) ≡ bound_of facts (sum t range)
same-bound-sum gs facts t range h = ap₂ (λ n u. max 1 (2 * n * u)) (same-extent gs facts t range h) (same-units gs facts t h)

same-bound : (gs facts : List Fact) (q : QueryTerm) → OfEachSum (OfEachName (SayTheSame gs facts)) q → bound_of gs q ≡ bound_of facts q
same-bound gs facts (number v) h = refl
same-bound gs facts (sum t range) h = same-bound-sum gs facts t range h
same-bound gs facts (variance t range) h = refl
same-bound gs facts (covariance t u range) h = refl
same-bound gs facts (add p q) h = ap₂ (λ a b. a + b) (same-bound gs facts p h.0) (same-bound gs facts q h.1)
same-bound gs facts (sub p q) h = ap₂ (λ a b. a + b) (same-bound gs facts p h.0) (same-bound gs facts q h.1)
same-bound gs facts (mul p q) h = ap₂ (λ a b. a * b) (same-bound gs facts p h.0) (same-bound gs facts q h.1)

sum-admitted : (gs facts : List Fact) (t : Term) (range : Option Range) → OfEachName (SayTheSame gs facts) t → IsAdmittedSum facts t range → IsAdmittedSum gs t range
sum-admitted gs facts t range h a = record {
  known = same-known gs facts t h a.known;
  rank = a.rank;
  inside = subst (IsInDomain range) (sym (same_domain (count_at gs) (count_at facts) t (same-counts gs facts t h))) a.inside;
  in_range = subst (λ n. InRange (greatest_at gs) n t) (sym (same-extent gs facts t range h)) (in-range gs facts (extent_of facts t range) t h a.in_range);
  bound = subst (λ b. b ≤ 2 ^ 125) (sym (same-bound-sum gs facts t range h)) a.bound;
}

pub admitted-too : (gs facts : List Fact) (q : QueryTerm) → OfEachSum (OfEachName (SayTheSame gs facts)) q → IsAdmitted facts q → IsAdmitted gs q
admitted-too gs facts (number v) h a = a
admitted-too gs facts (sum t range) h a = sum-admitted gs facts t range h a
admitted-too gs facts (variance t range) h a = tt
admitted-too gs facts (covariance t u range) h a = tt
admitted-too gs facts (add p q) h a = (admitted-too gs facts p h.0 a.0, admitted-too gs facts q h.1 a.1, subst (λ b. b ≤ 2 ^ 125) (sym (same-bound gs facts (add p q) h)) a.2)
admitted-too gs facts (sub p q) h a = (admitted-too gs facts p h.0 a.0, admitted-too gs facts q h.1 a.1, subst (λ b. b ≤ 2 ^ 125) (sym (same-bound gs facts (sub p q) h)) a.2)
admitted-too gs facts (mul p q) h a = (admitted-too gs facts p h.0 a.0, admitted-too gs facts q h.1 a.1, subst (λ b. b ≤ 2 ^ 125) (sym (same-bound gs facts (mul p q) h)) a.2)

-- ---- the names of a query

pub has-left : {A : Type 0} → (x : A) (xs ys : List A) → Has x xs → Has x (xs ++ ys)
has-left x [] ys h = absurd h
has-left x (y ∷ xs) ys (inl e) = inl e
has-left x (y ∷ xs) ys (inr h) = inr (has-left x xs ys h)

pub has-right : {A : Type 0} → (x : A) (xs ys : List A) → Has x ys → Has x (xs ++ ys)
has-right x [] ys h = h
has-right x (y ∷ xs) ys h = inr (has-right x xs ys h)

each-name : (P : List ℕ → Type 0) (t : Term) → ((name : List ℕ) → Has name (series_names t) → P name) → OfEachName P t
each-name P (base name) f = f name (inl refl)
each-name P (constant v a b) f = tt
each-name P (bare v) f = tt
each-name P (plus u v) f = (each-name P u (λ n h. f n (has-left n (series_names u) (series_names v) h)), each-name P v (λ n h. f n (has-right n (series_names u) (series_names v) h)))
each-name P (minus u v) f = (each-name P u (λ n h. f n (has-left n (series_names u) (series_names v) h)), each-name P v (λ n h. f n (has-right n (series_names u) (series_names v) h)))
each-name P (times u v) f = (each-name P u (λ n h. f n (has-left n (series_names u) (series_names v) h)), each-name P v (λ n h. f n (has-right n (series_names u) (series_names v) h)))
each-name P (shift u k) f = each-name P u f

-- what holds of each name of a query holds of each name of its sums
pub each-sum : (P : List ℕ → Type 0) (q : QueryTerm) → ((name : List ℕ) → Has name (query_names q) → P name) → OfEachSum (OfEachName P) q
each-sum P (number v) f = tt
each-sum P (sum t range) f = each-name P t f
each-sum P (variance t range) f = tt
each-sum P (covariance t u range) f = tt
each-sum P (add p q) f = (each-sum P p (λ n h. f n (has-left n (query_names p) (query_names q) h)), each-sum P q (λ n h. f n (has-right n (query_names p) (query_names q) h)))
each-sum P (sub p q) f = (each-sum P p (λ n h. f n (has-left n (query_names p) (query_names q) h)), each-sum P q (λ n h. f n (has-right n (query_names p) (query_names q) h)))
each-sum P (mul p q) f = (each-sum P p (λ n h. f n (has-left n (query_names p) (query_names q) h)), each-sum P q (λ n h. f n (has-right n (query_names p) (query_names q) h)))

pub named-any : (m name : List ℕ) (names : List (List ℕ)) → Has name names → same_name m name ≡ true → list_any (same_name m) names ≡ true
named-any m name [] h e = absurd h
named-any m name (n ∷ names) (inl q) e = let here : same_name m n ≡ true = subst (λ x. same_name m x ≡ true) q e in rw here refl
named-any m name (n ∷ names) (inr h) e = elim (cases_Bool (same_name m n)) [
  | inl t ↦ rw t refl
  | inr f ↦ rw f (named-any m name names h e)
]

-- ---- the facts of a cut are those of the nodes, for the names of the query

pub facts-heads : {R : Type 0} → (tracks : List (Track R)) → facts_in tracks ≡ facts_in (heads tracks)
facts-heads [] = refl
facts-heads (t ∷ ts) = ap (λ fs. fact_of t ∷ fs) (facts-heads ts)

pub say-the-same : (R : Type 0) (q : QueryTerm) (lengths : List ℕ) (roots : List (Option Seg)) (k : ℕ) (names : List (List ℕ)) (name : List ℕ) → Has name (query_names q)
    → SayTheSame (facts_in (heads_from {R = R} q lengths roots k names)) (facts_from lengths roots k names) name
say-the-same R q lengths roots k [] name h = refl
say-the-same R q lengths roots k (m ∷ names) name h =
    by (same_name m name) (list_any (same_name m) (query_names q)) refl refl (say-the-same R q lengths roots (k + 1) names name h)
  where
    one : Fact
    one = fact_of {R = ℕ} (root_head lengths roots k m)

    rest : List Fact
    rest = facts_in (heads_from {R = R} q lengths roots (k + 1) names)

    by : (b n : Bool) → same_name m name ≡ b → list_any (same_name m) (query_names q) ≡ n → SayTheSame rest (facts_from lengths roots (k + 1) names) name
        → fact_at (facts_in (cond n (root_head {R = R} lengths roots k m ∷ heads_from {R = R} q lengths roots (k + 1) names) (heads_from {R = R} q lengths roots (k + 1) names))) name
        ≡ cond b (Some one) (fact_at (facts_from lengths roots (k + 1) names) name)
    by true true eb en i = rw eb refl
    by true false eb en i = let t = named-any m name (query_names q) h eb in let bad : false ≡ true = sym en ∙ t in cc
    by false true eb en i = rw eb i
    by false false eb en i = i

pub admitted-there : {R : Type 0} → (q : QueryTerm) (lengths : List ℕ) (roots : List (Option Seg)) (names : List (List ℕ)) (tracks : List (Track R)) → heads tracks ≡ heads_from q lengths roots 0 names
    → IsAdmitted (facts_from lengths roots 0 names) q → IsAdmitted (facts_in tracks) q
admitted-there {R} q lengths roots names tracks e a =
    let same : facts_in tracks ≡ facts_in (heads_from {R = R} q lengths roots 0 names) = facts-heads tracks ∙ ap facts_in e in
    subst (λ fs. IsAdmitted fs q) (sym same)
    (admitted-too (facts_in (heads_from {R = R} q lengths roots 0 names)) (facts_from lengths roots 0 names) q
    (each-sum (SayTheSame (facts_in (heads_from {R = R} q lengths roots 0 names)) (facts_from lengths roots 0 names)) q (λ name h. say-the-same R q lengths roots 0 names name h)) a)

-- The occurrences of a series, and the uses of its forms.
use Rattle.std.proofs.Common.{◌≡◌, ℕ, zero, suc, ◌+◌, ◌≤◌, ◌<◌, ℤ, pos, ◌+ℤ◌, ◌-ℤ◌, List, [], ◌∷◌, ◌++◌, map, length, get_or, take, Bool, true, false, cond, refl, sym, ap, ◌∙◌, arith, add-one, length-append}
use Rattle.std.specs.List.{sum_by, AllByRecursion}
use Rattle.std.proofs.lemmas.Int.{ints}
use Rattle.std.proofs.lemmas.List.{get_or-map, length-map, map-append, take_all}
use Rattle.std.proofs.lemmas.List.Sums.{sum_by_more}
use Rattle.semantics.specs.Measures.{rank_of, names_in}
use Rattle.semantics.specs.Sums.{sum_below}
use Rattle.semantics.specs.Term.{Term, base, constant, bare, plus, minus, times, shift}
use Rattle.segment.specs.declared.segments.Seg.{Seg}
use Rattle.bounds.specs.Cut.{Occurrence, occurrences, occurrence_at, no_occurrence, no_use}
use Rattle.bounds.specs.Form.{Use, form, weigh}
use Rattle.bounds.specs.Segments.{OfEachName}

abbrev pub occurrence_of : Use → Occurrence
occurrence_of u = record { name = u.name; at = u.at }

occurrences-weigh : (k : ℕ) (us : List Use) → map occurrence_of (weigh k us) ≡ map occurrence_of us
occurrences-weigh k [] = refl
occurrences-weigh k (u ∷ us) = ap (λ ks. occurrence_of u ∷ ks) (occurrences-weigh k us)

pub two_weighed : (j k : ℕ) (us vs : List Use) (xs ys : List Occurrence) → map occurrence_of us ≡ xs → map occurrence_of vs ≡ ys → map occurrence_of (weigh j us ++ weigh k vs) ≡ xs ++ ys
two_weighed j k us vs xs ys e f = map-append occurrence_of (weigh j us) (weigh k vs) ∙ ap (λ zs. zs ++ map occurrence_of (weigh k vs)) (occurrences-weigh j us ∙ e) ∙ ap (λ zs. xs ++ zs) (occurrences-weigh k vs ∙ f)

either_occurrences : (b : Bool) (us vs : List Use) (xs : List Occurrence) → map occurrence_of us ≡ xs → map occurrence_of vs ≡ xs → map occurrence_of (cond b us vs) ≡ xs
either_occurrences true us vs xs e f = e
either_occurrences false us vs xs e f = f

-- a form's uses are the occurrences in order
pub occurrences_are : (C : List ℕ → List Seg) (t : Term) (i : ℤ) → map occurrence_of (form C t i).uses ≡ occurrences t i
occurrences_are C (base n) i = refl
occurrences_are C (constant v a b) i = refl
occurrences_are C (bare v) i = refl
occurrences_are C (plus u v) i = two_weighed _ _ _ _ _ _ (occurrences_are C u i) (occurrences_are C v i)
occurrences_are C (minus u v) i = two_weighed _ _ _ _ _ _ (occurrences_are C u i) (occurrences_are C v i)
occurrences_are C (times u v) i = either_occurrences _ _ _ _ (two_weighed _ _ _ _ _ _ (occurrences_are C u i) (occurrences_are C v i)) (two_weighed _ _ _ _ _ _ (occurrences_are C u i) (occurrences_are C v i))
occurrences_are C (shift u k) i = occurrences_are C u (i -ℤ k)

abbrev pub moved : ℕ → Occurrence → Occurrence
moved j o = record { name = o.name; at = o.at +ℤ pos j }

-- at a later position each occurrence reads as much later
pub occurrences-later : (t : Term) (i : ℤ) (j : ℕ) → occurrences t (i +ℤ pos j) ≡ map (moved j) (occurrences t i)
occurrences-later (base n) i j = refl
occurrences-later (constant v a b) i j = refl
occurrences-later (bare v) i j = refl
occurrences-later (plus u v) i j = rw (occurrences-later u i j, occurrences-later v i j) (sym (map-append (moved j) (occurrences u i) (occurrences v i)))
occurrences-later (minus u v) i j = rw (occurrences-later u i j, occurrences-later v i j) (sym (map-append (moved j) (occurrences u i) (occurrences v i)))
occurrences-later (times u v) i j = rw (occurrences-later u i j, occurrences-later v i j) (sym (map-append (moved j) (occurrences u i) (occurrences v i)))
occurrences-later (shift u k) i j =
    let e : (i +ℤ pos j) -ℤ k ≡ (i -ℤ k) +ℤ pos j = omega (arith, ints) in
    ap (occurrences u) e ∙ occurrences-later u (i -ℤ k) j

-- a sum over the front of a list, by places
places_below : {A : Type 0} (f : A → ℕ) (xs : List A) (d : A) (n : ℕ) → n ≤ length xs → sum_by f (take n xs) ≡ sum_below (λ o. f (get_or xs o d)) n
places_below f xs d zero h = refl
places_below f xs d (suc n) h =
    ap (λ m. sum_by f (take m xs)) (sym (add-one n)) ∙ sum_by_more f xs n d (omega arith) ∙ ap (λ s. s + f (get_or xs n d)) (places_below f xs d n (omega arith))

-- a sum over a list, by places
pub sum_by-places : {A : Type 0} (f : A → ℕ) (xs : List A) (d : A) (n : ℕ) → length xs ≡ n → sum_by f xs ≡ sum_below (λ o. f (get_or xs o d)) n
sum_by-places f xs d n e = ap (sum_by f) (sym (take_all n xs (omega arith))) ∙ places_below f xs d n (omega arith)

-- ---- lengths and ranks

pub length-occurrences : (t : Term) (i : ℤ) → length (occurrences t i) ≡ names_in t
length-occurrences (base n) i = refl
length-occurrences (constant v a b) i = refl
length-occurrences (bare v) i = refl
length-occurrences (plus u v) i = omega (arith, length-append (occurrences u i) (occurrences v i), length-occurrences u i, length-occurrences v i)
length-occurrences (minus u v) i = omega (arith, length-append (occurrences u i) (occurrences v i), length-occurrences u i, length-occurrences v i)
length-occurrences (times u v) i = omega (arith, length-append (occurrences u i) (occurrences v i), length-occurrences u i, length-occurrences v i)
length-occurrences (shift u k) i = length-occurrences u (i -ℤ k)

pub rank-form : (C : List ℕ → List Seg) (t : Term) (i : ℤ) → (form C t i).rank ≡ rank_of t
rank-form C (base n) i = refl
rank-form C (constant v a b) i = refl
rank-form C (bare v) i = refl
rank-form C (plus u v) i = omega (arith, rank-form C u i, rank-form C v i)
rank-form C (minus u v) i = omega (arith, rank-form C u i, rank-form C v i)
rank-form C (times u v) i = omega (arith, rank-form C u i, rank-form C v i)
rank-form C (shift u k) i = rank-form C u (i -ℤ k)

pub length-uses : (C : List ℕ → List Seg) (t : Term) (i : ℤ) → length (form C t i).uses ≡ names_in t
length-uses C t i = sym (length-map (form C t i).uses occurrence_of) ∙ ap length (occurrences_are C t i) ∙ length-occurrences t i

-- ---- facts of each name

all_append : {A : Type 0} (P : A → Type 0) (xs ys : List A) → AllByRecursion P xs → AllByRecursion P ys → AllByRecursion P (xs ++ ys)
all_append P [] ys h k = k
all_append P (x ∷ xs) ys h k = (h.0, all_append P xs ys h.1 k)

all_at : {A : Type 0} (P : A → Type 0) (xs : List A) (d : A) (o : ℕ) → AllByRecursion P xs → o < length xs → P (get_or xs o d)
all_at P [] d o h lt = absurd (omega arith)
all_at P (x ∷ xs) d zero h lt = h.0
all_at P (x ∷ xs) d (suc o) h lt = all_at P xs d o h.1 (omega arith)

abbrev of_name : (List ℕ → Type 0) → Occurrence → Type 0
of_name P o = P o.name

each_occurrence : (P : List ℕ → Type 0) (t : Term) (i : ℤ) → OfEachName P t → AllByRecursion (of_name P) (occurrences t i)
each_occurrence P (base name) i h = (h, tt)
each_occurrence P (constant v a b) i h = tt
each_occurrence P (bare v) i h = tt
each_occurrence P (plus u v) i h = all_append (of_name P) (occurrences u i) (occurrences v i) (each_occurrence P u i h.0) (each_occurrence P v i h.1)
each_occurrence P (minus u v) i h = all_append (of_name P) (occurrences u i) (occurrences v i) (each_occurrence P u i h.0) (each_occurrence P v i h.1)
each_occurrence P (times u v) i h = all_append (of_name P) (occurrences u i) (occurrences v i) (each_occurrence P u i h.0) (each_occurrence P v i h.1)
each_occurrence P (shift u k) i h = each_occurrence P u (i -ℤ k) h

pub OfEachName-map : (P Q : List ℕ → Type 0) (t : Term) → ((name : List ℕ) → P name → Q name) → OfEachName P t → OfEachName Q t
OfEachName-map P Q (base name) f h = f name h
OfEachName-map P Q (constant v a b) f h = tt
OfEachName-map P Q (bare v) f h = tt
OfEachName-map P Q (plus u v) f h = (OfEachName-map P Q u f h.0, OfEachName-map P Q v f h.1)
OfEachName-map P Q (minus u v) f h = (OfEachName-map P Q u f h.0, OfEachName-map P Q v f h.1)
OfEachName-map P Q (times u v) f h = (OfEachName-map P Q u f h.0, OfEachName-map P Q v f h.1)
OfEachName-map P Q (shift u k) f h = OfEachName-map P Q u f h

-- what holds of each name holds of that of each occurrence
pub at_occurrence : (P : List ℕ → Type 0) (t : Term) (i : ℤ) (o : ℕ) → OfEachName P t → o < names_in t → P (occurrence_at t i o).name
at_occurrence P t i o h lt = all_at (of_name P) (occurrences t i) no_occurrence o (each_occurrence P t i h) (omega (arith, length-occurrences t i))

-- the use of an occurrence at a later position
pub use_at : (C : List ℕ → List Seg) (t : Term) (l : ℤ) (o j : ℕ) → o < names_in t
    → occurrence_of (get_or (form C t (l +ℤ pos j)).uses o no_use) ≡ moved j (occurrence_at t l o)
use_at C t l o j lt =
    sym (get_or-map occurrence_of (form C t (l +ℤ pos j)).uses o no_use no_occurrence (omega (arith, length-uses C t (l +ℤ pos j))))
    ∙ ap (λ os. get_or os o no_occurrence) (occurrences_are C t (l +ℤ pos j) ∙ occurrences-later t l j)
    ∙ get_or-map (moved j) (occurrences t l) o no_occurrence no_occurrence (omega (arith, length-occurrences t l))

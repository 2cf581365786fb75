-- What the occurrences of a series read, by place.
use Rattle.std.proofs.Common.{◌≡◌, ℕ, zero, suc, ◌+◌, ◌-◌, ◌≤◌, ◌<◌, ℤ, pos, negsuc, ◌+ℤ◌, ◌-ℤ◌, List, [], ◌∷◌, ◌++◌, length, map, get_or, take, drop, true, nat_le, nat_lt, ◌&&◌, refl, sym, ap, subst, ◌∙◌, arith, inl, inr, ◌⊎◌}
use Rattle.std.specs.Prelude.{◌≤ℤ◌, ◌<ℤ◌}
use Rattle.std.specs.List.{AllByRecursion}
use Rattle.std.proofs.lemmas.Bool.{cases_lt}
use Rattle.std.proofs.lemmas.Bool.Decides.{nat_tests}
use Rattle.std.proofs.lemmas.Int.{ints}
use Rattle.std.proofs.lemmas.List.{get_or-drop, get_or-map, get_or-take, get_or_append_left, get_or-append-add, map-append}
use Rattle.std.proofs.lemmas.List.Sums.{get_or-le-sum_by}
use Rattle.semantics.specs.Measures.{names_in}
use Rattle.semantics.specs.Term.{Term, base, constant, bare, plus, minus, times, shift}
use Rattle.segment.specs.declared.segments.Seg.{Seg}
use Rattle.segment.specs.Measure.{IsSane}
use Rattle.bounds.specs.Cut.{Occurrence, no_occurrence, occurrence_at, occurrences}
use Rattle.bounds.specs.Segments.{covers, len_of, no_seg, AreSaneFor, IsSaneFor, TouchFrom}
use Rattle.bounds.specs.Reads.{EachRead}
use Rattle.bounds.specs.Shape.{first_of, left_of, right_of}
use Rattle.bounds.proofs.OccurrenceLaws.{length-occurrences}
use Rattle.bounds.proofs.SegmentLaws.{place_in}

-- ---- occurrences at another position

abbrev pub shifted : ℤ → Occurrence → Occurrence
shifted z o = record { name = o.name; at = o.at +ℤ z }

pub occurrences-shifted : (t : Term) (i z : ℤ) → occurrences t (i +ℤ z) ≡ map (shifted z) (occurrences t i)
occurrences-shifted (base n) i z = refl
occurrences-shifted (constant v a b) i z = refl
occurrences-shifted (bare v) i z = refl
occurrences-shifted (plus u v) i z = rw (occurrences-shifted u i z, occurrences-shifted v i z) (sym (map-append (shifted z) (occurrences u i) (occurrences v i)))
occurrences-shifted (minus u v) i z = rw (occurrences-shifted u i z, occurrences-shifted v i z) (sym (map-append (shifted z) (occurrences u i) (occurrences v i)))
occurrences-shifted (times u v) i z = rw (occurrences-shifted u i z, occurrences-shifted v i z) (sym (map-append (shifted z) (occurrences u i) (occurrences v i)))
occurrences-shifted (shift u k) i z =
    let e : (i +ℤ z) -ℤ k ≡ (i -ℤ k) +ℤ z = omega (arith, ints) in
    ap (occurrences u) e ∙ occurrences-shifted u (i -ℤ k) z

pub occurrence-shifted : (t : Term) (i z : ℤ) (o : ℕ) → o < names_in t → occurrence_at t (i +ℤ z) o ≡ shifted z (occurrence_at t i o)
occurrence-shifted t i z o lt = ap (λ os. get_or os o no_occurrence) (occurrences-shifted t i z) ∙ get_or-map (shifted z) (occurrences t i) o no_occurrence no_occurrence (omega (arith, length-occurrences t i))

-- ---- facts of each name, by place

over_base : (P : List ℕ → ℤ → Seg → Type 0) (name : List ℕ) (gs : List Seg) (i : ℤ) → P name i (get_or gs 0 no_seg) → P name i (first_of gs)
over_base P name [] i h = h
over_base P name (g ∷ gs) i h = h

back_base : (P : List ℕ → ℤ → Seg → Type 0) (name : List ℕ) (gs : List Seg) (i : ℤ) → P name i (first_of gs) → P name i (get_or gs 0 no_seg)
back_base P name [] i h = h
back_base P name (g ∷ gs) i h = h

-- a fact of an occurrence and of the segment that it reads
abbrev pub AtPlace : (List ℕ → ℤ → Seg → Type 0) → List Occurrence → List Seg → ℕ → Type 0
AtPlace P os gs o = P (get_or os o no_occurrence).name (get_or os o no_occurrence).at (get_or gs o no_seg)

left_occ : (os qs : List Occurrence) (o : ℕ) → o < length os → get_or (os ++ qs) o no_occurrence ≡ get_or os o no_occurrence
left_occ os qs o lt = get_or_append_left os qs no_occurrence o lt

right_occ : (os qs : List Occurrence) (n o : ℕ) → length os ≡ n → get_or (os ++ qs) (n + o) no_occurrence ≡ get_or qs o no_occurrence
right_occ os qs n o e = ap (λ m. get_or (os ++ qs) (m + o) no_occurrence) (sym e) ∙ get_or-append-add os qs o no_occurrence

place_left : (P : List ℕ → ℤ → Seg → Type 0) (os qs : List Occurrence) (gs : List Seg) (n o : ℕ) → length os ≡ n → o < n → AtPlace P (os ++ qs) gs o → AtPlace P os (take n gs) o
place_left P os qs gs n o e lt h =
    subst (λ (x : Occurrence). P x.name x.at (get_or (take n gs) o no_seg)) (left_occ os qs o (omega arith))
    (subst (λ g. P (get_or (os ++ qs) o no_occurrence).name (get_or (os ++ qs) o no_occurrence).at g) (sym (get_or-take n gs o no_seg lt)) h)

place_right : (P : List ℕ → ℤ → Seg → Type 0) (os qs : List Occurrence) (gs : List Seg) (n o : ℕ) → length os ≡ n → AtPlace P (os ++ qs) gs (n + o) → AtPlace P qs (drop n gs) o
place_right P os qs gs n o e h =
    subst (λ (x : Occurrence). P x.name x.at (get_or (drop n gs) o no_seg)) (right_occ os qs n o e)
    (subst (λ g. P (get_or (os ++ qs) (n + o) no_occurrence).name (get_or (os ++ qs) (n + o) no_occurrence).at g) (sym (get_or-drop n gs o no_seg)) h)

back_left : (P : List ℕ → ℤ → Seg → Type 0) (os qs : List Occurrence) (gs : List Seg) (n o : ℕ) → length os ≡ n → o < n → AtPlace P os (take n gs) o → AtPlace P (os ++ qs) gs o
back_left P os qs gs n o e lt h =
    subst (λ (x : Occurrence). P x.name x.at (get_or gs o no_seg)) (sym (left_occ os qs o (omega arith)))
    (subst (λ g. P (get_or os o no_occurrence).name (get_or os o no_occurrence).at g) (get_or-take n gs o no_seg lt) h)

back_right : (P : List ℕ → ℤ → Seg → Type 0) (os qs : List Occurrence) (gs : List Seg) (n m o : ℕ) → length os ≡ n → o ≡ n + m → AtPlace P qs (drop n gs) m → AtPlace P (os ++ qs) gs o
back_right P os qs gs n m o e z h =
    subst (AtPlace P (os ++ qs) gs) (sym z)
    (subst (λ (x : Occurrence). P x.name x.at (get_or gs (n + m) no_seg)) (sym (right_occ os qs n m e))
    (subst (λ g. P (get_or qs m no_occurrence).name (get_or qs m no_occurrence).at g) (get_or-drop n gs m no_seg) h))

pub over_each : (P : List ℕ → ℤ → Seg → Type 0) (t : Term) (gs : List Seg) (i : ℤ) → ((o : ℕ) → o < names_in t → AtPlace P (occurrences t i) gs o) → EachRead P t gs i
over_each P (base name) gs i h = over_base P name gs i (h 0 (omega arith))
over_each P (constant v a b) gs i h = tt
over_each P (bare v) gs i h = tt
over_each P (plus u v) gs i h = (
  over_each P u (left_of u gs) i (λ o lt. place_left P (occurrences u i) (occurrences v i) gs (names_in u) o (length-occurrences u i) lt (h o (omega arith))),
  over_each P v (right_of u gs) i (λ o lt. place_right P (occurrences u i) (occurrences v i) gs (names_in u) o (length-occurrences u i) (h (names_in u + o) (omega arith))),
)
over_each P (minus u v) gs i h = (
  over_each P u (left_of u gs) i (λ o lt. place_left P (occurrences u i) (occurrences v i) gs (names_in u) o (length-occurrences u i) lt (h o (omega arith))),
  over_each P v (right_of u gs) i (λ o lt. place_right P (occurrences u i) (occurrences v i) gs (names_in u) o (length-occurrences u i) (h (names_in u + o) (omega arith))),
)
over_each P (times u v) gs i h = (
  over_each P u (left_of u gs) i (λ o lt. place_left P (occurrences u i) (occurrences v i) gs (names_in u) o (length-occurrences u i) lt (h o (omega arith))),
  over_each P v (right_of u gs) i (λ o lt. place_right P (occurrences u i) (occurrences v i) gs (names_in u) o (length-occurrences u i) (h (names_in u + o) (omega arith))),
)
over_each P (shift u k) gs i h = over_each P u gs (i -ℤ k) h

two_back : (P : List ℕ → ℤ → Seg → Type 0) (os qs : List Occurrence) (gs : List Seg) (n m o : ℕ) → length os ≡ n → o < n + m → ((j : ℕ) → j < n → AtPlace P os (take n gs) j) → ((j : ℕ) → j < m → AtPlace P qs (drop n gs) j) → AtPlace P (os ++ qs) gs o
two_back P os qs gs n m o e lt h g = elim (cases_lt o n) [
  | inl below ↦ back_left P os qs gs n o e below (h o below)
  | inr above ↦ back_right P os qs gs n (o - n) o e (omega arith) (g (o - n) (omega arith))
]

pub back_each : (P : List ℕ → ℤ → Seg → Type 0) (t : Term) (gs : List Seg) (i : ℤ) → EachRead P t gs i → (o : ℕ) → o < names_in t → AtPlace P (occurrences t i) gs o
back_each P (base name) gs i h zero lt = back_base P name gs i h
back_each P (base name) gs i h (suc o) lt = absurd (omega arith)
back_each P (constant v a b) gs i h o lt = absurd (omega arith)
back_each P (bare v) gs i h o lt = absurd (omega arith)
back_each P (plus u v) gs i h o lt = two_back P (occurrences u i) (occurrences v i) gs (names_in u) (names_in v) o (length-occurrences u i) lt (back_each P u (left_of u gs) i h.0) (back_each P v (right_of u gs) i h.1)
back_each P (minus u v) gs i h o lt = two_back P (occurrences u i) (occurrences v i) gs (names_in u) (names_in v) o (length-occurrences u i) lt (back_each P u (left_of u gs) i h.0) (back_each P v (right_of u gs) i h.1)
back_each P (times u v) gs i h o lt = two_back P (occurrences u i) (occurrences v i) gs (names_in u) (names_in v) o (length-occurrences u i) lt (back_each P u (left_of u gs) i h.0) (back_each P v (right_of u gs) i h.1)
back_each P (shift u k) gs i h o lt = back_each P u gs (i -ℤ k) h o lt

-- ---- segments that lie one behind the other

cover : (s n p : ℕ) → s ≤ p → p < s + n → (nat_le s p && nat_lt p (s + n)) ≡ true
cover s n p h k = grind (arith, nat_tests)

pub covers_from : (g : Seg) (z : ℤ) → pos g.start ≤ℤ z → z <ℤ pos (g.start + g.len) → covers g z ≡ true
covers_from g (pos p) h k = cover g.start g.len p (omega (arith, ints)) (omega (arith, ints))
covers_from g (negsuc p) h k = absurd (omega (arith, ints))

pub record IsCovered (g : Seg) (z : ℤ) : Type 0 where
  pub low : pos g.start ≤ℤ z
  pub high : z <ℤ pos (g.start + g.len)

pub covered_is : (g : Seg) (z : ℤ) → covers g z ≡ true → IsCovered g z
covered_is g z h =
    let p = place_in g z h in
    let e : z ≡ pos (g.start + p.0) = p.2 in
    record { low = omega (arith, ints, e); high = omega (arith, ints, e, p.1) }

-- one of the segments covers each position
pub found_some : (gs : List Seg) (from to p : ℕ) → TouchFrom from gs to → from ≤ p → p < to → (k : ℕ) × (k < length gs) × (covers (get_or gs k no_seg) (pos p) ≡ true)
found_some [] from to p h le lt = absurd (omega arith)
found_some (g ∷ gs) from to p h le lt = at (cases_lt p (from + g.len)) (λ above. found_some gs (from + g.len) to p h.1 above lt)
  where
    at : (p < from + g.len) ⊎ (from + g.len ≤ p) → (from + g.len ≤ p → (k : ℕ) × (k < length gs) × (covers (get_or gs k no_seg) (pos p) ≡ true))
        → (k : ℕ) × (k < suc (length gs)) × (covers (get_or (g ∷ gs) k no_seg) (pos p) ≡ true)
    at (inl below) r = (0, omega arith, cover g.start g.len p (omega (arith, h.0)) (omega (arith, h.0)))
    at (inr above) r = let q = r above in (suc q.0, omega (arith, q.1), q.2)

pub touch_next : (gs : List Seg) (from to k m : ℕ) → m ≡ k + 1 → TouchFrom from gs to → m < length gs → (get_or gs k no_seg).start + (get_or gs k no_seg).len ≡ (get_or gs m no_seg).start
touch_next [] from to k m e h lt = absurd (omega arith)
touch_next (g ∷ []) from to k zero e h lt = absurd (omega arith)
touch_next (g ∷ []) from to k (suc m) e h lt = absurd (omega arith)
touch_next (g ∷ f ∷ gs) from to k zero e h lt = absurd (omega arith)
touch_next (g ∷ f ∷ gs) from to zero (suc zero) e h lt = omega (arith, h.0, h.1.0)
touch_next (g ∷ f ∷ gs) from to zero (suc (suc m)) e h lt = absurd (omega arith)
touch_next (g ∷ f ∷ gs) from to (suc k) (suc m) e h lt = touch_next (f ∷ gs) (from + g.len) to k m (omega arith) h.1 (omega arith)

pub touch_within : (gs : List Seg) (from to k : ℕ) → TouchFrom from gs to → k < length gs → (from ≤ to) × ((get_or gs k no_seg).start + (get_or gs k no_seg).len ≤ to)
touch_within [] from to k h lt = absurd (omega arith)
touch_within (g ∷ []) from to zero h lt = (omega (arith, h.0, h.1), omega (arith, h.0, h.1))
touch_within (g ∷ []) from to (suc k) h lt = absurd (omega arith)
touch_within (g ∷ f ∷ gs) from to zero h lt = let r = touch_within (f ∷ gs) (from + g.len) to 0 h.1 (omega arith) in (omega (arith, r.0), omega (arith, h.0, r.0))
touch_within (g ∷ f ∷ gs) from to (suc k) h lt = let r = touch_within (f ∷ gs) (from + g.len) to k h.1 (omega arith) in (omega (arith, r.0), r.1)

-- ---- the segments of a piece cover it, and are sane

pub spans_piece : (g : Seg) (z : ℤ) (len : ℕ) → 1 ≤ len → ((j : ℕ) → j < len → covers g (z +ℤ pos j) ≡ true) → (pos g.start ≤ℤ z) × ((z +ℤ pos len) ≤ℤ pos (g.start + g.len))
spans_piece g z len some h =
    let a = covered_is g (z +ℤ pos 0) (h 0 (omega arith)) in
    let b = covered_is g (z +ℤ pos (len - 1)) (h (len - 1) (omega arith)) in
    (omega (arith, ints, a.low), omega (arith, ints, b.high))

each_at : {A : Type 0} (P : A → Type 0) (xs : List A) (d : A) (o : ℕ) → AllByRecursion P xs → o < length xs → P (get_or xs o d)
each_at P [] d o h lt = absurd (omega arith)
each_at P (x ∷ xs) d zero h lt = h.0
each_at P (x ∷ xs) d (suc o) h lt = each_at P xs d o h.1 (omega arith)

pub sane_seg : (d n : ℕ) (gs : List Seg) (k : ℕ) → AreSaneFor d n gs → k < length gs → IsSane (get_or gs k no_seg) d × ((get_or gs k no_seg).len ≤ n)
sane_seg d n gs k h lt = (each_at (IsSaneFor d) gs no_seg k h.each lt, omega (arith, get_or-le-sum_by len_of gs k no_seg lt, h.few))

-- The roots of a cut.
use Rattle.std.proofs.Common.{◌≡◌, ℕ, zero, suc, ◌+◌, ◌<◌, ◌≤◌, cond, Bool, true, false, Option, Some, None, List, [], ◌∷◌, ◌++◌, length, map, take, get_or, refl, sym, ap, ap₂, subst, ◌∙◌, arith, append-nil, length-take-le}
use Rattle.std.specs.Prelude.{IfSome, IsNone, ◌↔◌, slice_index}
use Rattle.std.specs.List.{All, list_any}
use Rattle.std.proofs.lemmas.List.{take_more}
use Rattle.std.proofs.lemmas.List.Elements.{All-nil, All-cons, All-head, All-tail}
use Rattle.semantics.specs.Admission.{query_names}
use Rattle.semantics.specs.Names.{same_name}
use Rattle.semantics.specs.Term.{QueryTerm}
use Rattle.segment.specs.declared.segments.Seg.{Seg}
use Rattle.segment.specs.Measure.{IsSane}
use Rattle.segment.specs.Nodes.{Forest, IsForest, IsSeriesTree, Place, root_place, seg_at, tree_in, known_root, KeepsRoots}
use Rattle.segment.specs.Tree.{SegTree, root_of}
use Rattle.segment.proofs.PartLaws.{part_self, part-over}
use Rattle.descent.specs.Rows.{Row, Track, with_rows}
use Rattle.descent.specs.Descents.{Nodes, row_of, cut_of, root_track, roots_from, roots}
use Rattle.descent.specs.Held.{Held, row_in, shown, head_of, heads, IsTrackOf, StandsFor, AreRising}
use Rattle.descent.specs.Known.{greatest_known, root_head, heads_from, AreRootsKnown, AreApart}
use Rattle.descent.specs.Sound.{name_of}
use Rattle.descent.specs.Laid.{IsRootOf, root_table}

pub whole-root : {I : Type 0} → (len : ℕ) (o : Option (I × Seg)) → (IsNone o ↔ (len ≡ 0)) → IfSome o (λ r. r.1.start ≡ 0) → IfSome o (λ r. r.1.len ≡ len) → IfSome o (λ r. IsSane r.1 r.1.d) → IsRootOf len o
whole-root len None n s l sane = n.0 refl
whole-root len (Some r) n s l sane = record { sane = sane; some = some len (λ z. let bad = n.1 z in cc); starts = s; spans = l }
  where
    some : (k : ℕ) → (k ≡ 0 → ⊥) → 0 < k
    some zero h = absurd (h refl)
    some (suc k) h = omega arith

pub root-track-of : {I : Type 0} → (lengths : List ℕ) (known : List (Option Seg)) (stands : I → Place → Type 0) (series : ℕ) (name : List ℕ) (len : ℕ) (o : Option (I × Seg)) → series < length lengths → len ≡ slice_index lengths series
    → (IsNone o ↔ (len ≡ 0)) → IfSome o (λ r. r.1.start ≡ 0) → IfSome o (λ r. r.1.len ≡ len) → IfSome o (λ r. stands r.0 (root_place series len)) → IfSome o (λ r. known_root known series ≡ Some r.1)
    → IsTrackOf lengths known stands (root_table series name len o)
root-track-of lengths known stands series name len None lt l n s w st k = record {
  within = lt;
  len = l;
  rooted = λ some. let z : len ≡ 0 = n.0 refl in absurd (omega arith);
  stand = All-nil (StandsFor stands series);
}
root-track-of lengths known stands series name len (Some r) lt l n s w st k = record {
  within = lt;
  len = l;
  rooted = λ some. (r.1, k, refl);
  stand = All-cons (StandsFor stands series) (record { id = r.0; row = record { seg = r.1; readings = None } }) [] (rw (s, w) st) (All-nil (StandsFor stands series));
}

series-tree : (lengths : List ℕ) (forest : Forest) (k : ℕ) → IsForest lengths forest → k < length lengths → IsSeriesTree (get_or lengths k 0) (tree_in forest k)
series-tree [] forest k h lt = absurd (omega arith)
series-tree (n ∷ ns) [] k h lt = absurd h
series-tree (n ∷ ns) (t ∷ ts) zero h lt = h.0
series-tree (n ∷ ns) (t ∷ ts) (suc k) h lt = series-tree ns ts k h.1 (omega arith)

shown-by : {I : Type 0} → (forest : Forest) (series : ℕ) (name : List ℕ) (len : ℕ) (o : Option (I × Seg)) (t : Option SegTree) → tree_in forest series ≡ t → IsSeriesTree len t → (IsNone o ↔ (len ≡ 0))
    → IfSome o (λ r. seg_at forest (root_place series len) ≡ Some r.1) → with_rows row_in (root_table series name len o) ≡ with_rows row_of (root_track series name t)
shown-by forest series name len None None e is n f = ap (λ k. let x : Track Row = record { series = series; name = name; len = k; greatest = 0; rows = [] } in x) is
shown-by forest series name len None (Some t) e is n f = let z : len ≡ 0 = n.0 refl in let some = is.some in absurd (omega arith)
shown-by forest series name len (Some r) None e is n f = let bad = n.1 is in cc
shown-by forest series name len (Some r) (Some t) e is n f =
    let over = part-over len t t (record { start = 0; len = len }) is (part_self t) is.shaped in
    let a : seg_at forest (root_place series len) ≡ Some (root_of t) = rw e over.found in
    let q : Some r.1 ≡ Some (root_of t) = sym f ∙ a in
    let same : r.1 ≡ root_of t = cc in
    ap₂ (λ (k : ℕ) (g : Seg). let x : Track Row = record { series = series; name = name; len = k; greatest = g.d; rows = record { seg = g; readings = None } ∷ [] } in x) (sym is.long) same

pub root-shown : {I : Type 0} → (lengths : List ℕ) (forest : Forest) (series : ℕ) (name : List ℕ) (len : ℕ) (o : Option (I × Seg)) → IsForest lengths forest → series < length lengths → len ≡ slice_index lengths series → (IsNone o ↔ (len ≡ 0))
    → IfSome o (λ r. seg_at forest (root_place series len) ≡ Some r.1) → with_rows row_in (root_table series name len o) ≡ with_rows row_of (root_track series name (tree_in forest series))
root-shown lengths forest series name len o fits lt l n f =
    let is = series-tree lengths forest series fits lt in
    shown-by forest series name len o (tree_in forest series) refl (subst (λ k. IsSeriesTree k (tree_in forest series)) (sym l) is) n f

-- ---- one name more

pub roots-more : (q : QueryTerm) (forest : Forest) (k : ℕ) (xs : List (List ℕ)) (name : List ℕ) →
    roots_from q forest k (xs ++ name ∷ []) ≡ roots_from q forest k xs ++ (cond (list_any (same_name name) (query_names q)) (root_track (k + length xs) name (tree_in forest (k + length xs)) ∷ []) [])
roots-more q forest k [] name = let z : k + 0 ≡ k = omega arith in rw z refl
roots-more q forest k (x ∷ xs) name =
    let e : k + suc (length xs) ≡ k + 1 + length xs = omega arith in
    rw e (by (list_any (same_name x) (query_names q)) (roots_from q forest (k + 1) (xs ++ name ∷ [])) (roots_from q forest (k + 1) xs) (cond (list_any (same_name name) (query_names q)) (root_track (k + 1 + length xs) name (tree_in forest (k + 1 + length xs)) ∷ []) []) (roots-more q forest (k + 1) xs name))
  where
    by : (b : Bool) (us vs ws : Nodes) → us ≡ vs ++ ws → cond b (root_track k x (tree_in forest k) ∷ us) us ≡ cond b (root_track k x (tree_in forest k) ∷ vs) vs ++ ws
    by true us vs ws e = ap (λ ns. root_track k x (tree_in forest k) ∷ ns) e
    by false us vs ws e = e

shown-append : {I : Type 0} → (xs ys : List (Track (Held I))) → shown (xs ++ ys) ≡ shown xs ++ shown ys
shown-append [] ys = refl
shown-append (x ∷ xs) ys = ap (λ zs. with_rows row_in x ∷ zs) (shown-append xs ys)

cut-append : (xs ys : Nodes) → cut_of (xs ++ ys) ≡ cut_of xs ++ cut_of ys
cut-append [] ys = refl
cut-append (x ∷ xs) ys = ap (λ zs. with_rows row_of x ∷ zs) (cut-append xs ys)

-- a named series gives one more track
pub roots-named : {I : Type 0} → (q : QueryTerm) (forest : Forest) (xs : List (List ℕ)) (name : List ℕ) (ts : List (Track (Held I))) (t : Track (Held I)) → list_any (same_name name) (query_names q) ≡ true
    → shown ts ≡ cut_of (roots q forest xs) → with_rows row_in t ≡ with_rows row_of (root_track (length xs) name (tree_in forest (length xs))) → shown (ts ++ t ∷ []) ≡ cut_of (roots q forest (xs ++ name ∷ []))
roots-named q forest xs name ts t named e new =
    let z : 0 + length xs ≡ length xs = omega arith in
    let r : roots q forest (xs ++ name ∷ []) ≡ roots q forest xs ++ (root_track (length xs) name (tree_in forest (length xs)) ∷ []) =
    roots-more q forest 0 xs name ∙ rw (named, z) refl in
    shown-append ts (t ∷ []) ∙ ap₂ ◌++◌ e (ap (λ c. c ∷ []) new) ∙ sym (cut-append (roots q forest xs) (root_track (length xs) name (tree_in forest (length xs)) ∷ [])) ∙ sym (ap cut_of r)

-- another gives none
pub roots-other : {I : Type 0} → (q : QueryTerm) (forest : Forest) (xs : List (List ℕ)) (name : List ℕ) (ts : List (Track (Held I))) → list_any (same_name name) (query_names q) ≡ false
    → shown ts ≡ cut_of (roots q forest xs) → shown ts ≡ cut_of (roots q forest (xs ++ name ∷ []))
roots-other q forest xs name ts other e =
    let r : roots q forest (xs ++ name ∷ []) ≡ roots q forest xs = roots-more q forest 0 xs name ∙ rw other (append-nil (roots q forest xs)) in
    e ∙ sym (ap cut_of r)

-- tracks whose series go up, all below k
abbrev pub RiseTo : {R : Type 0} → ℕ → List (Track R) → ℕ → Type 0
RiseTo j [] k = j ≤ k
RiseTo j (t ∷ ts) k = (j ≤ t.series) × RiseTo (t.series + 1) ts k

pub rise-push : {R : Type 0} → (j : ℕ) (ts : List (Track R)) (k : ℕ) (t : Track R) → t.series ≡ k → RiseTo j ts k → RiseTo j (ts ++ t ∷ []) (k + 1)
rise-push j [] k t e r = rw e (r, omega arith)
rise-push j (x ∷ ts) k t e r = (r.0, rise-push (x.series + 1) ts k t e r.1)

pub rise-more : {R : Type 0} → (j : ℕ) (ts : List (Track R)) (k : ℕ) → RiseTo j ts k → RiseTo j ts (k + 1)
rise-more j [] k r = omega arith
rise-more j (x ∷ ts) k r = (r.0, rise-more (x.series + 1) ts k r.1)

pub rise-rising : {R : Type 0} → (j : ℕ) (ts : List (Track R)) (k : ℕ) → RiseTo j ts k → AreRising j ts
rise-rising j [] k r = tt
rise-rising j (x ∷ ts) k r = (r.0, rise-rising (x.series + 1) ts k r.1)

pub for_some : {A : Type 0} (P Q : A → Type 0) (o : Option A) → ((x : A) → P x → Q x) → IfSome o P → IfSome o Q
for_some P Q None f h = tt
for_some P Q (Some x) f h = f x h

pub front-more : (xs : List (List ℕ)) (k : ℕ) (x : List ℕ) → k < length xs → x ≡ get_or xs k x → take (k + 1) xs ≡ take k xs ++ x ∷ []
front-more xs k x lt e = take_more xs k x lt ∙ ap (λ y. take k xs ++ y ∷ []) (sym e)

pub front-length : (xs : List (List ℕ)) (k : ℕ) → k < length xs → length (take k xs) ≡ k
front-length xs k lt = length-take-le k xs (omega arith)

-- ---- what is known of the series of the roots

greatest-some : (n : ℕ) (g : Seg) → 0 < n → greatest_known n (Some g) ≡ g.d
greatest-some zero g some = absurd (omega arith)
greatest-some (suc n) g some = refl

pub root-head-of : {I : Type 0} → (lengths : List ℕ) (known : List (Option Seg)) (series : ℕ) (name : List ℕ) (len : ℕ) (o : Option (I × Seg)) → len ≡ slice_index lengths series
    → (IsNone o ↔ (len ≡ 0)) → IfSome o (λ r. known_root known series ≡ Some r.1) → head_of (root_table series name len o) ≡ root_head lengths known series name
root-head-of {I} lengths known series name len None l n k =
    let z : len ≡ 0 = n.0 refl in
    let g : 0 ≡ greatest_known (slice_index lengths series) (known_root known series) = rw (← l, z) refl in
    ap₂ (λ (m d : ℕ). let t : Track (Held I) = record { series = series; name = name; len = m; greatest = d; rows = [] } in t) l g
root-head-of {I} lengths known series name len (Some r) l n k =
    let some : 0 < len = more len (λ z. let bad = n.1 z in cc) in
    let g : r.1.d ≡ greatest_known (slice_index lengths series) (known_root known series) = sym (ap (greatest_known (slice_index lengths series)) k ∙ greatest-some (slice_index lengths series) r.1 (omega arith)) in
    ap₂ (λ (m d : ℕ). let t : Track (Held I) = record { series = series; name = name; len = m; greatest = d; rows = [] } in t) l g
  where
    more : (m : ℕ) → (m ≡ 0 → ⊥) → 0 < m
    more zero h = absurd (h refl)
    more (suc m) h = omega arith

heads-append : {R : Type 0} → (xs ys : List (Track R)) → heads (xs ++ ys) ≡ heads xs ++ heads ys
heads-append [] ys = refl
heads-append (x ∷ xs) ys = ap (λ zs. head_of x ∷ zs) (heads-append xs ys)

heads-more : {R : Type 0} → (q : QueryTerm) (lengths : List ℕ) (known : List (Option Seg)) (k : ℕ) (xs : List (List ℕ)) (name : List ℕ) →
    heads_from {R = R} q lengths known k (xs ++ name ∷ []) ≡ heads_from q lengths known k xs ++ (cond (list_any (same_name name) (query_names q)) (root_head lengths known (k + length xs) name ∷ []) [])
heads-more q lengths known k [] name = let z : k + 0 ≡ k = omega arith in rw z refl
heads-more {R} q lengths known k (x ∷ xs) name =
    let e : k + suc (length xs) ≡ k + 1 + length xs = omega arith in
    rw e (by (list_any (same_name x) (query_names q)) (heads_from q lengths known (k + 1) (xs ++ name ∷ [])) (heads_from q lengths known (k + 1) xs) (cond (list_any (same_name name) (query_names q)) (root_head lengths known (k + 1 + length xs) name ∷ []) []) (heads-more {R = R} q lengths known (k + 1) xs name))
  where
    by : (b : Bool) (us vs ws : List (Track R)) → us ≡ vs ++ ws → cond b (root_head lengths known k x ∷ us) us ≡ cond b (root_head lengths known k x ∷ vs) vs ++ ws
    by true us vs ws e = ap (λ ns. root_head lengths known k x ∷ ns) e
    by false us vs ws e = e

pub heads-named : {R : Type 0} → (q : QueryTerm) (lengths : List ℕ) (known : List (Option Seg)) (xs : List (List ℕ)) (name : List ℕ) (ts : List (Track R)) (t : Track R) → list_any (same_name name) (query_names q) ≡ true
    → heads ts ≡ heads_from q lengths known 0 xs → head_of t ≡ root_head lengths known (length xs) name → heads (ts ++ t ∷ []) ≡ heads_from q lengths known 0 (xs ++ name ∷ [])
heads-named {R} q lengths known xs name ts t named e new =
    let z : 0 + length xs ≡ length xs = omega arith in
    let r : heads_from {R = R} q lengths known 0 (xs ++ name ∷ []) ≡ heads_from q lengths known 0 xs ++ (root_head lengths known (length xs) name ∷ []) = heads-more {R = R} q lengths known 0 xs name ∙ rw (named, z) refl in
    heads-append ts (t ∷ []) ∙ ap₂ ◌++◌ e (ap (λ h. h ∷ []) new) ∙ sym r

pub heads-other : {R : Type 0} → (q : QueryTerm) (lengths : List ℕ) (known : List (Option Seg)) (xs : List (List ℕ)) (name : List ℕ) (ts : List (Track R)) → list_any (same_name name) (query_names q) ≡ false
    → heads ts ≡ heads_from q lengths known 0 xs → heads ts ≡ heads_from q lengths known 0 (xs ++ name ∷ [])
heads-other {R} q lengths known xs name ts other e =
    let r : heads_from {R = R} q lengths known 0 (xs ++ name ∷ []) ≡ heads_from q lengths known 0 xs = heads-more {R = R} q lengths known 0 xs name ∙ rw other (append-nil (heads_from q lengths known 0 xs)) in
    e ∙ sym r

-- a root that is known stays
pub head-kept : {R : Type 0} → (q : QueryTerm) (names : List (List ℕ)) (lengths lengths' : List ℕ) (known known' : List (Option Seg)) (k : ℕ) (name : List ℕ) → AreRootsKnown q names lengths known → lengths' ≡ lengths → KeepsRoots known known'
    → k < length names → list_any (same_name (get_or names k [])) (query_names q) ≡ true → root_head {R = R} lengths' known' k name ≡ root_head lengths known k name
head-kept {R} q names lengths lengths' known known' k name are same keeps lt named =
    ap (λ ls. root_head {R = R} ls known' k name) same ∙ ap (λ (d : ℕ). let t : Track R = record { series = k; name = name; len = slice_index lengths k; greatest = d; rows = [] } in t) (by (slice_index lengths k) (λ some. are k lt named some))
  where
    by : (n : ℕ) → (0 < n → (g : Seg) × (known_root known k ≡ Some g)) → greatest_known n (known_root known' k) ≡ greatest_known n (known_root known k)
    by zero f = refl
    by (suc n) f = let r = f (omega arith) in ap (greatest_known (suc n)) (keeps k r.0 r.1 ∙ sym r.1)

-- no more series than names
heads-few : (R : Type 0) (q : QueryTerm) (lengths : List ℕ) (known : List (Option Seg)) (k : ℕ) (names : List (List ℕ)) → length (heads_from {R = R} q lengths known k names) ≤ length names
heads-few R q lengths known k [] = omega arith
heads-few R q lengths known k (name ∷ names) = by (list_any (same_name name) (query_names q)) (heads_from q lengths known (k + 1) names) (heads-few R q lengths known (k + 1) names)
  where
    by : (b : Bool) (hs : List (Track R)) → length hs ≤ length names → length (cond b (root_head lengths known k name ∷ hs) hs) ≤ suc (length names)
    by true hs le = omega arith
    by false hs le = omega arith

heads-length : {R : Type 0} → (ts : List (Track R)) → length (heads ts) ≡ length ts
heads-length [] = refl
heads-length (t ∷ ts) = ap suc (heads-length ts)

pub few-tracks : {R : Type 0} → (q : QueryTerm) (lengths : List ℕ) (known : List (Option Seg)) (names : List (List ℕ)) (ts : List (Track R)) → heads ts ≡ heads_from q lengths known 0 names → length ts ≤ length names
few-tracks {R} q lengths known names ts e = let n = heads-few R q lengths known 0 names in let m = heads-length ts in let k = ap length e in omega arith

-- ---- the names of the tracks differ

pub heads-apart : (R : Type 0) (q : QueryTerm) (lengths : List ℕ) (known : List (Option Seg)) (k : ℕ) (names : List (List ℕ)) (P : List ℕ → Type 0) → All P names → All P (map name_of (heads_from {R = R} q lengths known k names))
heads-apart R q lengths known k [] P all = All-nil P
heads-apart R q lengths known k (name ∷ names) P all = by (list_any (same_name name) (query_names q)) (heads-apart R q lengths known (k + 1) names P (All-tail P name names all))
  where
    by : (b : Bool) → All P (map name_of (heads_from {R = R} q lengths known (k + 1) names)) → All P (map name_of (cond b (root_head {R = R} lengths known k name ∷ heads_from {R = R} q lengths known (k + 1) names) (heads_from {R = R} q lengths known (k + 1) names)))
    by true rest = All-cons P name (map name_of (heads_from {R = R} q lengths known (k + 1) names)) (All-head P name names all) rest
    by false rest = rest

names-apart : (R : Type 0) (q : QueryTerm) (lengths : List ℕ) (known : List (Option Seg)) (k : ℕ) (names : List (List ℕ)) → AreApart names → AreApart (map name_of (heads_from {R = R} q lengths known k names))
names-apart R q lengths known k [] h = tt
names-apart R q lengths known k (name ∷ names) h = by (list_any (same_name name) (query_names q)) (names-apart R q lengths known (k + 1) names h.1)
  where
    by : (b : Bool) → AreApart (map name_of (heads_from {R = R} q lengths known (k + 1) names)) → AreApart (map name_of (cond b (root_head {R = R} lengths known k name ∷ heads_from {R = R} q lengths known (k + 1) names) (heads_from {R = R} q lengths known (k + 1) names)))
    by true rest = (heads-apart R q lengths known (k + 1) names (λ other. same_name other name ≡ false) h.0, rest)
    by false rest = rest

pub heads-names : {R : Type 0} → (ts : List (Track R)) → map name_of ts ≡ map name_of (heads ts)
heads-names [] = refl
heads-names (t ∷ ts) = ap (λ ns. t.name ∷ ns) (heads-names ts)

pub tracks-apart : {R : Type 0} → (q : QueryTerm) (lengths : List ℕ) (known : List (Option Seg)) (names : List (List ℕ)) (ts : List (Track R)) → heads ts ≡ heads_from q lengths known 0 names → AreApart names → AreApart (map name_of ts)
tracks-apart {R} q lengths known names ts e h = subst AreApart (sym (heads-names ts ∙ ap (λ hs. map name_of hs) e)) (names-apart R q lengths known 0 names h)

-- The bytes that steps cost.
use Rattle.std.proofs.Common.{◌≡◌, ℕ, zero, suc, ◌+◌, ◌*◌, ◌<◌, ◌≤◌, cond, true, false, inl, inr, Option, Some, None, List, [], ◌∷◌, ◌++◌, length, map, set, get_or, refl, sym, ap, ap₂, subst, ◌∙◌, arith, length-append}
use Rattle.std.proofs.lemmas.List.{length-map}
use Rattle.std.proofs.lemmas.List.Sums.{sum_by-append, sum_by-cons}
use Rattle.std.specs.Prelude.{is_some, ◌&&◌, ◌==◌, not, nat_lt, slice_index, if◌then◌else◌, IsNone, ◌↔◌, ℤ}
use Rattle.std.specs.List.{list_any, count_by}
use Rattle.std.proofs.lemmas.Bool.{cases_Bool}
use Rattle.std.proofs.lemmas.Bool.Decides.{nat_tests}
use Rattle.semantics.specs.Admission.{query_names}
use Rattle.semantics.specs.Names.{same_name}
use Rattle.semantics.specs.Term.{QueryTerm}
use Rattle.segment.specs.declared.segments.Seg.{Seg}
use Rattle.segment.specs.Nodes.{HandsOut}
use Rattle.descent.specs.declared.rows.CutRow.{CutRow}
use Rattle.descent.specs.Rows.{Row, Track}
use Rattle.descent.specs.Choice.{Has}
use Rattle.descent.specs.Held.{Held, row_in, shown, is_closed_at}
use Rattle.descent.specs.Laid.{replaced, root_table}
use Rattle.descent.specs.Told.{told, told_row}
use Rattle.descent.specs.Spent.{has_root, opened_one, opened_among, rows_in, opened_in, Spends, HasSpent, roots_in}

pub hands-on : (m n : ℕ) (a b c : Option ℕ) → HandsOut m a b → HandsOut n b c → HandsOut (m + n) a c
hands-on m n a b c f g = λ k e.
    let y = g k e in
    let x = f y.0 y.1 in
    let p = y.2 in
    let q = x.2 in
    (x.0, x.1, omega arith)

pub hands-more : (m n : ℕ) (a b : Option ℕ) → m ≤ n → HandsOut m a b → HandsOut n a b
hands-more m n a b le f = λ k e. let x = f k e in let p = x.2 in (x.0, x.1, omega arith)

pub hands-none : (a : Option ℕ) → HandsOut 0 a a
hands-none a = λ k e. (k, e, omega arith)

-- ---- a step on a track

none-and : (n : ℕ) → n ≡ 0 + n
none-and n = omega arith

opened-append : {I : Type 0} → (xs ys : List (Held I)) → opened_among (xs ++ ys) ≡ opened_among xs + opened_among ys
opened-append [] ys = none-and (opened_among ys)
opened-append (x ∷ xs) ys = omega (arith, opened-append xs ys)

closed-counts : {I : Type 0} → (start : ℕ) (h : Held I) → is_closed_at start h ≡ true → opened_one h.row.readings ≡ 0
closed-counts start h t = by h.row.readings t
  where
    by : (o : Option (List ℤ)) → (not (is_some o) && (h.row.seg.start == start)) ≡ true → opened_one o ≡ 0
    by None e = refl
    by (Some xs) e = cc

pub record Counts {I : Type 0} (old new after : List (Held I)) : Type 0 where
  pub rows : length after + 1 ≡ length old + length new
  pub opened : opened_among after ≡ opened_among old + opened_among new

pub counts-replaced : {I : Type 0} → (start : ℕ) (new hs : List (Held I)) (h : Held I) → Has h hs → is_closed_at start h ≡ true → Counts hs new (replaced start new hs)
counts-replaced start new [] h m t = absurd m
counts-replaced start new (k ∷ hs) h (inl e) t =
    let c : is_closed_at start k ≡ true = subst (λ q. is_closed_at start q ≡ true) e t in
    let z = closed-counts start k c in
    rw c (record { rows = omega (arith, length-append new hs); opened = omega (arith, opened-append new hs, z) })
counts-replaced start new (k ∷ hs) h (inr m) t = elim (cases_Bool (is_closed_at start k)) [
  | inl c ↦ let z = closed-counts start k c in rw c (record { rows = omega (arith, length-append new hs); opened = omega (arith, opened-append new hs, z) })
  | inr f ↦ let i = counts-replaced start new hs h m t in let r = i.rows in let o = i.opened in rw f (record { rows = omega arith; opened = omega arith })
]

-- ---- one of the tracks changes

pub rows_in-set : {I : Type 0} → (xs : List (Track (Held I))) (k : ℕ) (t d : Track (Held I)) → k < length xs → rows_in (set xs k t) + length (get_or xs k d).rows ≡ rows_in xs + length t.rows
rows_in-set [] k t d lt = absurd (omega arith)
rows_in-set (x ∷ xs) zero t d lt = omega arith
rows_in-set (x ∷ xs) (suc k) t d lt = let i = rows_in-set xs k t d (omega arith) in omega arith

pub opened_in-set : {I : Type 0} → (xs : List (Track (Held I))) (k : ℕ) (t d : Track (Held I)) → k < length xs → opened_in (set xs k t) + opened_among (get_or xs k d).rows ≡ opened_in xs + opened_among t.rows
opened_in-set [] k t d lt = absurd (omega arith)
opened_in-set (x ∷ xs) zero t d lt = omega arith
opened_in-set (x ∷ xs) (suc k) t d lt = let i = opened_in-set xs k t d (omega arith) in omega arith

pub spends-set : {I : Type 0} → (xs : List (Track (Held I))) (k : ℕ) (t d : Track (Held I)) (before now : Option ℕ) → k < length xs
    → Spends (length (get_or xs k d).rows) (opened_among (get_or xs k d).rows) (length t.rows) (opened_among t.rows) before now → Spends (rows_in xs) (opened_in xs) (rows_in (set xs k t)) (opened_in (set xs k t)) before now
spends-set xs k t d before now lt (inl (r, o, h)) = let i = rows_in-set xs k t d lt in let j = opened_in-set xs k t d lt in inl (omega arith, omega arith, h)
spends-set xs k t d before now lt (inr (r, o, h)) = let i = rows_in-set xs k t d lt in let j = opened_in-set xs k t d lt in inr (omega arith, omega arith, h)

-- a step more
pub spent-more : (first rows opened rows' opened' : ℕ) (a b c : Option ℕ) → HasSpent first rows opened a b → Spends rows opened rows' opened' b c → HasSpent first rows' opened' a c
spent-more first rows opened rows' opened' a b c s (inl (r, o, h)) =
    let m = s.more in
    record { splits = s.splits + 1; more = omega arith; handed = hands-more ((112 * s.splits + 64 * opened) + 112) (112 * (s.splits + 1) + 64 * opened') a c (omega arith) (hands-on (112 * s.splits + 64 * opened) 112 a b c s.handed h) }
spent-more first rows opened rows' opened' a b c s (inr (r, o, h)) =
    let m = s.more in
    record { splits = s.splits; more = omega arith; handed = hands-more ((112 * s.splits + 64 * opened) + 64) (112 * s.splits + 64 * opened') a c (omega arith) (hands-on (112 * s.splits + 64 * opened) 64 a b c s.handed h) }

-- ---- as it is told

pub told-length : {I : Type 0} → (tracks : List (Track (Held I))) → length (told (shown tracks)) ≡ rows_in tracks
told-length [] = refl
told-length (t ∷ ts) =
    let n = length-append (map (told_row t.series) (map row_in t.rows)) (told (shown ts)) in
    let a = length-map (map row_in t.rows) (told_row t.series) in
    let b = length-map t.rows row_in in
    omega (arith, told-length ts)

told-opened-row : (series : ℕ) (rows : List Row) → count_by (λ (r : CutRow). r.opened) (map (told_row series) rows) ≡ count_by (λ (r : Row). is_some r.readings) rows
told-opened-row series [] = refl
told-opened-row series (row ∷ rows) =
    sum_by-cons (λ (r : CutRow). cond r.opened 1 0) (told_row series row) (map (told_row series) rows)
    ∙ ap (λ n. cond (is_some row.readings) 1 0 + n) (told-opened-row series rows)
    ∙ sym (sum_by-cons (λ (r : Row). cond (is_some r.readings) 1 0) row rows)

held-opened : {I : Type 0} → (hs : List (Held I)) → count_by (λ (r : Row). is_some r.readings) (map row_in hs) ≡ opened_among hs
held-opened [] = refl
held-opened (h ∷ hs) = sum_by-cons (λ (r : Row). cond (is_some r.readings) 1 0) h.row (map row_in hs) ∙ ap (λ n. cond (is_some h.row.readings) 1 0 + n) (held-opened hs)

pub told-opened : {I : Type 0} → (tracks : List (Track (Held I))) → count_by (λ (r : CutRow). r.opened) (told (shown tracks)) ≡ opened_in tracks
told-opened [] = refl
told-opened (t ∷ ts) =
    sum_by-append (λ (r : CutRow). cond r.opened 1 0) (map (told_row t.series) (map row_in t.rows)) (told (shown ts))
    ∙ ap₂ (λ a b. a + b) (told-opened-row t.series (map row_in t.rows) ∙ held-opened t.rows) (told-opened ts)

-- ---- the roots

pub known-handed : (n : ℕ) (root : Option Seg) (before now : Option ℕ) → (0 < n → (g : Seg) × (root ≡ Some g)) → ((g : Seg) → root ≡ Some g → HandsOut 0 before now) → (n ≡ 0 → HandsOut 0 before now) → HandsOut 0 before now
known-handed zero root before now known some none = none refl
known-handed (suc n) root before now known some none = let g = known (omega arith) in some g.0 g.1

pub root-rows-count : {I : Type 0} → (series : ℕ) (name : List ℕ) (len : ℕ) (o : Option (I × Seg)) → (IsNone o ↔ (len ≡ 0)) → length (root_table series name len o).rows ≡ has_root len
root-rows-count series name len None n = let z : len ≡ 0 = n.0 refl in rw z refl
root-rows-count series name zero (Some r) n = let bad = n.1 refl in cc
root-rows-count series name (suc len) (Some r) n = let b : nat_lt 0 (suc len) ≡ true = grind (arith, nat_tests) in rw b refl

pub root-closed : {I : Type 0} → (series : ℕ) (name : List ℕ) (len : ℕ) (o : Option (I × Seg)) → opened_among (root_table series name len o).rows ≡ 0
root-closed series name len None = refl
root-closed series name len (Some r) = refl

roots_in-more : (q : QueryTerm) (lengths : List ℕ) (k : ℕ) (xs : List (List ℕ)) (name : List ℕ)
    → roots_in q lengths k (xs ++ name ∷ []) ≡ roots_in q lengths k xs + (if list_any (same_name name) (query_names q) then has_root (slice_index lengths (k + length xs)) else 0)
roots_in-more q lengths k [] name = let z : k + 0 ≡ k = omega arith in rw z (omega arith)
roots_in-more q lengths k (x ∷ xs) name =
    let e : k + suc (length xs) ≡ k + 1 + length xs = omega arith in
    let i = roots_in-more q lengths (k + 1) xs name in
    rw e (omega (arith, i))

pub roots_in-named : (q : QueryTerm) (lengths : List ℕ) (xs : List (List ℕ)) (name : List ℕ) → list_any (same_name name) (query_names q) ≡ true
    → roots_in q lengths 0 (xs ++ name ∷ []) ≡ roots_in q lengths 0 xs + has_root (slice_index lengths (length xs))
roots_in-named q lengths xs name named = let z : 0 + length xs ≡ length xs = omega arith in roots_in-more q lengths 0 xs name ∙ rw (named, z) refl

pub roots_in-other : (q : QueryTerm) (lengths : List ℕ) (xs : List (List ℕ)) (name : List ℕ) → list_any (same_name name) (query_names q) ≡ false
    → roots_in q lengths 0 (xs ++ name ∷ []) ≡ roots_in q lengths 0 xs
roots_in-other q lengths xs name other = roots_in-more q lengths 0 xs name ∙ rw other (omega arith)

pub rows_in-push : {I : Type 0} → (ts : List (Track (Held I))) (t : Track (Held I)) → rows_in (ts ++ t ∷ []) ≡ rows_in ts + length t.rows
rows_in-push [] t = omega arith
rows_in-push (x ∷ ts) t = omega (arith, rows_in-push ts t)

pub opened_in-push : {I : Type 0} → (ts : List (Track (Held I))) (t : Track (Held I)) → opened_in (ts ++ t ∷ []) ≡ opened_in ts + opened_among t.rows
opened_in-push [] t = omega arith
opened_in-push (x ∷ ts) t = omega (arith, opened_in-push ts t)

-- before the first step nothing is spent
pub spent-first : (first rows opened : ℕ) (before now : Option ℕ) → rows ≡ first → opened ≡ 0 → HandsOut 0 before now → HasSpent first rows opened before now
spent-first first rows opened before now r o h = record { splits = 0; more = omega arith; handed = hands-more 0 (112 * 0 + 64 * opened) before now (omega arith) h }

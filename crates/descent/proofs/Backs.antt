-- Rows that take back the places of what they gave way to.
use Rattle.std.proofs.Common.{◌≡◌, ℕ, zero, suc, ◌+◌, ◌-◌, ◌*◌, ◌/◌, ◌<◌, cond, if◌then◌else◌, ◌==◌, Bool, true, false, inl, inr, List, [], ◌∷◌, ◌++◌, length, map, set, get_or, arith, refl, sym, ap, ap₂, subst, ◌∙◌}
use Rattle.std.specs.Prelude.{Option, None, Some, is_some, ◌&&◌, not, drop, ℤ}
use Rattle.std.proofs.lemmas.Bool.{cases_Bool, eqb-true, eq-eqb, ne_eqb}
use Rattle.segment.specs.declared.segments.Seg.{Seg}
use Rattle.descent.specs.declared.tables.Row.{Row}
use Rattle.descent.specs.Rows.{Track, with_rows}
use Rattle.descent.specs.Sound.{IsSoundTrack}
use Rattle.descent.specs.Choice.{Has}
use Rattle.descent.specs.CutFields.{restored_at, CanGoBackAt}
use Rattle.descent.specs.Held.{Held, row_in, is_closed_at}
use Rattle.descent.specs.Laid.{blocks, present, IsLaid, held, replaced, restored, CanGoBack, AreHalvesOf, IsOpeningOf}
use Rattle.descent.proofs.Places.{AreRows, found-at}

-- ---- the places

abbrev restored_rows : {I : Type 0} → Row I → List (Row I) → List (Row I)
restored_rows old [] = []
restored_rows old (r ∷ rs) =
    if r.seg.start == old.seg.start then old ∷ drop (if r.seg.len == old.seg.len then 0 else 1) rs else r ∷ restored_rows old rs

apart : {I : Type 0} → (x old : Row I) (xs ys : List (Row I)) → (x.seg.start ≡ old.seg.start → ⊥) → (if x.seg.start == old.seg.start then xs else ys) ≡ ys
apart x old xs ys h = rw (ne_eqb x.seg.start old.seg.start h) refl

here : {I : Type 0} → (x old : Row I) (xs ys : List (Row I)) → x.seg.start ≡ old.seg.start → (if x.seg.start == old.seg.start then xs else ys) ≡ xs
here x old xs ys h = rw (eq-eqb x.seg.start old.seg.start h) refl

-- the second of two goes
record IsCleared {I : Type 0} (at n : ℕ) (ys : List (Option (Row I))) (b : Row I) : Type 0 where
  laid : IsLaid at (n + blocks b.seg.len) (set ys n None)
  rows : present (set ys n None) ≡ drop 1 (present ys)
  within : n < length ys

cleared : {I : Type 0} → (at n : ℕ) (ys : List (Option (Row I))) (b : Row I) → IsLaid at n ys → get_or ys n None ≡ Some b → IsCleared at n ys b
cleared at zero [] b l e = cc
cleared at (suc n) [] b l e = absurd l
cleared at zero (None ∷ ys) b l e = absurd l
cleared {I} at zero (Some x ∷ ys) b l e =
    let same : x ≡ b = cc in
    let some = l.1 in
    let k : 0 + blocks x.seg.len ≡ suc (blocks x.seg.len - 1) = omega arith in
    let laid : IsLaid at (0 + blocks x.seg.len) (None ∷ ys) = subst (λ m. IsLaid {I = I} at m (None ∷ ys)) (sym k) l.2 in
    record { laid = subst (λ (r : Row I). IsLaid at (0 + blocks r.seg.len) (None ∷ ys)) same laid; rows = refl; within = omega arith }
cleared {I} at (suc n) (None ∷ ys) b l e =
    let i = cleared (at + 1) n ys b l e in
    let w = i.within in
    let k : suc n + blocks b.seg.len ≡ suc (n + blocks b.seg.len) = omega arith in
    record { laid = subst (λ m. IsLaid {I = I} at m (None ∷ set ys n None)) (sym k) i.laid; rows = i.rows; within = omega arith }
cleared at (suc n) (Some x ∷ ys) b l e = absurd l

-- the place of the first gets the row again
record IsMerged {I : Type 0} (at left i m : ℕ) (xs : List (Option (Row I))) (r : Row I) : Type 0 where
  laid : IsLaid at left (set (set xs i (Some r)) (i + m) None)
  rows : present (set (set xs i (Some r)) (i + m) None) ≡ restored_rows r (present xs)
  within : i + m < length xs

merged_here : {I : Type 0} → (at k : ℕ) (xs : List (Option (Row I))) (r x b : Row I) → IsLaid at zero (Some x ∷ xs) → get_or xs k None ≡ Some b → r.seg.start ≡ x.seg.start
    → x.seg.len ≡ 16 * suc k → 0 < b.seg.len → x.seg.len + b.seg.len ≡ r.seg.len
    → IsLaid at zero (Some r ∷ set xs k None) × (r ∷ present (set xs k None) ≡ restored_rows r (x ∷ present xs)) × (k < length xs)
merged_here {I} at k xs r x b l e starts full rest whole =
    let s : x.seg.start ≡ 16 * at = l.0 in
    let first : blocks x.seg.len - 1 ≡ k = omega arith in
    let c = cleared (at + 1) k xs b (subst (λ m. IsLaid {I = I} (at + 1) m xs) first l.2) e in
    let all : k + blocks b.seg.len ≡ blocks r.seg.len - 1 = omega arith in
    let ne : x.seg.len ≡ r.seg.len → ⊥ = λ q. omega arith in
    let d : drop (if x.seg.len == r.seg.len then 0 else 1) (present xs) ≡ drop 1 (present xs) = rw (ne_eqb x.seg.len r.seg.len ne) refl in (
      (omega arith, omega arith, subst (λ m. IsLaid {I = I} (at + 1) m (set xs k None)) all c.laid),
      ap (λ rs. r ∷ rs) (c.rows ∙ sym d) ∙ sym (here x r (r ∷ drop (if x.seg.len == r.seg.len then 0 else 1) (present xs)) (x ∷ restored_rows r (present xs)) (sym starts)),
      c.within,
    )

merged : {I : Type 0} → (at left i m : ℕ) (xs : List (Option (Row I))) (r a b : Row I) → IsLaid at left xs → get_or xs i None ≡ Some a → get_or xs (i + m) None ≡ Some b → r.seg.start ≡ 16 * (at + i)
    → 0 < m → a.seg.len ≡ 16 * m → 0 < b.seg.len → a.seg.len + b.seg.len ≡ r.seg.len → IsMerged at left i m xs r
merged at left i m [] r a b l ea eb s some full rest whole = cc
merged at zero i m (None ∷ xs) r a b l ea eb s some full rest whole = absurd l
merged at (suc left) zero m (None ∷ xs) r a b l ea eb s some full rest whole = cc
merged at (suc left) (suc i) m (None ∷ xs) r a b l ea eb s some full rest whole =
    let e : suc i + m ≡ suc (i + m) = omega arith in
    let found = subst (λ k. get_or (None ∷ xs) k None ≡ Some b) e eb in
    let ih = merged (at + 1) left i m xs r a b l ea found (omega arith) some full rest whole in
    let w = ih.within in
    record { laid = rw e ih.laid; rows = rw e ih.rows; within = omega arith }
merged at zero zero zero (Some x ∷ xs) r a b l ea eb s some full rest whole = absurd (omega arith)
merged at zero zero (suc k) (Some x ∷ xs) r a b l ea eb s some full rest whole =
    let same : a ≡ x = cc in
    let e : 0 + suc k ≡ suc k = omega arith in
    let found = subst (λ j. get_or (Some x ∷ xs) j None ≡ Some b) e eb in
    let q : x.seg.start ≡ 16 * at = l.0 in
    let len : a.seg.len ≡ x.seg.len = ap (λ (y : Row _). y.seg.len) same in
    let h = merged_here at k xs r x b l found (omega arith) (sym len ∙ full) rest (omega arith) in
    let w = h.2 in
    record { laid = rw e h.0; rows = rw e h.1; within = omega arith }
merged at zero (suc i) m (Some x ∷ xs) r a b l ea eb s some full rest whole =
    let e : suc i + m ≡ suc (i + m) = omega arith in
    let found = subst (λ k. get_or (Some x ∷ xs) k None ≡ Some b) e eb in
    let ih = merged (at + 1) (blocks x.seg.len - 1) i m xs r a b l.2 ea found (omega arith) some full rest whole in
    let w = ih.within in
    let q : x.seg.start ≡ 16 * at = l.0 in
    record {
      laid = rw e (l.0, l.1, ih.laid);
      rows = rw e (ap (λ (ys : List (Row _)). x ∷ ys) ih.rows ∙ sym (apart x r _ _ (λ y. omega arith)));
      within = omega arith;
    }
merged at (suc left) i m (Some x ∷ xs) r a b l ea eb s some full rest whole = absurd l

-- or it takes back the place that it had opened
record IsSetBack {I : Type 0} (at left i : ℕ) (xs : List (Option (Row I))) (r : Row I) : Type 0 where
  laid : IsLaid at left (set xs i (Some r))
  rows : present (set xs i (Some r)) ≡ restored_rows r (present xs)
  within : i < length xs

set-back : {I : Type 0} → (at left i : ℕ) (xs : List (Option (Row I))) (r a : Row I) → IsLaid at left xs → get_or xs i None ≡ Some a → r.seg.start ≡ 16 * (at + i) → a.seg ≡ r.seg → IsSetBack at left i xs r
set-back at left i [] r a l e s t = cc
set-back at zero i (None ∷ xs) r a l e s t = absurd l
set-back at (suc left) zero (None ∷ xs) r a l e s t = cc
set-back at (suc left) (suc i) (None ∷ xs) r a l e s t =
    let ih = set-back (at + 1) left i xs r a l e (omega arith) t in
    let w = ih.within in
    record { laid = ih.laid; rows = ih.rows; within = omega arith }
set-back at zero zero (Some x ∷ xs) r a l e s t =
    let same : x ≡ a = cc in
    let seg : r.seg ≡ x.seg = sym t ∙ sym (ap (λ (y : Row _). y.seg) same) in
    let d : drop (if x.seg.len == r.seg.len then 0 else 1) (present xs) ≡ present xs = rw (eq-eqb x.seg.len r.seg.len (ap (λ (g : Seg). g.len) (sym seg))) refl in
    record {
      laid = rw seg l;
      rows = ap (λ rs. r ∷ rs) (sym d) ∙ sym (here x r (r ∷ drop (if x.seg.len == r.seg.len then 0 else 1) (present xs)) (x ∷ restored_rows r (present xs)) (ap (λ (g : Seg). g.start) (sym seg)));
      within = omega arith;
    }
set-back at zero (suc i) (Some x ∷ xs) r a l e s t =
    let ih = set-back (at + 1) (blocks x.seg.len - 1) i xs r a l.2 e (omega arith) t in
    let w = ih.within in
    let q : x.seg.start ≡ 16 * at = l.0 in
    record {
      laid = (l.0, l.1, ih.laid);
      rows = ap (λ (ys : List (Row _)). x ∷ ys) ih.rows ∙ sym (apart x r _ _ (λ y. omega arith));
      within = omega arith;
    }
set-back at (suc left) i (Some x ∷ xs) r a l e s t = absurd l

-- ---- by the rows as contracts see them

map-drop : {I : Type 0} → (b : Bool) (rs : List (Row I)) → map held (drop (if b then 0 else 1) rs) ≡ drop (if b then 0 else 1) (map held rs)
map-drop true rs = refl
map-drop false [] = refl
map-drop false (r ∷ rs) = refl

held-restored : {I : Type 0} → (old : Row I) (rs : List (Row I)) → map held (restored_rows old rs) ≡ restored (held old) (map held rs)
held-restored old [] = refl
held-restored {I} old (r ∷ rs) = by (r.seg.start == old.seg.start) (held-restored old rs)
  where
    by : (b : Bool) → map held (restored_rows old rs) ≡ restored (held old) (map held rs)
        → map held (cond b (old ∷ drop (if r.seg.len == old.seg.len then 0 else 1) rs) (r ∷ restored_rows old rs))
        ≡ cond b (held old ∷ drop (if r.seg.len == old.seg.len then 0 else 1) (map held rs)) (held r ∷ restored (held old) (map held rs))
    by true h = ap (λ hs. held old ∷ hs) (map-drop (r.seg.len == old.seg.len) rs)
    by false h = ap (λ hs. held r ∷ hs) h

-- what stands at the block of a row that can go back, and what becomes of the places
pub record GoesBack {I : Type 0} (xs : List (Option (Row I))) (rows : List (Held I)) (r : Row I) : Type 0 where
  pub left : Row I
  pub found : get_or xs (r.seg.start / 16) None ≡ Some left
  pub within : r.seg.start / 16 < length xs
  pub one : left.seg.len ≡ r.seg.len → AreRows (set xs (r.seg.start / 16) (Some r)) (restored (held r) rows)
  pub two : (left.seg.len ≡ r.seg.len → ⊥) → AreRows (set (set xs (r.seg.start / 16) (Some r)) (r.seg.start / 16 + left.seg.len / 16) None) (restored (held r) rows) × (r.seg.start / 16 + left.seg.len / 16 < length xs)

view-back : {I : Type 0} → (xs ys : List (Option (Row I))) (rows : List (Held I)) (r : Row I) → AreRows xs rows → IsLaid 0 0 ys → present ys ≡ restored_rows r (present xs) → AreRows ys (restored (held r) rows)
view-back xs ys rows r v laid rs = record { laid = laid; view = ap (map held) rs ∙ held-restored r (present xs) ∙ ap (restored (held r)) v.view }

goes-back-one : {I : Type 0} → (xs : List (Option (Row I))) (rows : List (Held I)) (r : Row I) → AreRows xs rows → IsOpeningOf r rows → GoesBack xs rows r
goes-back-one xs rows r v is =
    let start : is.new.row.seg.start ≡ r.seg.start = ap (λ (g : Seg). g.start) is.same in
    let f = found-at r.seg.start xs rows is.new v is.there start in
    let seg : f.row.seg ≡ r.seg = ap (λ (h : Held _). h.row.seg) (sym f.same) ∙ is.same in
    let x = f.exact in
    let s = set-back 0 0 (r.seg.start / 16) xs r f.row v.laid f.found (omega arith) seg in
    record {
      left = f.row;
      found = f.found;
      within = s.within;
      one = λ e. view-back xs (set xs (r.seg.start / 16) (Some r)) rows r v s.laid s.rows;
      two = λ ne. absurd (ne (ap (λ (g : Seg). g.len) seg));
    }

goes-back-two : {I : Type 0} → (xs : List (Option (Row I))) (rows : List (Held I)) (r : Row I) → AreRows xs rows → AreHalvesOf r rows → GoesBack xs rows r
goes-back-two xs rows r v is =
    let f = found-at r.seg.start xs rows is.left v is.left_there is.starts in
    let x = f.exact in
    let len : f.row.seg.len ≡ is.left.row.seg.len = ap (λ (h : Held _). h.row.seg.len) (sym f.same) in
    let full = is.full in
    let some = is.some in
    let rest = is.rest in
    let whole = is.whole in
    let next = is.next in
    let starts = is.starts in
    let g = found-at is.right.row.seg.start xs rows is.right v is.right_there refl in
    let y = g.exact in
    let len2 : g.row.seg.len ≡ is.right.row.seg.len = ap (λ (h : Held _). h.row.seg.len) (sym g.same) in
    let place : is.right.row.seg.start / 16 ≡ r.seg.start / 16 + is.half = omega arith in
    let found2 : get_or xs (r.seg.start / 16 + is.half) None ≡ Some g.row = subst (λ k. get_or xs k None ≡ Some g.row) place g.found in
    let m = merged 0 0 (r.seg.start / 16) is.half xs r f.row g.row v.laid f.found found2 (omega arith) some (len ∙ full) (omega arith) (omega arith) in
    let half : f.row.seg.len / 16 ≡ is.half = omega arith in
    let w = m.within in
    record {
      left = f.row;
      found = f.found;
      within = omega arith;
      one = λ e. absurd (omega arith);
      two = λ ne. rw half (view-back xs (set (set xs (r.seg.start / 16) (Some r)) (r.seg.start / 16 + is.half) None) rows r v m.laid m.rows, m.within);
    }

pub goes-back : {I : Type 0} → (xs : List (Option (Row I))) (rows : List (Held I)) (r : Row I) → AreRows xs rows → CanGoBack r rows → GoesBack xs rows r
goes-back xs rows r v can = elim can.by [
  | inl one ↦ goes-back-one xs rows r v one
  | inr two ↦ goes-back-two xs rows r v two
]

-- ---- a row goes back where it gave way

pub closed-start : (o : Option (List ℤ)) (k start : ℕ) → (not (is_some o) && (k == start)) ≡ true → k ≡ start
closed-start None k start t = eqb-true k start t
closed-start (Some xs) k start t = cc

back-replaced : {I : Type 0} → (rows new : List (Held I)) (start : ℕ) (r : Row I) → is_closed_at start (held r) ≡ true → r.seg.start ≡ start
    → ((h : Held I) → Has h rows → h.row.seg.start ≡ start → h ≡ held r) → ((hs : List (Held I)) → restored (held r) (new ++ hs) ≡ held r ∷ hs)
    → restored (held r) (replaced start new rows) ≡ rows
back-replaced [] new start r closed s alone back = refl
back-replaced (h ∷ hs) new start r closed s alone back = elim (cases_Bool (is_closed_at start h)) [
  | inl t ↦
      let same : h ≡ held r = alone h (inl refl) (closed-start h.row.readings h.row.seg.start start t) in
      rw t (back hs ∙ ap (λ k. k ∷ hs) (sym same))
  | inr f ↦
      let ne : h.row.seg.start ≡ r.seg.start → ⊥ = λ q. let same = alone h (inl refl) (q ∙ s) in let bad : false ≡ true = sym f ∙ ap (is_closed_at start) same ∙ closed in cc in
      rw (f, ne_eqb h.row.seg.start r.seg.start ne) (ap (λ ks. h ∷ ks) (back-replaced hs new start r closed s (λ k m. alone k (inr m)) back))
]

pub closed-there : {I : Type 0} → (start : ℕ) (r : Row I) → r.seg.start ≡ start → r.readings ≡ None → is_closed_at start (held r) ≡ true
closed-there start r s c = rw (c, s) (eq-eqb start start refl)

back-open : {I : Type 0} → (old : Held I) (o : Held I) (hs : List (Held I)) → o.row.seg ≡ old.row.seg → restored old (o ∷ hs) ≡ old ∷ hs
back-open old o hs e = rw (eq-eqb o.row.seg.start old.row.seg.start (ap (λ (g : Seg). g.start) e), eq-eqb o.row.seg.len old.row.seg.len (ap (λ (g : Seg). g.len) e)) refl

back-split : {I : Type 0} → (old a b : Held I) (hs : List (Held I)) → a.row.seg.start ≡ old.row.seg.start → (a.row.seg.len ≡ old.row.seg.len → ⊥) → restored old (a ∷ b ∷ hs) ≡ old ∷ hs
back-split old a b hs s ne = rw (eq-eqb a.row.seg.start old.row.seg.start s, ne_eqb a.row.seg.len old.row.seg.len ne) refl

has-front : {I : Type 0} → (us vs : List (Held I)) (y : Held I) → Has y us → Has y (us ++ vs)
has-front [] vs y z = absurd z
has-front (u ∷ us) vs y (inl e) = inl e
has-front (u ∷ us) vs y (inr z) = inr (has-front us vs y z)

replaced-has : {I : Type 0} → (rows new : List (Held I)) (start : ℕ) (x h : Held I) → is_closed_at start h ≡ true → Has h rows → Has x new → Has x (replaced start new rows)
replaced-has [] new start x h t m n = absurd m
replaced-has (k ∷ ks) new start x h t (inl e) n = let tk : is_closed_at start k ≡ true = subst (λ q. is_closed_at start q ≡ true) e t in rw tk (has-front new ks x n)
replaced-has (k ∷ ks) new start x h t (inr z) n = elim (cases_Bool (is_closed_at start k)) [
  | inl tk ↦ rw tk (has-front new ks x n)
  | inr fk ↦ rw fk (inr (replaced-has ks new start x h t z n))
]

-- what a step on a track leaves behind
pub record LeavesBack {I : Type 0} (r : Row I) (old new : List (Held I)) : Type 0 where
  pub can : CanGoBack r new
  pub restored : restored (held r) new ≡ old

pub opens-back : {I : Type 0} → (rows : List (Held I)) (start : ℕ) (r : Row I) (o : Held I) → Has (held r) rows → r.seg.start ≡ start → r.readings ≡ None
    → ((h : Held I) → Has h rows → h.row.seg.start ≡ start → h ≡ held r) → o.row.seg ≡ r.seg → (xs : List ℤ) → o.row.readings ≡ Some xs → LeavesBack r rows (replaced start (o ∷ []) rows)
opens-back rows start r o there s c alone e xs read =
    let t = closed-there start r s c in
    record {
      can = record { closed = c; by = inl (record { new = o; there = replaced-has rows (o ∷ []) start o (held r) t there (inl refl); same = e; readings = xs; opened = read }) };
      restored = back-replaced rows (o ∷ []) start r t s alone (λ hs. back-open (held r) o hs e);
    }

pub splits-back : {I : Type 0} → (rows : List (Held I)) (start half : ℕ) (r : Row I) (a b : Held I) → Has (held r) rows → r.seg.start ≡ start → r.readings ≡ None
    → ((h : Held I) → Has h rows → h.row.seg.start ≡ start → h ≡ held r) → a.row.seg.start ≡ start → 0 < half → a.row.seg.len ≡ 16 * half → b.row.seg.start ≡ a.row.seg.start + a.row.seg.len
    → 0 < b.row.seg.len → a.row.seg.len + b.row.seg.len ≡ r.seg.len → a.row.readings ≡ None → b.row.readings ≡ None → LeavesBack r rows (replaced start (a ∷ b ∷ []) rows)
splits-back rows start half r a b there s c alone sa some full next rest whole ca cb =
    let t = closed-there start r s c in
    record {
      can = record {
        closed = c;
        by = inr (record {
          left = a;
          right = b;
          left_there = replaced-has rows (a ∷ b ∷ []) start a (held r) t there (inl refl);
          right_there = replaced-has rows (a ∷ b ∷ []) start b (held r) t there (inr (inl refl));
          left_closed = ca;
          right_closed = cb;
          starts = sa ∙ sym s;
          half = half;
          some = some;
          full = full;
          next = next;
          rest = rest;
          whole = whole;
        });
      };
      restored = back-replaced rows (a ∷ b ∷ []) start r t s alone (λ hs. back-split (held r) a b hs (sa ∙ sym s) (λ q. omega arith));
    }

-- ---- on one of the tracks of a cut

pub back-at : {I : Type 0} → (xs : List (Track (Held I))) (k : ℕ) (r : Row I) (t : Track (Held I)) → k < length xs → CanGoBack r t.rows → IsSoundTrack (with_rows row_in (record t { rows = restored (held r) t.rows })) → CanGoBackAt k r (set xs k t)
back-at [] k r t lt can sound = absurd (omega arith)
back-at (x ∷ xs) zero r t lt can sound = (can, sound)
back-at (x ∷ xs) (suc k) r t lt can sound = back-at xs k r t (omega arith) can sound

pub restored-at : {I : Type 0} → (xs : List (Track (Held I))) (k : ℕ) (h : Held I) (t d : Track (Held I)) → k < length xs → t ≡ record (get_or xs k d) { rows = t.rows } → restored h t.rows ≡ (get_or xs k d).rows
    → restored_at k h (set xs k t) ≡ xs
restored-at [] k h t d lt same e = absurd (omega arith)
restored-at (x ∷ xs) zero h t d lt same e = ap (λ (u : Track (Held _)). (let v : Track (Held _) = record u { rows = restored h t.rows } in v) ∷ xs) same ∙ ap (λ rs. (let v : Track (Held _) = record x { rows = rs } in v) ∷ xs) e
restored-at (x ∷ xs) (suc k) h t d lt same e = ap (λ ys. x ∷ ys) (restored-at xs k h t d (omega arith) same e)

pub can-at : {I : Type 0} → (xs : List (Track (Held I))) (k : ℕ) (r : Row I) → CanGoBackAt k r xs → (k < length xs) × ((d : Track (Held I)) → CanGoBack r (get_or xs k d).rows × IsSoundTrack (with_rows row_in (record (get_or xs k d) { rows = restored (held r) (get_or xs k d).rows })))
can-at [] k r can = absurd can
can-at (x ∷ xs) zero r can = (omega arith, λ d. can)
can-at (x ∷ xs) (suc k) r can = let i = can-at xs k r can in let lt = i.0 in (omega arith, i.1)

pub set-restored : {I : Type 0} → (xs : List (Track (Held I))) (k : ℕ) (h : Held I) (d t : Track (Held I)) → k < length xs → t ≡ record (get_or xs k d) { rows = restored h (get_or xs k d).rows } → set xs k t ≡ restored_at k h xs
set-restored [] k h d t lt e = absurd (omega arith)
set-restored (x ∷ xs) zero h d t lt e = ap (λ u. u ∷ xs) e
set-restored (x ∷ xs) (suc k) h d t lt e = ap (λ ys. x ∷ ys) (set-restored xs k h d t (omega arith) e)

-- a track whose rows go back is the old one
pub whole-again : {I : Type 0} → (old new : Track (Held I)) (rs : List (Held I)) → new ≡ record old { rows = new.rows } → rs ≡ old.rows → (let t : Track (Held I) = record new { rows = rs } in t) ≡ old
whole-again {I} old new rs same e = ap₂ (λ (u : Track (Held I)) (hs : List (Held I)). let t : Track (Held I) = record u { rows = hs } in t) same e

-- A cut of which one row gave way: names, ranges and places stay, and what is new lies within the row.
use Rattle.std.proofs.Common.{◌≡◌, ℕ, suc, ◌+◌, ◌*◌, ◌<◌, ◌≤◌, Bool, true, false, cond, inl, inr, ℤ, pos, negsuc, Option, Some, None, List, [], ◌∷◌, ◌++◌, length, map, refl, sym, ap, ap₂, subst, ◌∙◌, arith, append_assoc}
use Rattle.std.specs.Prelude.{◌&&◌, nat_le, nat_lt}
use Rattle.std.proofs.lemmas.Bool.{cases_eq, cases_Bool}
use Rattle.std.proofs.lemmas.Bool.Decides.{nat_tests}
use Rattle.semantics.specs.Admission.{SumTerm}
use Rattle.semantics.specs.Names.{same_name}
use Rattle.semantics.specs.Term.{base, bare, constant, minus, plus, shift, times, Term}
use Rattle.semantics.specs.Value.{range_or}
use Rattle.segment.specs.declared.segments.Seg.{Seg}
use Rattle.bounds.specs.Segments.{covers, seg_at, OfEachName}
use Rattle.error_prop.specs.Entries.{end_from}
use Rattle.error_prop.specs.Places.{end_of_name}
use Rattle.error_prop.proofs.QueryOverLaws.{same_domain}
use Rattle.descent.specs.Changed.{GaveWay, HasChanged}
use Rattle.descent.specs.Choice.{Has}
use Rattle.descent.specs.Held.{head_of}
use Rattle.descent.specs.KeptSums.{band_of, place_of}
use Rattle.descent.specs.Known.{AreApart}
use Rattle.descent.specs.Laid.{blocks}
use Rattle.descent.specs.Readers.{track_at}
use Rattle.descent.specs.Rows.{entries, segs_of_row, segs_of_rows, units, Cut, Row, Track}
use Rattle.descent.specs.Sound.{name_of, IsSound, IsSoundRow}
use Rattle.descent.specs.Sums.{range_of}
use Rattle.descent.proofs.Admits.{has-left, has-right}
use Rattle.descent.proofs.Framing.{end_from-append}
use Rattle.descent.proofs.TileLaws.{sum_below-same}
use Rattle.descent.proofs.TrackLaws.{all-has, sound-at}

-- ---- heads

pub same-heads : (i : ℕ) (old : Row) (before now : Cut) → HasChanged i old before now → (j : ℕ)
    → head_of (track_at now j) ≡ head_of (track_at before j)
same-heads i old before now h j = elim (cases_eq j i) [
  | inl e ↦ rw e h.head
  | inr ne ↦ ap head_of (h.others j ne)
]

pub same-name : (i : ℕ) (old : Row) (before now : Cut) → HasChanged i old before now → (j : ℕ)
    → (track_at now j).name ≡ (track_at before j).name
same-name i old before now h j = ap (λ (t : Track Row). t.name) (same-heads i old before now h j)

pub same-len : (i : ℕ) (old : Row) (before now : Cut) → HasChanged i old before now → (j : ℕ)
    → (track_at now j).len ≡ (track_at before j).len
same-len i old before now h j = ap (λ (t : Track Row). t.len) (same-heads i old before now h j)

names-from : (before now : Cut) → length before ≡ length now
    → ((j : ℕ) → (track_at now j).name ≡ (track_at before j).name) → map name_of before ≡ map name_of now
names-from [] [] e h = refl
names-from [] (t ∷ now) e h = absurd (omega arith)
names-from (b ∷ before) [] e h = absurd (omega arith)
names-from (b ∷ before) (t ∷ now) e h =
    ap₂ (λ (n : List ℕ) (ns : List (List ℕ)). n ∷ ns) (sym (h 0)) (names-from before now (omega arith) (λ j. h (suc j)))

pub apart-before : (i : ℕ) (old : Row) (before now : Cut) → HasChanged i old before now → IsSound now
    → AreApart (map name_of before)
apart-before i old before now h sound =
    subst AreApart (sym (names-from before now h.count (same-name i old before now h))) sound.apart

-- ---- places

pub same-band : (i : ℕ) (old : Row) (before now : Cut) → HasChanged i old before now → (n : ℕ)
    → band_of now n ≡ band_of before n
same-band i old before now h n =
    sum_below-same (λ j. blocks (track_at now j).len) (λ j. blocks (track_at before j).len) n
    (λ j lt. ap blocks (same-len i old before now h j))

pub same-place : (i : ℕ) (old : Row) (before now : Cut) (j : ℕ) (row : Row) → HasChanged i old before now
    → place_of now j row ≡ place_of before j row
same-place i old before now j row h = let e = same-band i old before now h j in omega arith

-- ---- the rows

-- a row of one of three parts
pub has-parts : {P : Type 0} → (row : Row) (xs ys zs : List Row) → (Has row xs → P) → (Has row ys → P)
    → (Has row zs → P)
    → Has row (xs ++ ys ++ zs) → P
has-parts {P} row xs ys zs f g k h = first xs f h
  where
    last : (us : List Row) → (Has row us → P) → Has row (us ++ zs) → P
    last [] m q = k q
    last (u ∷ us) m (inl e) = m (inl e)
    last (u ∷ us) m (inr q) = last us (λ p. m (inr p)) q

    first : (us : List Row) → (Has row us → P) → Has row (us ++ ys ++ zs) → P
    first [] m q = last ys g q
    first (u ∷ us) m (inl e) = m (inl e)
    first (u ∷ us) m (inr q) = first us (λ p. m (inr p)) q

pub in-middle : (row : Row) (xs ys zs : List Row) → Has row ys → Has row (xs ++ ys ++ zs)
in-middle row xs ys zs h = has-left row (xs ++ ys) zs (has-right row xs ys h)

pub in-front : (row : Row) (xs ys zs : List Row) → Has row xs → Has row (xs ++ ys ++ zs)
in-front row xs ys zs h = has-left row (xs ++ ys) zs (has-left row xs ys h)

pub in-back : (row : Row) (xs ys zs : List Row) → Has row zs → Has row (xs ++ ys ++ zs)
in-back row xs ys zs h = has-right row (xs ++ ys) zs h

-- the new rows are sound
pub new-sound : (i : ℕ) (old : Row) (before now : Cut) → (h : HasChanged i old before now) → IsSound now → (row : Row)
    → Has row h.new → IsSoundRow (track_at now i).greatest row
new-sound i old before now h sound row there =
    all-has (IsSoundRow (track_at now i).greatest) (track_at now i).rows row (sound-at now i sound.tracks h.within).rows
    (rw h.is (in-middle row h.front h.new h.back there))

-- ---- what is new lies within the row that gave way

pub record LiesIn (g o : Seg) : Type 0 where
  pub low : o.start ≤ g.start
  pub high : g.start + g.len ≤ o.start + o.len

covered-both : (s e n : ℕ) → (nat_le s n && nat_lt n e) ≡ true → (s ≤ n) × (n < e)
covered-both s e n t = (grind (arith, nat_tests), grind (arith, nat_tests))

covered-in : (s e n : ℕ) → s ≤ n → n < e → (nat_le s n && nat_lt n e) ≡ true
covered-in s e n a b = grind (arith, nat_tests)

-- where a segment does not cover a position, none that lies in it does
pub not-in : (g o : Seg) (z : ℤ) → LiesIn g o → covers o z ≡ false → covers g z ≡ false
not-in g o (negsuc n) l c = refl
not-in g o (pos n) l c = elim (cases_Bool (covers g (pos n))) [
  | inr f ↦ f
  | inl t ↦
      let b = covered-both g.start (g.start + g.len) n t in
      let low = l.low in
      let high = l.high in
      let s = b.0 in
      let e = b.1 in
      let bad : true ≡ false = sym (covered-in o.start (o.start + o.len) n (omega arith) (omega arith)) ∙ c in
      cc
]

units-in : (start : ℕ) (xs : List ℤ) (g : Seg) → Has g (units start xs)
    → (start ≤ g.start) × (g.start + g.len ≤ start + length xs)
units-in start [] g h = absurd h
units-in start (x ∷ xs) g (inl e) =
    let s : g.start ≡ start = ap (λ (q : Seg). q.start) e in
    let n : g.len ≡ 1 = ap (λ (q : Seg). q.len) e in
    (omega arith, omega arith)
units-in start (x ∷ xs) g (inr h) =
    let i = units-in (start + 1) xs g h in
    let a = i.0 in
    let b = i.1 in
    (omega arith, omega arith)

pub itself : (g o : Seg) → g ≡ o → LiesIn g o
itself g o e = record { low = rw e (omega arith); high = rw e (omega arith) }

-- the segments of a row lie in its segment
pub row-segs-in : (d : ℕ) (row : Row) (g : Seg) → IsSoundRow d row → Has g (segs_of_row row) → LiesIn g row.seg
row-segs-in d row g s h = by row.readings refl
  where
    by : (o : Option (List ℤ)) → row.readings ≡ o → LiesIn g row.seg
    by None e =
        let k : Has g (row.seg ∷ []) = rw e at h in
        elim k [ inl q ↦ itself g row.seg q | inr bad ↦ absurd bad ]
    by (Some xs) e =
        let k : Has g (units row.seg.start xs) = rw e at h in
        let u = units-in row.seg.start xs g k in
        let long = (s.read xs e).long in
        let a = u.0 in
        let b = u.1 in
        record { low = omega arith; high = omega arith }

-- the new rows' segments lie in that of the row
pub new-in : (old : Row) (new : List Row) → GaveWay old new → (row : Row) → Has row new → LiesIn row.seg old.seg
new-in old [] gave row h = absurd gave
new-in old (r ∷ []) gave row (inl e) = itself row.seg old.seg (ap (λ (q : Row). q.seg) e ∙ gave.seg)
new-in old (r ∷ []) gave row (inr h) = absurd h
new-in old (a ∷ b ∷ []) gave row (inl e) =
    let s : row.seg ≡ a.seg = ap (λ (q : Row). q.seg) e in
    let starts = gave.starts in
    let whole = gave.whole in
    record { low = rw s (omega arith); high = rw s (omega arith) }
new-in old (a ∷ b ∷ []) gave row (inr (inl e)) =
    let s : row.seg ≡ b.seg = ap (λ (q : Row). q.seg) e in
    let starts = gave.starts in
    let next = gave.next in
    let whole = gave.whole in
    record { low = rw s (omega arith); high = rw s (omega arith) }
new-in old (a ∷ b ∷ []) gave row (inr (inr h)) = absurd h
new-in old (a ∷ b ∷ c ∷ rows) gave row h = absurd gave

-- the first new row begins where the row did
pub record IsFirstNew (old : Row) (new : List Row) : Type 0 where
  pub row : Row
  pub there : Has row new
  pub start : row.seg.start ≡ old.seg.start

pub first-new : (old : Row) (new : List Row) → GaveWay old new → IsFirstNew old new
first-new old [] gave = absurd gave
first-new old (r ∷ []) gave =
    record { row = r; there = inl refl; start = ap (λ (q : Seg). q.start) gave.seg }
first-new old (a ∷ b ∷ []) gave = record { row = a; there = inl refl; start = gave.starts }
first-new old (a ∷ b ∷ c ∷ rows) gave = absurd gave

-- the new rows begin at borders of blocks, as the row does
pub new-borders : (old : Row) (new : List Row) (b : ℕ) → GaveWay old new → old.seg.start ≡ 16 * b → (row : Row)
    → Has row new → (c : ℕ) × (row.seg.start ≡ 16 * c)
new-borders old [] b gave at row h = absurd gave
new-borders old (r ∷ []) b gave at row (inl e) =
    (b, ap (λ (q : Row). q.seg.start) e ∙ ap (λ (q : Seg). q.start) gave.seg ∙ at)
new-borders old (r ∷ []) b gave at row (inr h) = absurd h
new-borders old (x ∷ y ∷ []) b gave at row (inl e) = (b, ap (λ (q : Row). q.seg.start) e ∙ gave.starts ∙ at)
new-borders old (x ∷ y ∷ []) b gave at row (inr (inl e)) =
    let s : row.seg.start ≡ y.seg.start = ap (λ (q : Row). q.seg.start) e in
    let starts = gave.starts in
    let full = gave.full in
    let next = gave.next in
    (b + gave.half, omega arith)
new-borders old (x ∷ y ∷ []) b gave at row (inr (inr h)) = absurd h
new-borders old (x ∷ y ∷ z ∷ rows) b gave at row h = absurd gave

-- ---- segments

pub segs-append : (us vs : List Row) → segs_of_rows (us ++ vs) ≡ segs_of_rows us ++ segs_of_rows vs
segs-append [] vs = refl
segs-append (u ∷ us) vs =
    ap (λ gs. segs_of_row u ++ gs) (segs-append us vs)
    ∙ sym (append_assoc (segs_of_row u) (segs_of_rows us) (segs_of_rows vs))

-- a segment of rows is one of a row
pub segs-have : {P : Type 0} → (rows : List Row) (g : Seg) → ((row : Row) → Has row rows → Has g (segs_of_row row) → P)
    → Has g (segs_of_rows rows) → P
segs-have {P} [] g f h = absurd h
segs-have {P} (row ∷ rows) g f h =
    split (segs_of_row row) (f row (inl refl)) (segs-have rows g (λ r m q. f r (inr m) q)) h
  where
    split : (gs : List Seg) → (Has g gs → P) → (Has g (segs_of_rows rows) → P) → Has g (gs ++ segs_of_rows rows) → P
    split [] m n q = n q
    split (x ∷ gs) m n (inl e) = m (inl e)
    split (x ∷ gs) m n (inr q) = split gs (λ p. m (inr p)) n q

seg-behind : (gs hs : List Seg) (z : ℤ) → ((g : Seg) → Has g gs → covers g z ≡ false)
    → seg_at (gs ++ hs) z ≡ seg_at hs z
seg-behind [] hs z f = refl
seg-behind (g ∷ gs) hs z f =
    ap (λ b. cond b g (seg_at (gs ++ hs) z)) (f g (inl refl)) ∙ seg-behind gs hs z (λ x m. f x (inr m))

seg-front : (gs hs ks : List Seg) (z : ℤ) → seg_at hs z ≡ seg_at ks z → seg_at (gs ++ hs) z ≡ seg_at (gs ++ ks) z
seg-front [] hs ks z e = e
seg-front (g ∷ gs) hs ks z e = ap (λ s. cond (covers g z) g s) (seg-front gs hs ks z e)

segs-parts : (xs ys zs : List Row)
    → segs_of_rows (xs ++ ys ++ zs) ≡ segs_of_rows xs ++ (segs_of_rows ys ++ segs_of_rows zs)
segs-parts xs ys zs =
    segs-append (xs ++ ys) zs ∙ ap (λ gs. gs ++ segs_of_rows zs) (segs-append xs ys)
    ∙ append_assoc (segs_of_rows xs) (segs_of_rows ys) (segs_of_rows zs)

-- where neither covers a position, it makes no difference which rows stand there
pub same-seg : (xs ys us zs : List Row) (z : ℤ) → ((g : Seg) → Has g (segs_of_rows ys) → covers g z ≡ false)
    → ((g : Seg) → Has g (segs_of_rows us) → covers g z ≡ false)
    → seg_at (segs_of_rows (xs ++ ys ++ zs)) z ≡ seg_at (segs_of_rows (xs ++ us ++ zs)) z
same-seg xs ys us zs z f k =
    ap (λ gs. seg_at gs z) (segs-parts xs ys zs)
    ∙ seg-front (segs_of_rows xs) (segs_of_rows ys ++ segs_of_rows zs) (segs_of_rows us ++ segs_of_rows zs) z
    (seg-behind (segs_of_rows ys) (segs_of_rows zs) z f ∙ sym (seg-behind (segs_of_rows us) (segs_of_rows zs) z k))
    ∙ sym (ap (λ gs. seg_at gs z) (segs-parts xs us zs))

-- ---- lengths and ranges

units-end : (start : ℕ) (xs : List ℤ) → end_from start (units start xs) ≡ start + length xs
units-end start [] = omega arith
units-end start (x ∷ xs) = units-end (start + 1) xs ∙ omega arith

end-more : (from by : ℕ) (gs : List Seg) → end_from (from + by) gs ≡ end_from from gs + by
end-more from by [] = refl
end-more from by (g ∷ gs) =
    let e : from + by + g.len ≡ from + g.len + by = omega arith in
    ap (λ k. end_from k gs) e ∙ end-more (from + g.len) by gs

-- how many positions a row's segments have
row-positions : (d from : ℕ) (row : Row) → IsSoundRow d row → end_from from (segs_of_row row) ≡ from + row.seg.len
row-positions d from row s = by row.readings refl
  where
    by : (o : Option (List ℤ)) → row.readings ≡ o → end_from from (segs_of_row row) ≡ from + row.seg.len
    by None e = rw e refl
    by (Some xs) e =
        let long = (s.read xs e).long in
        let u : end_from 0 (units row.seg.start xs) ≡ length xs =
        let m = end-more 0 row.seg.start (units row.seg.start xs) in
        let z : 0 + row.seg.start ≡ row.seg.start = omega arith in
        let n = units-end row.seg.start xs in
        let k : end_from (0 + row.seg.start) (units row.seg.start xs) ≡ row.seg.start + length xs =
        ap (λ q. end_from q (units row.seg.start xs)) z ∙ n in
        omega arith in
        let v : end_from from (units row.seg.start xs) ≡ length xs + from =
        let z : from ≡ 0 + from = omega arith in
        ap (λ q. end_from q (units row.seg.start xs)) z ∙ end-more 0 from (units row.seg.start xs)
        ∙ ap (λ q. q + from) u in
        rw e (v ∙ omega arith)

new-positions : (d from : ℕ) (old : Row) (new : List Row) → GaveWay old new
    → ((row : Row) → Has row new → IsSoundRow d row)
    → end_from from (segs_of_rows new) ≡ from + old.seg.len
new-positions d from old [] gave s = absurd gave
new-positions d from old (r ∷ []) gave s =
    end_from-append from (segs_of_row r) [] ∙ row-positions d from r (s r (inl refl))
    ∙ ap (λ (g : Seg). from + g.len) gave.seg
new-positions d from old (a ∷ b ∷ []) gave s =
    let whole = gave.whole in
    end_from-append from (segs_of_row a) (segs_of_rows (b ∷ []))
    ∙ ap (λ k. end_from k (segs_of_rows (b ∷ []))) (row-positions d from a (s a (inl refl)))
    ∙ end_from-append (from + a.seg.len) (segs_of_row b) []
    ∙ row-positions d (from + a.seg.len) b (s b (inr (inl refl)))
    ∙ omega arith
new-positions d from old (a ∷ b ∷ c ∷ rows) gave s = absurd gave

parts-end : (from : ℕ) (xs ys zs : List Row) → end_from from (segs_of_rows (xs ++ ys ++ zs))
    ≡ end_from (end_from (end_from from (segs_of_rows xs)) (segs_of_rows ys)) (segs_of_rows zs)
parts-end from xs ys zs =
    ap (end_from from) (segs-parts xs ys zs)
    ∙ end_from-append from (segs_of_rows xs) (segs_of_rows ys ++ segs_of_rows zs)
    ∙ end_from-append (end_from from (segs_of_rows xs)) (segs_of_rows ys) (segs_of_rows zs)

track-end : (i : ℕ) (old : Row) (before now : Cut) → HasChanged i old before now → IsSound now → (j : ℕ)
    → end_from 0 (segs_of_rows (track_at now j).rows) ≡ end_from 0 (segs_of_rows (track_at before j).rows)
track-end i old before now h sound j = elim (cases_eq j i) [
  | inr ne ↦ ap (λ (t : Track Row). end_from 0 (segs_of_rows t.rows)) (h.others j ne)
  | inl e ↦
      let front = end_from 0 (segs_of_rows h.front) in
      let d = (track_at now i).greatest in
      let new = new-positions d front old h.new h.gave (new-sound i old before now h sound) in
      let old-row : end_from front (segs_of_row old) ≡ front + old.seg.len = rw h.closed refl in
      let was : end_from front (segs_of_rows (old ∷ [])) ≡ front + old.seg.len =
      end_from-append front (segs_of_row old) [] ∙ old-row in
      let after : end_from 0 (segs_of_rows (h.front ++ h.new ++ h.back))
      ≡ end_from 0 (segs_of_rows (h.front ++ (old ∷ []) ++ h.back)) =
      parts-end 0 h.front h.new h.back ∙ ap (λ k. end_from k (segs_of_rows h.back)) (new ∙ sym was)
      ∙ sym (parts-end 0 h.front (old ∷ []) h.back) in
      let whole : end_from 0 (segs_of_rows (track_at now i).rows) ≡ end_from 0 (segs_of_rows (track_at before i).rows) =
      ap (λ rows. end_from 0 (segs_of_rows rows)) h.is ∙ after
      ∙ ap (λ rows. end_from 0 (segs_of_rows rows)) (append_assoc h.front (old ∷ []) h.back ∙ sym h.was) in
      rw e whole
]

ends-from : (before now : Cut) (name : List ℕ) → length before ≡ length now
    → ((j : ℕ) → (track_at now j).name ≡ (track_at before j).name)
    → ((j : ℕ) → end_from 0 (segs_of_rows (track_at now j).rows) ≡ end_from 0 (segs_of_rows (track_at before j).rows))
    → end_of_name (entries now) name ≡ end_of_name (entries before) name
ends-from [] [] name e names ends = refl
ends-from [] (t ∷ now) name e names ends = absurd (omega arith)
ends-from (b ∷ before) [] name e names ends = absurd (omega arith)
ends-from (b ∷ before) (t ∷ now) name e names ends =
    let rest = ends-from before now name (omega arith) (λ j. names (suc j)) (λ j. ends (suc j)) in
    let n : t.name ≡ b.name = names 0 in
    by (same_name b.name name) refl n rest
  where
    by : (c : Bool) → same_name b.name name ≡ c → t.name ≡ b.name
        → end_of_name (entries now) name ≡ end_of_name (entries before) name
        → end_of_name (entries (t ∷ now)) name ≡ end_of_name (entries (b ∷ before)) name
    by true c n rest = rw (n, c) (ends 0)
    by false c n rest = rw (n, c) rest

each-of : (P : List ℕ → Type 0) (t : Term) → ((name : List ℕ) → P name) → OfEachName P t
each-of P (base name) f = f name
each-of P (constant v a b) f = tt
each-of P (bare v) f = tt
each-of P (plus u v) f = (each-of P u f, each-of P v f)
each-of P (minus u v) f = (each-of P u f, each-of P v f)
each-of P (times u v) f = (each-of P u f, each-of P v f)
each-of P (shift u k) f = each-of P u f

pub same-range : (i : ℕ) (old : Row) (before now : Cut) (s : SumTerm) → HasChanged i old before now → IsSound now
    → range_of now s ≡ range_of before s
same-range i old before now s h sound =
    ap (range_or s.range) (same_domain (end_of_name (entries now)) (end_of_name (entries before)) s.series
    (each-of (λ name. end_of_name (entries now) name ≡ end_of_name (entries before) name) s.series
    (λ name. ends-from before now name h.count (same-name i old before now h)
    (track-end i old before now h sound))))

-- The row that stands at a position, and what a cut gives there.
use Rattle.std.proofs.Common.{◌≡◌, ℕ, zero, suc, ◌+◌, ◌-◌, ◌*◌, ◌/◌, ◌<◌, ◌≤◌, cond, Bool, true, false, inl, inr, ◌⊎◌, ℤ, pos, nat_le, nat_lt, ◌&&◌, List, [], ◌∷◌, ◌++◌, length, map, take, arith, refl, sym, ap, subst, ◌∙◌}
use Rattle.std.specs.Prelude.{Some, None}
use Rattle.std.specs.List.{All}
use Rattle.std.proofs.lemmas.Bool.{cases_lt}
use Rattle.std.proofs.lemmas.Bool.Decides.{nat_tests}
use Rattle.std.proofs.lemmas.Int.{ints}
use Rattle.std.proofs.lemmas.List.Elements.{All-head, All-tail}
use Rattle.semantics.specs.Readings.{reading}
use Rattle.segment.specs.declared.segments.Seg.{Seg}
use Rattle.segment.specs.Measure.{unit_seg}
use Rattle.bounds.specs.Segments.{covers, no_seg, seg_at, TouchFrom}
use Rattle.bounds.proofs.ReadLaws.{covered_is, covers_from}
use Rattle.descent.specs.declared.tables.Row.{Row as TableRow}
use Rattle.descent.specs.Choice.{Has}
use Rattle.descent.specs.Held.{Held, row_in}
use Rattle.descent.specs.Laid.{held}
use Rattle.descent.specs.Rows.{Row, units, segs_of_row, segs_of_rows}
use Rattle.descent.specs.Sound.{IsSoundRow, seg_of}
use Rattle.descent.proofs.SoundLaws.{row-touch}

pub has-row : {I : Type 0} → (hs : List (Held I)) (h : Held I) → Has h hs → Has h.row (map row_in hs)
has-row [] h t = absurd t
has-row (k ∷ hs) h (inl e) = inl (ap (λ (q : Held _). q.row) e)
has-row (k ∷ hs) h (inr t) = inr (has-row hs h t)

pub touch-order : (from to : ℕ) (gs : List Seg) → TouchFrom from gs to → from ≤ to
touch-order from to [] t = let e : from ≡ to = t in omega arith
touch-order from to (g ∷ gs) t = let i = touch-order (from + g.len) to gs t.1 in omega arith

-- a row lies between the ends of all
pub rows-within : (from to : ℕ) (rows : List Row) (row : Row) → TouchFrom from (map seg_of rows) to → Has row rows → (from ≤ row.seg.start) × (row.seg.start + row.seg.len ≤ to)
rows-within from to [] row t h = absurd h
rows-within from to (x ∷ rows) row t (inl e) =
    let i = touch-order (from + x.seg.len) to (map seg_of rows) t.1 in
    let s = t.0 in
    subst (λ (r : Row). (from ≤ r.seg.start) × (r.seg.start + r.seg.len ≤ to)) (sym e) (omega arith, omega arith)
rows-within from to (x ∷ rows) row t (inr h) = let i = rows-within (from + x.seg.len) to rows row t.1 h in let low = i.0 in (omega arith, i.1)

-- a row ends where another one begins, or where all end
pub end-border : (from to : ℕ) (rows : List Row) (row : Row) → TouchFrom from (map seg_of rows) to → ((r : Row) → Has r rows → (k : ℕ) × (r.seg.start ≡ 16 * k)) → Has row rows
    → (row.seg.start + row.seg.len ≡ to) ⊎ ((k : ℕ) × (row.seg.start + row.seg.len ≡ 16 * k))
end-border from to [] row t b h = absurd h
end-border from to (x ∷ []) row t b (inl e) =
    let s = t.0 in
    let z = t.1 in
    let n : row.seg.start ≡ x.seg.start = ap (λ (r : Row). r.seg.start) e in
    let m : row.seg.len ≡ x.seg.len = ap (λ (r : Row). r.seg.len) e in
    inl (omega arith)
end-border from to (x ∷ []) row t b (inr h) = absurd h
end-border from to (x ∷ y ∷ rows) row t b (inl e) =
    let s = t.0 in
    let z = t.1.0 in
    let n : row.seg.start ≡ x.seg.start = ap (λ (r : Row). r.seg.start) e in
    let m : row.seg.len ≡ x.seg.len = ap (λ (r : Row). r.seg.len) e in
    let k = b y (inr (inl refl)) in
    let q = k.1 in
    inr (k.0, omega arith)
end-border from to (x ∷ y ∷ rows) row t b (inr h) = end-border (from + x.seg.len) to (y ∷ rows) row t.1 (λ r m. b r (inr m)) h

-- ---- rows cover their own positions alone

not-covered : (s n p : ℕ) → (p < s) ⊎ (s + n ≤ p) → (nat_le s p && nat_lt p (s + n)) ≡ false
not-covered s n p (inl h) = grind (arith, nat_tests)
not-covered s n p (inr h) = grind (arith, nat_tests)

pub not-covers : (g : Seg) (p : ℕ) → (p < g.start) ⊎ (g.start + g.len ≤ p) → covers g (pos p) ≡ false
not-covers g p h = not-covered g.start g.len p h

pub record IsWithin (g : Seg) (p : ℕ) : Type 0 where
  pub low : g.start ≤ p
  pub high : p < g.start + g.len

pub within-of : (g : Seg) (p : ℕ) → covers g (pos p) ≡ true → IsWithin g p
within-of g p h = let c = covered_is g (pos p) h in record { low = omega (arith, ints, c.low); high = omega (arith, ints, c.high) }

pub covers-of : (g : Seg) (p : ℕ) → g.start ≤ p → p < g.start + g.len → covers g (pos p) ≡ true
covers-of g p low high = covers_from g (pos p) (omega (arith, ints)) (omega (arith, ints))

-- where one row covers two positions, each row covers both or neither
pub stays-in : (from to : ℕ) (rows : List Row) (row other : Row) (p q : ℕ) → TouchFrom from (map seg_of rows) to → Has row rows → Has other rows → IsWithin row.seg p → IsWithin row.seg q
    → covers other.seg (pos q) ≡ covers other.seg (pos p)
stays-in from to [] row other p q t h k wp wq = absurd h
stays-in from to (x ∷ rows) row other p q t (inl e) (inl f) wp wq =
    let g : other.seg ≡ row.seg = ap (λ (r : Row). r.seg) (f ∙ sym e) in
    ap (λ (s : Seg). covers s (pos q)) g ∙ covers-of row.seg q wq.low wq.high ∙ sym (ap (λ (s : Seg). covers s (pos p)) g ∙ covers-of row.seg p wp.low wp.high)
stays-in from to (x ∷ rows) row other p q t (inl e) (inr k) wp wq =
    let s = t.0 in
    let n : row.seg.start ≡ x.seg.start = ap (λ (r : Row). r.seg.start) e in
    let m : row.seg.len ≡ x.seg.len = ap (λ (r : Row). r.seg.len) e in
    let i = rows-within (from + x.seg.len) to rows other t.1 k in
    let low = i.0 in
    let hp = wp.high in
    let hq = wq.high in
    not-covers other.seg q (inl (omega arith)) ∙ sym (not-covers other.seg p (inl (omega arith)))
stays-in from to (x ∷ rows) row other p q t (inr h) (inl f) wp wq =
    let s = t.0 in
    let n : other.seg.start ≡ x.seg.start = ap (λ (r : Row). r.seg.start) f in
    let m : other.seg.len ≡ x.seg.len = ap (λ (r : Row). r.seg.len) f in
    let i = rows-within (from + x.seg.len) to rows row t.1 h in
    let low = i.0 in
    let lp = wp.low in
    let lq = wq.low in
    not-covers other.seg q (inr (omega arith)) ∙ sym (not-covers other.seg p (inr (omega arith)))
stays-in from to (x ∷ rows) row other p q t (inr h) (inr k) wp wq = stays-in (from + x.seg.len) to rows row other p q t.1 h k wp wq

-- ---- the segment at a position

seg_at-front : (gs hs : List Seg) (a b p : ℕ) → TouchFrom a gs b → a ≤ p → p < b → seg_at (gs ++ hs) (pos p) ≡ seg_at gs (pos p)
seg_at-front [] hs a b p t low high = let e : a ≡ b = t in absurd (omega arith)
seg_at-front (g ∷ gs) hs a b p t low high = elim (cases_lt p (a + g.len)) [
  | inl lt ↦
      let s = t.0 in
      let c = covers-of g p (omega arith) (omega arith) in
      ap (λ (k : Bool). cond k g (seg_at (gs ++ hs) (pos p))) c ∙ sym (ap (λ (k : Bool). cond k g (seg_at gs (pos p))) c)
  | inr ge ↦
      let s = t.0 in
      let c = not-covers g p (inr (omega arith)) in
      ap (λ (k : Bool). cond k g (seg_at (gs ++ hs) (pos p))) c ∙ seg_at-front gs hs (a + g.len) b p t.1 ge high ∙ sym (ap (λ (k : Bool). cond k g (seg_at gs (pos p))) c)
]

seg_at-behind : (gs hs : List Seg) (a b p : ℕ) → TouchFrom a gs b → b ≤ p → seg_at (gs ++ hs) (pos p) ≡ seg_at hs (pos p)
seg_at-behind [] hs a b p t le = refl
seg_at-behind (g ∷ gs) hs a b p t le =
    let s = t.0 in
    let o = touch-order (a + g.len) b gs t.1 in
    let c = not-covers g p (inr (omega arith)) in
    ap (λ (k : Bool). cond k g (seg_at (gs ++ hs) (pos p))) c ∙ seg_at-behind gs hs (a + g.len) b p t.1 le

-- it is that of the row there
pub seg-of-rows : (d from to p : ℕ) (rows : List Row) (row : Row) → All (IsSoundRow d) rows → TouchFrom from (map seg_of rows) to → Has row rows → IsWithin row.seg p → seg_at (segs_of_rows rows) (pos p) ≡ seg_at (segs_of_row row) (pos p)
seg-of-rows d from to p [] row all t h w = absurd h
seg-of-rows d from to p (x ∷ rows) row all t (inl e) w =
    let s = t.0 in
    let low = w.low in
    let high = w.high in
    let n : row.seg.start ≡ x.seg.start = ap (λ (r : Row). r.seg.start) e in
    let m : row.seg.len ≡ x.seg.len = ap (λ (r : Row). r.seg.len) e in
    let touch = row-touch d from x (All-head (IsSoundRow d) x rows all) t.0 in
    seg_at-front (segs_of_row x) (segs_of_rows rows) from (from + x.seg.len) p touch (omega arith) (omega arith) ∙ ap (λ (r : Row). seg_at (segs_of_row r) (pos p)) (sym e)
seg-of-rows d from to p (x ∷ rows) row all t (inr h) w =
    let i = rows-within (from + x.seg.len) to rows row t.1 h in
    let start = i.0 in
    let low = w.low in
    let touch = row-touch d from x (All-head (IsSoundRow d) x rows all) t.0 in
    seg_at-behind (segs_of_row x) (segs_of_rows rows) from (from + x.seg.len) p touch (omega arith)
    ∙ seg-of-rows d (from + x.seg.len) to p rows row (All-tail (IsSoundRow d) x rows all) t.1 h w

pub seg-closed : (row : Row) (p : ℕ) → row.readings ≡ None → IsWithin row.seg p → seg_at (segs_of_row row) (pos p) ≡ row.seg
seg-closed row p e w = rw e (ap (λ (k : Bool). cond k row.seg no_seg) (covers-of row.seg p w.low w.high))

units-at : (start i p : ℕ) (xs : List ℤ) (x : ℤ) → i < length xs → p ≡ start + i → x ≡ reading xs i → seg_at (units start xs) (pos p) ≡ unit_seg p x
units-at start i p [] x lt s e = absurd (omega arith)
units-at start zero p (y ∷ xs) x lt s e =
    let z : start ≡ p = omega arith in
    ap (λ (k : Bool). cond k (unit_seg start y) (seg_at (units (start + 1) xs) (pos p))) (covers-of (unit_seg start y) p (omega arith) (omega arith))
    ∙ ap (λ k. unit_seg k y) z ∙ ap (unit_seg p) (sym e)
units-at start (suc i) p (y ∷ xs) x lt s e =
    ap (λ (k : Bool). cond k (unit_seg start y) (seg_at (units (start + 1) xs) (pos p))) (not-covers (unit_seg start y) p (inr (omega arith)))
    ∙ units-at (start + 1) i p xs x (omega arith) (omega arith) e

pub seg-opened : (d p : ℕ) (row : Row) (xs : List ℤ) → IsSoundRow d row → row.readings ≡ Some xs → IsWithin row.seg p → seg_at (segs_of_row row) (pos p) ≡ unit_seg p (reading xs (p - row.seg.start))
seg-opened d p row xs s e w =
    let long = (s.read xs e).long in
    let low = w.low in
    let high = w.high in
    rw e (units-at row.seg.start (p - row.seg.start) p xs (reading xs (p - row.seg.start)) (omega arith) (omega arith) refl)

-- ---- rows of a table

pub held-closed : {I : Type 0} → (r : TableRow I) → r.readings ≡ None → (held r).row.readings ≡ None
held-closed r e = rw e refl

pub held-opened : {I : Type 0} → (r : TableRow I) (xs : List ℤ) → r.readings ≡ Some xs → (held r).row.readings ≡ Some (take r.seg.len xs)
held-opened r xs e = rw e refl

-- every row begins at a border of blocks
pub borders : {I : Type 0} → (hs : List (Held I)) → ((h : Held I) → Has h hs → h.row.seg.start ≡ 16 * (h.row.seg.start / 16)) → (row : Row) → Has row (map row_in hs) → (k : ℕ) × (row.seg.start ≡ 16 * k)
borders [] b row h = absurd h
borders (q ∷ hs) b row (inl e) = (row.seg.start / 16, (let s = b q (inl refl) in let n : row.seg.start ≡ q.row.seg.start = ap (λ (r : Row). r.seg.start) e in omega arith))
borders (q ∷ hs) b row (inr t) = borders hs (λ h m. b h (inr m)) row t

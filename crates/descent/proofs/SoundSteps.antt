-- Steps keep the rows of a series sound.
use Rattle.std.proofs.Common.{◌≡◌, ℕ, zero, suc, ◌+◌, ◌<◌, ◌≤◌, true, inl, inr, ℤ, pos, unsigned_abs, Option, Some, None, List, [], ◌∷◌, ◌++◌, length, map, take, refl, sym, ap, subst, ◌∙◌, arith, length-take-le}
use Rattle.std.specs.Prelude.{IfSome, ◌^◌, is_some}
use Rattle.std.specs.List.{All}
use Rattle.std.specs.Option.{option_map}
use Rattle.std.proofs.lemmas.Bool.{cases_Bool, cases_lt}
use Rattle.std.proofs.lemmas.List.Elements.{All-nil, All-cons, All-head, All-tail}
use Rattle.semantics.specs.Readings.{reading}
use Rattle.segment.specs.declared.segments.Seg.{Seg}
use Rattle.segment.specs.Measure.{IsSane}
use Rattle.bounds.specs.Segments.{TouchFrom}
use Rattle.descent.specs.Rows.{Track, units, segs_given, segs_of_row, with_rows}
use Rattle.descent.specs.Choice.{Has}
use Rattle.descent.specs.Held.{Held, row_in, is_closed_at}
use Rattle.descent.specs.declared.tables.Row.{Row as TableRow}
use Rattle.descent.specs.Laid.{held, replaced}
use Rattle.descent.specs.Sound.{AreSmall, IsSoundRow, seg_of, IsSoundTrack}
use Rattle.descent.proofs.Backs.{closed-start}
use Rattle.descent.proofs.Places.{AreRows, found-at}
use Rattle.descent.proofs.Steps.{All-replaced}

abbrev pub HoldSound : {I : Type 0} → ℕ → Held I → Type 0
HoldSound d h = IsSoundRow d h.row

each-held : {I : Type 0} → (d : ℕ) (hs : List (Held I)) → All (IsSoundRow d) (map row_in hs) → All (HoldSound d) hs
each-held d [] all = All-nil (HoldSound d)
each-held d (h ∷ hs) all = All-cons (HoldSound d) h hs (All-head (IsSoundRow d) h.row (map row_in hs) all) (each-held d hs (All-tail (IsSoundRow d) h.row (map row_in hs) all))

each-row : {I : Type 0} → (d : ℕ) (hs : List (Held I)) → All (HoldSound d) hs → All (IsSoundRow d) (map row_in hs)
each-row d [] all = All-nil (IsSoundRow d)
each-row d (h ∷ hs) all = All-cons (IsSoundRow d) h.row (map row_in hs) (All-head (HoldSound d) h hs all) (each-row d hs (All-tail (HoldSound d) h hs all))

-- new rows that span what an old one did
abbrev pub Span : {I : Type 0} → List (Held I) → Seg → Type 0
Span new g = (rest : List Seg) (to : ℕ) → TouchFrom (g.start + g.len) rest to → TouchFrom g.start (map seg_of (map row_in new) ++ rest) to

segs-append : {I : Type 0} → (xs ys : List (Held I)) → map seg_of (map row_in (xs ++ ys)) ≡ map seg_of (map row_in xs) ++ map seg_of (map row_in ys)
segs-append [] ys = refl
segs-append (x ∷ xs) ys = ap (λ gs. x.row.seg ∷ gs) (segs-append xs ys)

touch-replaced : {I : Type 0} → (start from to : ℕ) (new hs : List (Held I)) → ((h : Held I) → Has h hs → is_closed_at start h ≡ true → Span new h.row.seg)
    → TouchFrom from (map seg_of (map row_in hs)) to → TouchFrom from (map seg_of (map row_in (replaced start new hs))) to
touch-replaced start from to new [] span t = t
touch-replaced start from to new (h ∷ hs) span t = elim (cases_Bool (is_closed_at start h)) [
  | inl c ↦
      let rest = map seg_of (map row_in hs) in
      let tail : TouchFrom (h.row.seg.start + h.row.seg.len) rest to = subst (λ k. TouchFrom (k + h.row.seg.len) rest to) (sym t.0) t.1 in
      let whole = subst (λ k. TouchFrom k (map seg_of (map row_in new) ++ rest) to) t.0 (span h (inl refl) c rest to tail) in
      rw c (subst (λ gs. TouchFrom from gs to) (sym (segs-append new hs)) whole)
  | inr f ↦ rw f (t.0, touch-replaced start (from + h.row.seg.len) to new hs (λ k m. span k (inr m)) t.1)
]

pub sound-replaced : {I : Type 0} → (track : Track (Held I)) (start : ℕ) (new : List (Held I)) → IsSoundTrack (with_rows row_in track) → All (HoldSound track.greatest) new
    → ((h : Held I) → Has h track.rows → is_closed_at start h ≡ true → Span new h.row.seg) → IsSoundTrack (with_rows row_in (record track { rows = replaced start new track.rows }))
sound-replaced track start new s all span = record {
  few = s.few;
  rows = each-row track.greatest (replaced start new track.rows) (All-replaced (HoldSound track.greatest) start new track.rows all (each-held track.greatest track.rows s.rows));
  touch = touch-replaced start 0 track.len new track.rows span s.touch;
}

pub span-one : {I : Type 0} → (o : Held I) (g : Seg) → o.row.seg ≡ g → Span (o ∷ []) g
span-one o g e rest to t = (ap (λ (k : Seg). k.start) e, subst (λ (k : Seg). TouchFrom (g.start + k.len) rest to) (sym e) t)

pub span-two : {I : Type 0} → (a b : Held I) (g : Seg) → a.row.seg.start ≡ g.start → b.row.seg.start ≡ a.row.seg.start + a.row.seg.len → a.row.seg.len + b.row.seg.len ≡ g.len → Span (a ∷ b ∷ []) g
span-two a b g s next whole rest to t =
    let e : g.start + a.row.seg.len + b.row.seg.len ≡ g.start + g.len = omega arith in
    (s, (omega arith, subst (λ k. TouchFrom k rest to) (sym e) t))

-- a row of a sound track is sound, and lies in it
pub row-sound : {I : Type 0} → (d : ℕ) (hs : List (Held I)) (h : Held I) → All (IsSoundRow d) (map row_in hs) → Has h hs → IsSoundRow d h.row
row-sound d [] h all m = absurd m
row-sound d (k ∷ hs) h all (inl e) = subst (λ (q : Held _). IsSoundRow d q.row) (sym e) (All-head (IsSoundRow d) k.row (map row_in hs) all)
row-sound d (k ∷ hs) h all (inr m) = row-sound d hs h (All-tail (IsSoundRow d) k.row (map row_in hs) all) m

touch-to : (from to : ℕ) (gs : List Seg) → TouchFrom from gs to → from ≤ to
touch-to from to [] t = let e : from ≡ to = t in omega arith
touch-to from to (g ∷ gs) t = let i = touch-to (from + g.len) to gs t.1 in omega arith

touch-within : {I : Type 0} → (from to : ℕ) (hs : List (Held I)) (h : Held I) → TouchFrom from (map seg_of (map row_in hs)) to → Has h hs → h.row.seg.start + h.row.seg.len ≤ to
touch-within from to [] h t m = absurd m
touch-within from to (k ∷ hs) h t (inl e) =
    let i = touch-to (from + k.row.seg.len) to (map seg_of (map row_in hs)) t.1 in
    let s = t.0 in
    subst (λ (q : Held _). q.row.seg.start + q.row.seg.len ≤ to) (sym e) (omega arith)
touch-within from to (k ∷ hs) h t (inr m) = touch-within (from + k.row.seg.len) to hs h t.1 m

pub some-len : {I : Type 0} → (track : Track (Held I)) (h : Held I) → IsSoundTrack (with_rows row_in track) → Has h track.rows → 0 < track.len
some-len track h s m =
    let r = row-sound track.greatest track.rows h s.rows m in
    let w = touch-within 0 track.len track.rows h s.touch m in
    let p = r.some in
    omega arith

-- readings taken from an array
reading-take : (n i : ℕ) (xs : List ℤ) → i < n → reading (take n xs) i ≡ reading xs i
reading-take zero i xs lt = absurd (omega arith)
reading-take (suc n) i [] lt = refl
reading-take (suc n) zero (x ∷ xs) lt = refl
reading-take (suc n) (suc i) (x ∷ xs) lt = reading-take n i xs (omega arith)

reading-beyond : (i : ℕ) (xs : List ℤ) → length xs ≤ i → reading xs i ≡ pos 0
reading-beyond i [] le = refl
reading-beyond zero (x ∷ xs) le = absurd (omega arith)
reading-beyond (suc i) (x ∷ xs) le = reading-beyond i xs (omega arith)

pub are-small : (d n : ℕ) (xs : List ℤ) → n ≤ 16 → n ≤ length xs → ((i : ℕ) → i < n → unsigned_abs (reading xs i) ≤ d) → AreSmall d n (take n xs)
are-small d n xs few le small =
    let long : length (take n xs) ≡ n = length-take-le n xs le in
    record {
      few = few;
      long = long;
      small = λ i. elim (cases_lt i n) [
        | inl lt ↦ rw (reading-take n i xs lt) (small i lt)
        | inr ge ↦ rw (reading-beyond i (take n xs) (omega arith)) (omega arith)
      ];
    }

-- ---- the kinds of steps

pub opened-sound : {I : Type 0} → (track : Track (Held I)) (o before : Held I) → IsSoundTrack (with_rows row_in track) → Has before track.rows → o.row.seg ≡ before.row.seg
    → ((xs : List ℤ) → o.row.readings ≡ Some xs → AreSmall track.greatest o.row.seg.len xs)
    → ((h : Held I) → Has h track.rows → h.row.seg.start ≡ before.row.seg.start → h ≡ before)
    → IsSoundTrack (with_rows row_in (record track { rows = replaced o.row.seg.start (o ∷ []) track.rows }))
opened-sound track o before s there same read alone =
    let r = row-sound track.greatest track.rows before s.rows there in
    let new : HoldSound track.greatest o = record { some = rw same r.some; sane = rw same r.sane; read = read } in
    sound-replaced track o.row.seg.start (o ∷ []) s (All-cons (HoldSound track.greatest) o [] new (All-nil (HoldSound track.greatest)))
    (λ h m c. span-one o h.row.seg (same ∙ ap (λ (k : Held _). k.row.seg) (sym (alone h m (closed-start h.row.readings h.row.seg.start o.row.seg.start c ∙ ap (λ (g : Seg). g.start) same)))))

pub split-sound : {I : Type 0} → (track : Track (Held I)) (a b before : Held I) → IsSoundTrack (with_rows row_in track) → HoldSound track.greatest a → HoldSound track.greatest b
    → a.row.seg.start ≡ before.row.seg.start → b.row.seg.start ≡ a.row.seg.start + a.row.seg.len → a.row.seg.len + b.row.seg.len ≡ before.row.seg.len
    → ((h : Held I) → Has h track.rows → h.row.seg.start ≡ before.row.seg.start → h ≡ before)
    → IsSoundTrack (with_rows row_in (record track { rows = replaced a.row.seg.start (a ∷ b ∷ []) track.rows }))
split-sound track a b before s sa sb starts next whole alone =
    sound-replaced track a.row.seg.start (a ∷ b ∷ []) s
    (All-cons (HoldSound track.greatest) a (b ∷ []) sa (All-cons (HoldSound track.greatest) b [] sb (All-nil (HoldSound track.greatest))))
    (λ h m c.
    let e = alone h m (closed-start h.row.readings h.row.seg.start a.row.seg.start c ∙ starts) in
    let g : before.row.seg ≡ h.row.seg = ap (λ (k : Held _). k.row.seg) (sym e) in
    span-two a b h.row.seg (starts ∙ ap (λ (k : Seg). k.start) g) next (whole ∙ ap (λ (k : Seg). k.len) g))

-- a row that is seen from a position is the only one
pub same-start : {I : Type 0} → (xs : List (Option (TableRow I))) (rows : List (Held I)) (h k : Held I) → AreRows xs rows → Has h rows → Has k rows → h.row.seg.start ≡ k.row.seg.start → h ≡ k
same-start xs rows h k a mh mk e =
    let f = found-at k.row.seg.start xs rows h a mh e in
    let g = found-at k.row.seg.start xs rows k a mk refl in
    let both : Some f.row ≡ Some g.row = sym f.found ∙ g.found in
    let one : f.row ≡ g.row = cc in
    f.same ∙ ap held one ∙ sym g.same

-- readings of a row with the array that it holds
pub read-from : (d n : ℕ) (o : Option (List ℤ)) → IfSome o (λ xs. AreSmall d n (take n xs)) → (xs : List ℤ) → option_map (take n) o ≡ Some xs → AreSmall d n xs
read-from d n None h xs e = cc
read-from d n (Some ys) h xs e = let same : take n ys ≡ xs = cc in subst (AreSmall d n) same h

-- a closed row is sound where its segment is
pub closed-sound : {I : Type 0} → (d : ℕ) (r : TableRow I) → r.readings ≡ None → 0 < r.seg.len → IsSane r.seg d → HoldSound d (held r)
closed-sound d r c some sane = record { some = some; sane = sane; read = λ xs e. let z : option_map (take r.seg.len) r.readings ≡ None = rw c refl in let bad : None ≡ Some xs = sym z ∙ e in cc }

-- the root of a series, and no rows of an empty one
pub root-sound : {I : Type 0} → (track : Track (Held I)) (r : TableRow I) → track.rows ≡ held r ∷ [] → r.readings ≡ None → track.len ≤ 2 ^ 20 → 0 < r.seg.len → r.seg.start ≡ 0 → r.seg.len ≡ track.len → IsSane r.seg track.greatest
    → IsSoundTrack (with_rows row_in track)
root-sound track r rows c few some starts spans sane =
    let h = closed-sound track.greatest r c some sane in
    record {
      few = few;
      rows = rw rows (All-cons (IsSoundRow track.greatest) (held r).row [] h (All-nil (IsSoundRow track.greatest)));
      touch = rw rows (starts, omega arith);
    }

pub empty-sound : {I : Type 0} → (track : Track (Held I)) → track.rows ≡ [] → track.len ≡ 0 → IsSoundTrack (with_rows row_in track)
empty-sound track rows len = record { few = omega arith; rows = rw rows (All-nil (IsSoundRow track.greatest)); touch = rw rows (sym len) }

units-length : (start : ℕ) (xs : List ℤ) → length (units start xs) ≡ length xs
units-length start [] = refl
units-length start (x ∷ xs) = ap suc (units-length (start + 1) xs)

-- an opened row has a segment for each position
pub opened-count : {I : Type 0} → (d : ℕ) (r : TableRow I) → IsSoundRow d (row_in (held r)) → is_some r.readings ≡ true → length (segs_of_row (row_in (held r))) ≡ r.seg.len
opened-count d r s some = by r.readings some s.read
  where
    by : (o : Option (List ℤ)) → is_some o ≡ true → ((xs : List ℤ) → option_map (take r.seg.len) o ≡ Some xs → AreSmall d r.seg.len xs) → length (segs_given r.seg (option_map (take r.seg.len) o)) ≡ r.seg.len
    by None e read = cc
    by (Some xs) e read = units-length r.seg.start (take r.seg.len xs) ∙ (read (take r.seg.len xs) refl).long

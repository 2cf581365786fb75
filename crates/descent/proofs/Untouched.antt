-- A row gave way to those below it: what is kept of a sum stays right where that row was not read.
use Rattle.std.proofs.Common.{◌≡◌, ℕ, zero, suc, ◌+◌, ◌-◌, ◌*◌, ◌/◌, ◌<◌, ◌⊎◌, true, false, inl, inr, ℤ, pos, ◌+ℤ◌, None, List, [], ◌∷◌, ◌++◌, length, map, get_or, refl, sym, ap, ap₂, subst, ◌∙◌, arith, append_assoc}
use Rattle.std.proofs.lemmas.Bool.{cases_eq, cases_lt, cases_Bool}
use Rattle.std.proofs.Math.ListN.{get_or-map}
use Rattle.semantics.specs.Admission.{SumTerm}
use Rattle.semantics.specs.Measures.{names_in}
use Rattle.semantics.specs.Readings.{positions_in}
use Rattle.semantics.specs.Term.{Range, Term}
use Rattle.segment.specs.declared.segments.Seg.{Seg}
use Rattle.bounds.specs.Cut.{estimate_from, no_occurrence, no_use, occurrence_at, occurrences, segs_of, weight_at, weight_of}
use Rattle.bounds.specs.Form.{form, Form}
use Rattle.bounds.specs.Segments.{covers, seg_at}
use Rattle.bounds.specs.Shape.{estimate_by, read_by, reads, shape, weight_in_use}
use Rattle.bounds.proofs.OccurrenceLaws.{length-occurrences, moved, occurrences-later}
use Rattle.bounds.proofs.ShapeLaws.{form_by_reads}
use Rattle.tops.specs.Tops.{number}
use Rattle.descent.specs.declared.kept.KeptSum.{KeptSum}
use Rattle.descent.specs.declared.readers.Reader.{Reader}
use Rattle.descent.specs.Cells.{offset_of}
use Rattle.descent.specs.Changed.{CanKeep, HasChanged}
use Rattle.descent.specs.Charges.{place_in, site, sites, AreRecharged, GoUp, Site}
use Rattle.descent.specs.Choice.{Has}
use Rattle.descent.specs.Kept.{behind, IsKeptAt, Kept, StaysIn}
use Rattle.descent.specs.KeptSums.{band_of, kept_of, place_of, row_charge, AreCharged, IsKeptBut, IsKeptSum}
use Rattle.descent.specs.Readers.{reader_at, rows_read, track_at, AreReadersOf}
use Rattle.descent.specs.Rows.{entries, segs_of_rows, Cut, Row, Track}
use Rattle.descent.specs.Sound.{IsSound}
use Rattle.descent.specs.Sums.{count_of, first_of, range_of}
use Rattle.descent.proofs.GivenUp.{apart-before, first-new, has-parts, in-back, in-front, in-middle, new-borders, new-in, new-sound, not-in, row-segs-in, same-band, same-len, same-name, same-place, same-range, same-seg, segs-have}
use Rattle.descent.proofs.SiteLaws.{places-go-up, site-has}
use Rattle.descent.proofs.SumLaws.{up-low}
use Rattle.descent.proofs.TileLaws.{most_below-same, total_below-same}
use Rattle.descent.proofs.TrackLaws.{segs-of-track}

-- an occurrence reads a row of the i-th track at an offset
pub record IsReadAt (i : ℕ) (row : Row) (rs : List Reader) (n offset : ℕ) : Type 0 where
  pub o : ℕ
  pub below : o < n
  pub track : (reader_at rs o).track ≡ i
  pub covered : covers row.seg ((reader_at rs o).at +ℤ pos offset) ≡ true

-- ---- where two cuts give the same segments, they say the same

pub record SayTheSame (C B : List ℕ → List Seg) (t : Term) (l : ℤ) (j : ℕ) : Type 0 where
  pub estimate : estimate_from C t l j ≡ estimate_from B t l j
  pub weights : (o : ℕ) → weight_at C t l o j ≡ weight_at B t l o j

weight-in : (m : Form) (o : ℕ) → get_or (map weight_in_use m.uses) o 0 ≡ weight_of m o
weight-in m o = get_or-map weight_in_use m.uses o no_use

say-the-same : (C B : List ℕ → List Seg) (t : Term) (l : ℤ) (j : ℕ)
    → reads C t (l +ℤ pos j) ≡ reads B t (l +ℤ pos j) → SayTheSame C B t l j
say-the-same C B t l j e =
    let i = l +ℤ pos j in
    let c = form_by_reads C t i in
    let b = form_by_reads B t i in
    let weights : map weight_in_use (form C t i).uses ≡ map weight_in_use (form B t i).uses =
    c.weights ∙ ap (λ gs. (shape t gs).weights) e ∙ sym b.weights in
    record {
      estimate = c.estimate ∙ ap (λ gs. estimate_by t gs i) e ∙ sym b.estimate;
      weights = λ o. sym (weight-in (form C t i) o) ∙ ap (λ ws. get_or ws o 0) weights ∙ weight-in (form B t i) o;
    }

map-each : {A B : Type 0} → (f g : A → B) (xs : List A) (d : A)
    → ((o : ℕ) → o < length xs → f (get_or xs o d) ≡ g (get_or xs o d)) → map f xs ≡ map g xs
map-each f g [] d h = refl
map-each {A} {B} f g (x ∷ xs) d h =
    ap₂ (λ (y : B) (ys : List B). y ∷ ys) (h 0 (omega arith)) (map-each f g xs d (λ o lt. h (suc o) (omega arith)))

map-map : {A B D : Type 0} → (f : B → D) (g : A → B) (xs : List A) → map f (map g xs) ≡ map (λ x. f (g x)) xs
map-map f g [] = refl
map-map {A} {B} {D} f g (x ∷ xs) = ap (λ (ys : List D). f (g x) ∷ ys) (map-map f g xs)

-- the segments that are read, occurrence by occurrence
same-reads : (C B : List ℕ → List Seg) (t : Term) (l : ℤ) (j : ℕ)
    → ((o : ℕ) → o < names_in t → seg_at (C (occurrence_at t l o).name) ((occurrence_at t l o).at +ℤ pos j)
    ≡ seg_at (B (occurrence_at t l o).name) ((occurrence_at t l o).at +ℤ pos j))
    → reads C t (l +ℤ pos j) ≡ reads B t (l +ℤ pos j)
same-reads C B t l j h =
    let n = length-occurrences t l in
    let c : reads C t (l +ℤ pos j) ≡ map (λ x. read_by C (moved j x)) (occurrences t l) =
    ap (map (read_by C)) (occurrences-later t l j) ∙ map-map (read_by C) (moved j) (occurrences t l) in
    let b : reads B t (l +ℤ pos j) ≡ map (λ x. read_by B (moved j x)) (occurrences t l) =
    ap (map (read_by B)) (occurrences-later t l j) ∙ map-map (read_by B) (moved j) (occurrences t l) in
    c ∙ map-each (λ x. read_by C (moved j x)) (λ x. read_by B (moved j x)) (occurrences t l) no_occurrence
    (λ o lt. h o (omega arith)) ∙ sym b

-- ---- readers

pub same-readers : (i : ℕ) (old : Row) (before now : Cut) (t : Term) (l : ℤ) (n : ℕ) (rs : List Reader)
    → HasChanged i old before now → AreReadersOf before t l n rs → AreReadersOf now t l n rs
same-readers i old before now t l n rs h are = record {
  count = are.count;
  each = λ o below.
      let r = are.each o below in
      let k = (reader_at rs o).track in
      record {
        track = subst (λ m. k < m) h.count r.track;
        name = same-name i old before now h k ∙ r.name;
        at = r.at;
        from = r.from;
        until = λ some. rw (same-len i old before now h k) (r.until some);
      };
}

-- ---- a piece at whose first offset the row was not read

-- a segment of the new rows covers no position that the row did not cover
new-passed : (i : ℕ) (old : Row) (before now : Cut) → (h : HasChanged i old before now) → IsSound now → (z : ℤ)
    → covers old.seg z ≡ false → (g : Seg) → Has g (segs_of_rows h.new) → covers g z ≡ false
new-passed i old before now h sound z passed g there =
    segs-have h.new g
    (λ row m q.
    let s = new-sound i old before now h sound row m in
    let a = row-segs-in (track_at now i).greatest row g s q in
    not-in g row.seg z a (not-in row.seg old.seg z (new-in old h.new h.gave row m) passed))
    there

old-passed : (old : Row) → old.readings ≡ None → (z : ℤ) → covers old.seg z ≡ false → (g : Seg)
    → Has g (segs_of_rows (old ∷ [])) → covers g z ≡ false
old-passed old closed z passed g there =
    segs-have (old ∷ []) g
    (λ row m q. elim m [
      | inr bad ↦ absurd bad
      | inl e ↦
          let c : row.readings ≡ None = ap (λ (r : Row). r.readings) e ∙ closed in
          let k : Has g (row.seg ∷ []) = rw c at q in
          elim k [
            | inr worse ↦ absurd worse
            | inl same ↦ rw (same ∙ ap (λ (r : Row). r.seg) e) passed
          ]
    ])
    there

-- an occurrence of a name reads the same segment
same-read : (i : ℕ) (old : Row) (before now : Cut) (k : ℕ) (z : ℤ) → HasChanged i old before now → IsSound now
    → k < length now → (k ≡ i → covers old.seg z ≡ false)
    → seg_at (segs_of_rows (track_at before k).rows) z ≡ seg_at (segs_of_rows (track_at now k).rows) z
same-read i old before now k z h sound lt passed = elim (cases_eq k i) [
  | inr ne ↦ ap (λ (t : Track Row). seg_at (segs_of_rows t.rows) z) (sym (h.others k ne))
  | inl e ↦
      let p = passed e in
      let was : (track_at before i).rows ≡ h.front ++ (old ∷ []) ++ h.back =
      h.was ∙ sym (append_assoc h.front (old ∷ []) h.back) in
      let same = same-seg h.front (old ∷ []) h.new h.back z (old-passed old h.closed z p)
      (new-passed i old before now h sound z p) in
      let here : seg_at (segs_of_rows (track_at before i).rows) z ≡ seg_at (segs_of_rows (track_at now i).rows) z =
      ap (λ rows. seg_at (segs_of_rows rows) z) was ∙ same ∙ ap (λ rows. seg_at (segs_of_rows rows) z) (sym h.is) in
      rw e here
]

-- at an offset, what the occurrences read is the same
reads-same : (i : ℕ) (old : Row) (before now : Cut) (t : Term) (l : ℤ) (n : ℕ) (rs : List Reader) (j : ℕ)
    → HasChanged i old before now → IsSound now → AreReadersOf now t l n rs
    → ((o : ℕ) → o < names_in t → (reader_at rs o).track ≡ i → covers old.seg ((reader_at rs o).at +ℤ pos j) ≡ false)
    → SayTheSame (segs_of (entries before)) (segs_of (entries now)) t l j
reads-same i old before now t l n rs j h sound are passed =
    say-the-same (segs_of (entries before)) (segs_of (entries now)) t l j
    (same-reads (segs_of (entries before)) (segs_of (entries now)) t l j (λ o below.
    let r = are.each o below in
    let k = (reader_at rs o).track in
    let z = (reader_at rs o).at +ℤ pos j in
    let lt : k < length before = subst (λ m. k < m) (sym h.count) r.track in
    let own : segs_of (entries now) (occurrence_at t l o).name ≡ segs_of_rows (track_at now k).rows =
    ap (segs_of (entries now)) (sym r.name) ∙ segs-of-track now k sound.apart r.track in
    let name : (track_at before k).name ≡ (occurrence_at t l o).name =
    sym (same-name i old before now h k) ∙ r.name in
    let other : segs_of (entries before) (occurrence_at t l o).name ≡ segs_of_rows (track_at before k).rows =
    ap (segs_of (entries before)) (sym name)
    ∙ segs-of-track before k (apart-before i old before now h sound) lt in
    let same : seg_at (segs_of_rows (track_at before k).rows) z ≡ seg_at (segs_of_rows (track_at now k).rows) z =
    same-read i old before now k z h sound r.track (passed o below) in
    let both : seg_at (segs_of (entries before) (occurrence_at t l o).name) z
    ≡ seg_at (segs_of (entries now) (occurrence_at t l o).name) z =
    ap (λ gs. seg_at gs z) other ∙ same ∙ sym (ap (λ gs. seg_at gs z) own) in
    subst (λ a. seg_at (segs_of (entries before) (occurrence_at t l o).name) (a +ℤ pos j)
    ≡ seg_at (segs_of (entries now) (occurrence_at t l o).name) (a +ℤ pos j)) r.at both))

-- all along the piece the row is not read
all-along : (i : ℕ) (old : Row) (before now : Cut) (t : Term) (l : ℤ) (rs : List Reader) (offset : ℕ → ℕ) (kept : Kept)
    (c o : ℕ) → HasChanged i old before now → IsKeptAt before t l rs offset kept c → o < names_in t
    → (reader_at rs o).track ≡ i → covers old.seg ((reader_at rs o).at +ℤ pos (offset c)) ≡ false → (j : ℕ)
    → j < offset (c + kept.lens c) - offset c → covers old.seg ((reader_at rs o).at +ℤ pos (offset c + j)) ≡ false
all-along i old before now t l rs offset kept c o h is below track passed j lt =
    let was : (track_at before i).rows ≡ h.front ++ (old ∷ []) ++ h.back =
    h.was ∙ sym (append_assoc h.front (old ∷ []) h.back) in
    let there : Has old (rows_read before (reader_at rs o)) =
    subst (Has old) (sym (ap (λ q. (track_at before q).rows) track ∙ was))
    (in-middle old h.front (old ∷ []) h.back (inl refl)) in
    is.still o old below there j lt ∙ passed

pub untouched : (i : ℕ) (old : Row) (before now : Cut) (t : Term) (l : ℤ) (n : ℕ) (rs : List Reader) (offset : ℕ → ℕ)
    (kept : Kept) (c : ℕ) → HasChanged i old before now → IsSound now → AreReadersOf now t l n rs
    → ((o : ℕ) → o < names_in t → (reader_at rs o).track ≡ i
    → covers old.seg ((reader_at rs o).at +ℤ pos (offset c)) ≡ false)
    → IsKeptAt before t l rs offset kept c → IsKeptAt now t l rs offset kept c
untouched i old before now t l n rs offset kept c h sound are passed is = record {
  said = record {
    estimate = is.said.estimate
        ∙ total_below-same (behind (estimate_from (segs_of (entries before)) t l) (offset c))
        (behind (estimate_from (segs_of (entries now)) t l) (offset c)) len (λ j lt. (same j lt).estimate);
    greatest = λ o below. is.said.greatest o below
        ∙ most_below-same (behind (weight_at (segs_of (entries before)) t l o) (offset c))
        (behind (weight_at (segs_of (entries now)) t l o) (offset c)) len (λ j lt. (same j lt).weights o);
  };
  still = still;
}
  where
    len : ℕ
    len = offset (c + kept.lens c) - offset c

    along : (o j : ℕ) → o < names_in t → (reader_at rs o).track ≡ i → j < len
        → covers old.seg ((reader_at rs o).at +ℤ pos (offset c + j)) ≡ false
    along o j below track lt =
        all-along i old before now t l rs offset kept c o h is below track (passed o below track) j lt

    same : (j : ℕ) → j < len → SayTheSame (segs_of (entries before)) (segs_of (entries now)) t l (offset c + j)
    same j lt = reads-same i old before now t l n rs (offset c + j) h sound are
        (λ o below track. along o j below track lt)

    still : (o : ℕ) (row : Row) → o < names_in t → Has row (rows_read now (reader_at rs o))
        → StaysIn (reader_at rs o).at (offset c) len row
    still o row below there j lt = elim (cases_eq (reader_at rs o).track i) [
      | inr ne ↦
          is.still o row below
          (subst (λ (k : Track Row). Has row k.rows) (h.others (reader_at rs o).track ne) there) j lt
      | inl e ↦
          let was : (track_at before i).rows ≡ h.front ++ (old ∷ []) ++ h.back =
          h.was ∙ sym (append_assoc h.front (old ∷ []) h.back) in
          let rows : rows_read before (reader_at rs o) ≡ h.front ++ (old ∷ []) ++ h.back =
          ap (λ q. (track_at before q).rows) e ∙ was in
          let in-now : Has row (h.front ++ h.new ++ h.back) =
          subst (Has row) (ap (λ q. (track_at now q).rows) e ∙ h.is) there in
          has-parts row h.front h.new h.back
          (λ m. is.still o row below (subst (Has row) (sym rows) (in-front row h.front (old ∷ []) h.back m)) j lt)
          (λ m.
          let l = new-in old h.new h.gave row m in
          not-in row.seg old.seg ((reader_at rs o).at +ℤ pos (offset c + j)) l (along o j below e lt)
          ∙ sym (not-in row.seg old.seg ((reader_at rs o).at +ℤ pos (offset c)) l (passed o below e)))
          (λ m. is.still o row below (subst (Has row) (sym rows) (in-back row h.front (old ∷ []) h.back m)) j lt)
          in-now
    ]

-- ---- charges

-- what has the same place is the same
one-place : {A : Type 0} → (place : A → ℕ) (from : ℕ) (xs : List A) (x y : A) → GoUp place from xs → Has x xs → Has y xs
    → place x ≡ place y → x ≡ y
one-place place from [] x y u h k e = absurd h
one-place place from (z ∷ xs) x y u (inl p) (inl q) e = p ∙ sym q
one-place place from (z ∷ xs) x y u (inl p) (inr k) e =
    let low = up-low place (place z + 1) xs y u.1 k in
    let same : place x ≡ place z = ap place p in
    absurd (omega arith)
one-place place from (z ∷ xs) x y u (inr h) (inl q) e =
    let low = up-low place (place z + 1) xs x u.1 h in
    let same : place y ≡ place z = ap place q in
    absurd (omega arith)
one-place place from (z ∷ xs) x y u (inr h) (inr k) e = one-place place (place z + 1) xs x y u.1 h k e

-- a place is that of one of some rows, or of none
record IsPlaceOf (now : Cut) (i : ℕ) (rows : List Row) (p : ℕ) : Type 0 where
  row : Row
  there : Has row rows
  place : place_of now i row ≡ p

find-place : (now : Cut) (i : ℕ) (rows : List Row) (p : ℕ)
    → IsPlaceOf now i rows p ⊎ ((row : Row) → Has row rows → place_of now i row ≡ p → ⊥)
find-place now i [] p = inr (λ row h e. absurd h)
find-place now i (r ∷ rows) p = elim (cases_eq (place_of now i r) p) [
  | inl e ↦ inl (record { row = r; there = inl refl; place = e })
  | inr ne ↦ elim (find-place now i rows p) [
    | inl is ↦ inl (record { row = is.row; there = inr is.there; place = is.place })
    | inr none ↦ inr (λ row h e. elim h [
      | inl q ↦ ne (subst (λ x. place_of now i x ≡ p) q e)
      | inr m ↦ none row m e
    ])
  ]
]

-- the rows that begin at borders of blocks still do
borders-now : (i : ℕ) (old : Row) (before now : Cut) (k : KeptSum) → HasChanged i old before now → AreCharged before k
    → (j : ℕ) (row : Row) → j < length now → Has row (track_at now j).rows → (b : ℕ) × (row.seg.start ≡ 16 * b)
borders-now i old before now k h are j row lt there =
    let lt-before : j < length before = subst (λ m. j < m) (sym h.count) lt in
    elim (cases_eq j i) [
      | inr ne ↦ are.borders j row lt-before (subst (λ (t : Track Row). Has row t.rows) (h.others j ne) there)
      | inl e ↦
          let was : (track_at before i).rows ≡ h.front ++ (old ∷ []) ++ h.back =
          h.was ∙ sym (append_assoc h.front (old ∷ []) h.back) in
          let in-now : Has row (h.front ++ h.new ++ h.back) = rw (e, h.is) at there in
          let at-old = are.borders j old lt-before
          (rw (e, was) (in-middle old h.front (old ∷ []) h.back (inl refl))) in
          has-parts row h.front h.new h.back
          (λ m. are.borders j row lt-before (rw (e, was) (in-front row h.front (old ∷ []) h.back m)))
          (λ m. new-borders old h.new at-old.0 h.gave at-old.1 row m)
          (λ m. are.borders j row lt-before (rw (e, was) (in-back row h.front (old ∷ []) h.back m)))
          in-now
    ]

-- the charges, once those of the new rows are put
pub recharged : (i : ℕ) (old : Row) (before now : Cut) (k : KeptSum) (charges : List ℕ)
    → (h : HasChanged i old before now) → IsSound now → AreCharged before k → AreRecharged now i h.new k charges
    → AreCharged now (record k { charges = charges })
recharged i old before now k charges h sound are new = record {
  room =
      let e : band_of now (length now) ≡ band_of before (length before) =
      same-band i old before now h (length now) ∙ ap (band_of before) (sym h.count) in
      let room = are.room in
      let same = new.room in
      rw (e, same) room;
  borders = borders;
  each = λ j row lt there. elim (find-place now i h.new (place_of now j row)) [
    | inl is ↦
        let other = site-has now i is.row h.within (in-now is.row is.there) in
        let same : site j row ≡ site i is.row =
        one-place (place_in now) 0 (sites now) (site j row) (site i is.row)
        (places-go-up now sound.tracks borders) (site-has now j row lt there) other (sym is.place) in
        let own = new.each is.row is.there in
        subst (λ (st : Site). number charges (place_of now st.track st.row) ≡ row_charge k st.track st.row)
        (sym same) own
    | inr none ↦
        new.others (place_of now j row) none
        ∙ ap (number k.charges) (same-place i old before now j row h)
        ∙ are.each j row (subst (λ m. j < m) (sym h.count) lt) (still-there j row there none)
  ];
  others = λ p some. elim (find-place now i h.new p) [
    | inl is ↦ (i, is.row, h.within, in-now is.row is.there, is.place)
    | inr none ↦
        let o = are.others p (subst (λ m. 0 < m) (new.others p none) some) in
        let place : place_of now o.0 o.1 ≡ p = same-place i old before now o.0 o.1 h ∙ o.4 in
        (o.0, o.1, subst (λ m. o.0 < m) h.count o.2, stays o.0 o.1 p o.3 place none, place)
  ];
}
  where
    borders : (j : ℕ) (row : Row) → j < length now → Has row (track_at now j).rows
        → (b : ℕ) × (row.seg.start ≡ 16 * b)
    borders = borders-now i old before now k h are

    was : (track_at before i).rows ≡ h.front ++ (old ∷ []) ++ h.back
    was = h.was ∙ sym (append_assoc h.front (old ∷ []) h.back)

    in-now : (row : Row) → Has row h.new → Has row (track_at now i).rows
    in-now row m = rw h.is (in-middle row h.front h.new h.back m)

    -- a row at another place than the new ones was there before
    still-there : (j : ℕ) (row : Row) → Has row (track_at now j).rows
        → ((r : Row) → Has r h.new → place_of now i r ≡ place_of now j row → ⊥) → Has row (track_at before j).rows
    still-there j row there none = elim (cases_eq j i) [
      | inr ne ↦ subst (λ (t : Track Row). Has row t.rows) (h.others j ne) there
      | inl e ↦
          let parts : Has row (h.front ++ h.new ++ h.back) = rw (e, h.is) at there in
          rw (e, was) (has-parts row h.front h.new h.back
          (λ m. in-front row h.front (old ∷ []) h.back m)
          (λ m. absurd (none row m (ap (λ q. place_of now q row) (sym e))))
          (λ m. in-back row h.front (old ∷ []) h.back m) parts)
    ]

    -- and stays there
    stays : (j : ℕ) (row : Row) (p : ℕ) → Has row (track_at before j).rows → place_of now j row ≡ p
        → ((r : Row) → Has r h.new → place_of now i r ≡ p → ⊥) → Has row (track_at now j).rows
    stays j row p there place none = elim (cases_eq j i) [
      | inr ne ↦ subst (λ (t : Track Row). Has row t.rows) (sym (h.others j ne)) there
      | inl e ↦
          let parts : Has row (h.front ++ (old ∷ []) ++ h.back) = rw (e, was) at there in
          rw (e, h.is) (has-parts row h.front (old ∷ []) h.back
          (λ m. in-front row h.front h.new h.back m)
          (λ m. elim m [
            | inr bad ↦ absurd bad
            | inl q ↦
                let f = first-new old h.new h.gave in
                let start : f.row.seg.start ≡ row.seg.start =
                f.start ∙ ap (λ (r : Row). r.seg.start) (sym q) in
                let same : place_of now i f.row ≡ place_of now j row =
                ap₂ (λ a b. band_of now a + b / 16) (sym e) start in
                absurd (none f.row f.there (same ∙ place))
          ])
          (λ m. in-back row h.front h.new h.back m) parts)
    ]

-- ---- what is in doubt, once the new rows are charged

abbrev pub IsTouched : ℕ → Row → SumTerm → KeptSum → ℕ → Type 0
IsTouched i old s k c = IsReadAt i old k.readers.items (names_in s.series) (offset_of k.cells c)

find-read : (i : ℕ) (row : Row) (rs : List Reader) (offset n : ℕ) → IsReadAt i row rs n offset
    ⊎ ((o : ℕ) → o < n → (reader_at rs o).track ≡ i → covers row.seg ((reader_at rs o).at +ℤ pos offset) ≡ false)
find-read i row rs offset zero = inr (λ o lt e. absurd (omega arith))
find-read i row rs offset (suc n) = elim (find-read i row rs offset n) [
  | inl is ↦
      let b = is.below in
      inl (record { o = is.o; below = omega arith; track = is.track; covered = is.covered })
  | inr none ↦ elim (cases_eq (reader_at rs n).track i) [
    | inr ne ↦ inr (λ o lt e. none o (smaller o lt (λ q. ne (subst (λ x. (reader_at rs x).track ≡ i) q e))) e)
    | inl track ↦ elim (cases_Bool (covers row.seg ((reader_at rs n).at +ℤ pos offset))) [
      | inl t ↦ inl (record { o = n; below = omega arith; track = track; covered = t })
      | inr f ↦ inr (λ o lt e. elim (cases_eq o n) [
        | inl q ↦ subst (λ x. covers row.seg ((reader_at rs x).at +ℤ pos offset) ≡ false) (sym q) f
        | inr ne ↦ none o (smaller o lt ne) e
      ])
    ]
  ]
]
  where
    smaller : (o : ℕ) → o < suc n → (o ≡ n → ⊥) → o < n
    smaller o lt ne = elim (cases_lt o n) [ inl less ↦ less | inr ge ↦ absurd (ne (omega arith)) ]

pub taken-in : (i : ℕ) (old : Row) (before now : Cut) (s : SumTerm) (k : KeptSum) (charges : List ℕ)
    → (h : HasChanged i old before now) → IsKeptSum before s k → CanKeep now s
    → AreRecharged now i h.new k charges
    → IsKeptBut (IsTouched i old s k) now s (record k { charges = charges })
taken-in i old before now s k charges h is can new = record {
  cells = is.cells;
  count = is.count ∙ sym count;
  first = is.first ∙ sym first;
  readers = subst (λ l. AreReadersOf now s.series l (count_of now s) k.readers.items) (sym first)
      (subst (λ n. AreReadersOf now s.series (first_of before s) n k.readers.items) (sym count) are);
  aligned = is.aligned;
  lens = is.lens;
  estimates = is.estimates;
  weights = is.weights;
  room = is.room;
  tiled = is.tiled;
  blank = is.blank;
  charged = recharged i old before now k charges h can.sound is.charged new;
  pieces = λ c some. elim (is.pieces c some) [
    | inl bad ↦ absurd bad
    | inr right ↦ elim (find-read i old k.readers.items (offset_of k.cells c) (names_in s.series)) [
      | inl read ↦ inl read
      | inr none ↦
          let right-now : IsKeptAt now s.series (first_of before s) k.readers.items (offset_of k.cells)
          (kept_of k) c =
          untouched i old before now s.series (first_of before s) (count_of before s) k.readers.items
          (offset_of k.cells) (kept_of k) c h can.sound are none right in
          inr (subst (λ l. IsKeptAt now s.series l k.readers.items (offset_of k.cells) (kept_of k) c)
          (sym first) right-now)
    ]
  ];
}
  where
    range : range_of now s ≡ range_of before s
    range = same-range i old before now s h can.sound

    first : first_of now s ≡ first_of before s
    first = ap (λ (r : Range). r.left) range

    count : count_of now s ≡ count_of before s
    count = ap (λ (r : Range). positions_in r.left r.right) range

    are : AreReadersOf now s.series (first_of before s) (count_of before s) k.readers.items
    are = same-readers i old before now s.series (first_of before s) (count_of before s) k.readers.items h is.readers

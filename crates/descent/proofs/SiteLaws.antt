-- The rows of a cut, track by track: their places go up, and their charges add up to the error of a sum.
use Rattle.std.proofs.Common.{◌≡◌, ℕ, zero, suc, ◌+◌, ◌*◌, ◌/◌, ◌<◌, ◌≤◌, Bool, true, false, cond, inl, inr, Option, Some, None, List, [], ◌∷◌, ◌++◌, length, map, refl, sym, ap, ap₂, subst, ◌∙◌, arith}
use Rattle.std.specs.List.{sum_by, All}
use Rattle.std.specs.Option.{option_map}
use Rattle.std.specs.Prelude.{◌==◌, nat_le}
use Rattle.std.proofs.lemmas.List.{map-append}
use Rattle.std.proofs.lemmas.List.Elements.{All-head, All-tail}
use Rattle.std.proofs.lemmas.List.Sums.{sum_by-append, sum_by-cons}
use Rattle.semantics.specs.Admission.{SumTerm}
use Rattle.bounds.specs.Cut.{charge_by, entry_error, error_by}
use Rattle.bounds.specs.Segments.{TouchFrom}
use Rattle.descent.specs.Choice.{Charged}
use Rattle.descent.specs.Charges.{place_in, site, sites, sites_from, GoUp, Site}
use Rattle.descent.specs.Choice.{charge, charged_in, charged_row, charged_rows, heavier, heaviest, Has}
use Rattle.descent.specs.KeptSums.{band_of, place_of}
use Rattle.descent.specs.Laid.{blocks}
use Rattle.descent.specs.Readers.{track_at}
use Rattle.descent.specs.Rows.{entries, entry_of, segs_of_row, segs_of_rows, Cut, Row, Track}
use Rattle.descent.specs.Sound.{seg_of, IsSoundRow, IsSoundTrack}
use Rattle.descent.specs.Sums.{charge_of, first_of, weight_for}
use Rattle.descent.proofs.Admits.{has-left, has-right}
use Rattle.descent.proofs.SumLaws.{part-le, sum_over}
use Rattle.descent.proofs.TrackLaws.{all-has}

-- ---- which rows they are

-- tracks are those of a cut from the i-th on
abbrev AreFrom : Cut → ℕ → List (Track Row) → Type 0
AreFrom cut i tracks = (j : ℕ) → j < length tracks → track_at cut (i + j) ≡ track_at tracks j

from-next : (cut : Cut) (i : ℕ) (track : Track Row) (tracks : List (Track Row)) → AreFrom cut i (track ∷ tracks)
    → AreFrom cut (i + 1) tracks
from-next cut i track tracks h = λ j lt.
    let e : i + 1 + j ≡ i + suc j = omega arith in
    ap (track_at cut) e ∙ h (suc j) (omega arith)

from-first : (cut : Cut) (i : ℕ) (track : Track Row) (tracks : List (Track Row)) → AreFrom cut i (track ∷ tracks)
    → track_at cut i ≡ track
from-first cut i track tracks h = let e : i ≡ i + 0 = omega arith in ap (track_at cut) e ∙ h 0 (omega arith)

from-start : (cut : Cut) → AreFrom cut 0 cut
from-start cut = λ j lt. let e : 0 + j ≡ j = omega arith in ap (track_at cut) e

-- a row of a track
pub record IsSiteIn (i : ℕ) (tracks : List (Track Row)) (st : Site) : Type 0 where
  pub place : ℕ
  pub below : place < length tracks
  pub track : st.track ≡ i + place
  pub there : Has st.row (track_at tracks place).rows

site-in-map : (i : ℕ) (rows : List Row) (ys : List Site) (st : Site) (P : Type 0)
    → (st.track ≡ i → Has st.row rows → P) → (Has st ys → P) → Has st (map (site i) rows ++ ys) → P
site-in-map i [] ys st P here rest h = rest h
site-in-map i (row ∷ rows) ys st P here rest (inl e) =
    here (ap (λ (s : Site). s.track) e) (inl (ap (λ (s : Site). s.row) e))
site-in-map i (row ∷ rows) ys st P here rest (inr h) =
    site-in-map i rows ys st P (λ e m. here e (inr m)) rest h

pub site-is : (i : ℕ) (tracks : List (Track Row)) (st : Site) → Has st (sites_from i tracks) → IsSiteIn i tracks st
site-is i [] st h = absurd h
site-is i (track ∷ tracks) st h =
    site-in-map i track.rows (sites_from (i + 1) tracks) st (IsSiteIn i (track ∷ tracks) st)
    (λ e m. record { place = 0; below = omega arith; track = omega arith; there = m })
    (λ m. let s = site-is (i + 1) tracks st m in
    let t = s.track in
    let below = s.below in
    record { place = suc s.place; below = omega arith; track = omega arith; there = s.there })
    h

map-has : (i : ℕ) (row : Row) (rows : List Row) → Has row rows → Has (site i row) (map (site i) rows)
map-has i row [] h = absurd h
map-has i row (r ∷ rows) (inl e) = inl (ap (site i) e)
map-has i row (r ∷ rows) (inr h) = inr (map-has i row rows h)

site-from : (i j : ℕ) (tracks : List (Track Row)) (row : Row) → j < length tracks → Has row (track_at tracks j).rows
    → Has (site (i + j) row) (sites_from i tracks)
site-from i j [] row lt h = absurd (omega arith)
site-from i zero (track ∷ tracks) row lt h =
    let e : i ≡ i + 0 = omega arith in
    has-left (site (i + 0) row) (map (site i) track.rows) (sites_from (i + 1) tracks)
    (subst (λ k. Has (site k row) (map (site i) track.rows)) e (map-has i row track.rows h))
site-from i (suc j) (track ∷ tracks) row lt h =
    let e : i + 1 + j ≡ i + suc j = omega arith in
    has-right (site (i + suc j) row) (map (site i) track.rows) (sites_from (i + 1) tracks)
    (subst (λ k. Has (site k row) (sites_from (i + 1) tracks)) e (site-from (i + 1) j tracks row (omega arith) h))

pub site-has : (cut : Cut) (j : ℕ) (row : Row) → j < length cut → Has row (track_at cut j).rows
    → Has (site j row) (sites cut)
site-has cut j row lt h =
    let e : 0 + j ≡ j = omega arith in
    subst (λ k. Has (site k row) (sites cut)) e (site-from 0 j cut row lt h)

-- ---- places

-- the rows of tracks begin at borders of blocks
abbrev pub AreOnBorders : List (Track Row) → Type 0
AreOnBorders tracks = (i : ℕ) (row : Row) → i < length tracks → Has row (track_at tracks i).rows
    → (b : ℕ) × (row.seg.start ≡ 16 * b)

go-up-weaken : {A : Type 0} → (place : A → ℕ) (from low : ℕ) (xs : List A) → low ≤ from → GoUp place from xs
    → GoUp place low xs
go-up-weaken place from low [] le u = tt
go-up-weaken place from low (x ∷ xs) le u = let l = u.0 in (omega arith, u.1)

go-rows : (cut : Cut) (i : ℕ) (rows : List Row) (ys : List Site) (from low len : ℕ)
    → TouchFrom from (map seg_of rows) len
    → ((row : Row) → Has row rows → 0 < row.seg.len)
    → ((row : Row) → Has row rows → (b : ℕ) × (row.seg.start ≡ 16 * b)) → 16 * low ≤ from + 15
    → GoUp (place_in cut) (band_of cut i + blocks len) ys
    → GoUp (place_in cut) (band_of cut i + low) (map (site i) rows ++ ys)
go-rows cut i [] ys from low len t some borders le u =
    let e : from ≡ len = t in
    let m : low ≤ (len + 15) / 16 = omega arith in
    go-up-weaken (place_in cut) (band_of cut i + blocks len) (band_of cut i + low) ys (omega arith) u
go-rows cut i (row ∷ rows) ys from low len t some borders le u =
    let e : row.seg.start ≡ from = t.0 in
    let b = borders row (inl refl) in
    let q = b.1 in
    let here : row.seg.start / 16 ≡ b.0 = omega arith in
    let long = some row (inl refl) in
    let rest = go-rows cut i rows ys (from + row.seg.len) (b.0 + 1) len t.1 (λ r h. some r (inr h))
    (λ r h. borders r (inr h)) (omega arith) u in
    let next : band_of cut i + (b.0 + 1) ≡ band_of cut i + row.seg.start / 16 + 1 = omega arith in
    (omega arith, subst (λ k. GoUp (place_in cut) k (map (site i) rows ++ ys)) next rest)

go-tracks : (cut : Cut) (i : ℕ) (tracks : List (Track Row)) → AreFrom cut i tracks → All IsSoundTrack tracks
    → AreOnBorders tracks → GoUp (place_in cut) (band_of cut i) (sites_from i tracks)
go-tracks cut i [] are sound borders = tt
go-tracks cut i (track ∷ tracks) are sound borders =
    let s = All-head IsSoundTrack track tracks sound in
    let rest = go-tracks cut (i + 1) tracks (from-next cut i track tracks are)
    (All-tail IsSoundTrack track tracks sound) (λ j row lt h. borders (suc j) row (omega arith) h) in
    let e : i + 1 ≡ suc i = omega arith in
    let len : blocks (track_at cut i).len ≡ blocks track.len =
    ap (λ (t : Track Row). blocks t.len) (from-first cut i track tracks are) in
    let band : band_of cut (i + 1) ≡ band_of cut i + blocks track.len =
    ap (band_of cut) e ∙ ap (λ k. band_of cut i + k) len in
    let all = go-rows cut i track.rows (sites_from (i + 1) tracks) 0 0 track.len s.touch
    (λ row h. (all-has (IsSoundRow track.greatest) track.rows row s.rows h).some)
    (λ row h. borders 0 row (omega arith) h) (omega arith)
    (subst (λ k. GoUp (place_in cut) k (sites_from (i + 1) tracks)) band rest) in
    go-up-weaken (place_in cut) (band_of cut i + 0) (band_of cut i) (sites_from i (track ∷ tracks)) (omega arith) all

pub places-go-up : (cut : Cut) → All IsSoundTrack cut → AreOnBorders cut → GoUp (place_in cut) 0 (sites cut)
places-go-up cut sound borders = go-tracks cut 0 cut (from-start cut) sound borders

row-end : (from to : ℕ) (rows : List Row) (row : Row) → TouchFrom from (map seg_of rows) to → Has row rows
    → row.seg.start + row.seg.len ≤ to
row-end from to [] row t h = absurd h
row-end from to (r ∷ rows) row t (inl e) =
    let s : row.seg.start ≡ from = ap (λ (q : Row). q.seg.start) e ∙ t.0 in
    let n : row.seg.len ≡ r.seg.len = ap (λ (q : Row). q.seg.len) e in
    let le = touch-le (from + r.seg.len) to rows t.1 in
    omega arith
  where
    touch-le : (from to : ℕ) (rows : List Row) → TouchFrom from (map seg_of rows) to → from ≤ to
    touch-le from to [] t = let e : from ≡ to = t in omega arith
    touch-le from to (r ∷ rows) t = let i = touch-le (from + r.seg.len) to rows t.1 in omega arith
row-end from to (r ∷ rows) row t (inr h) = row-end (from + r.seg.len) to rows row t.1 h

-- each place is one of those that the tracks have
pub place-within : (cut : Cut) (i : ℕ) (row : Row) → IsSoundTrack (track_at cut i) → i < length cut
    → Has row (track_at cut i).rows → place_of cut i row < band_of cut (length cut)
place-within cut i row s lt h =
    let end = row-end 0 (track_at cut i).len (track_at cut i).rows row s.touch h in
    let some = (all-has (IsSoundRow (track_at cut i).greatest) (track_at cut i).rows row s.rows h).some in
    let p = part-le (λ j. blocks (track_at cut j).len) (length cut) i lt in
    let m : row.seg.start / 16 < ((track_at cut i).len + 15) / 16 = omega arith in
    omega arith

-- ---- charges

abbrev pub charge_at : Cut → SumTerm → Site → ℕ
charge_at cut s st = charge_of cut s (track_at cut st.track).name st.row

pub sum_over-append : {A : Type 0} → (w : A → ℕ) (xs ys : List A)
    → sum_over w (xs ++ ys) ≡ sum_over w xs + sum_over w ys
sum_over-append w [] ys = omega arith
sum_over-append w (x ∷ xs) ys = omega (arith, sum_over-append w xs ys)

pub has-le : {A : Type 0} → (w : A → ℕ) (xs : List A) (x : A) → Has x xs → w x ≤ sum_over w xs
has-le w [] x h = absurd h
has-le w (y ∷ xs) x (inl e) = let q : w x ≡ w y = ap w e in omega arith
has-le w (y ∷ xs) x (inr h) = let i = has-le w xs x h in omega arith

rows-sum : (cut : Cut) (s : SumTerm) (i : ℕ) (track : Track Row) (rows : List Row) → track_at cut i ≡ track
    → sum_over (charge_at cut s) (map (site i) rows)
    ≡ sum_by (charge_by (weight_for cut s) s.series (first_of cut s) track.name) (segs_of_rows rows)
rows-sum cut s i track [] e = refl
rows-sum cut s i track (row ∷ rows) e =
    let f = charge_by (weight_for cut s) s.series (first_of cut s) track.name in
    let here : charge_at cut s (site i row) ≡ sum_by f (segs_of_row row) =
    ap (λ (t : Track Row). charge_of cut s t.name row) e in
    ap₂ (λ a b. a + b) here (rows-sum cut s i track rows e)
    ∙ sym (sum_by-append f (segs_of_row row) (segs_of_rows rows))

tracks-sum : (cut : Cut) (s : SumTerm) (i : ℕ) (tracks : List (Track Row)) → AreFrom cut i tracks
    → sum_over (charge_at cut s) (sites_from i tracks)
    ≡ error_by (weight_for cut s) (entries tracks) s.series (first_of cut s)
tracks-sum cut s i [] are = refl
tracks-sum cut s i (track ∷ tracks) are =
    sum_over-append (charge_at cut s) (map (site i) track.rows) (sites_from (i + 1) tracks)
    ∙ ap₂ (λ a b. a + b) (rows-sum cut s i track track.rows (from-first cut i track tracks are))
    (tracks-sum cut s (i + 1) tracks (from-next cut i track tracks are))
    ∙ sym (sum_by-cons (entry_error (weight_for cut s) s.series (first_of cut s)) (entry_of track) (entries tracks))

pub charges-sum : (cut : Cut) (s : SumTerm)
    → sum_over (charge_at cut s) (sites cut) ≡ error_by (weight_for cut s) (entries cut) s.series (first_of cut s)
charges-sum cut s = tracks-sum cut s 0 cut (from-start cut)

-- ---- the heaviest

abbrev pub charged_at : Cut → SumTerm → Site → Charged
charged_at cut s st = charged_row cut s (track_at cut st.track) st.row

rows-charged : (cut : Cut) (s : SumTerm) (i : ℕ) (track : Track Row) (rows : List Row) → track_at cut i ≡ track
    → map (charged_row cut s track) rows ≡ map (charged_at cut s) (map (site i) rows)
rows-charged cut s i track [] e = refl
rows-charged cut s i track (row ∷ rows) e =
    ap₂ (λ (c : Charged) (cs : List Charged). c ∷ cs)
    (ap (λ (t : Track Row). charged_row cut s t row) (sym e)) (rows-charged cut s i track rows e)

tracks-charged : (cut : Cut) (s : SumTerm) (i : ℕ) (tracks : List (Track Row)) → AreFrom cut i tracks
    → charged_in cut s tracks ≡ map (charged_at cut s) (sites_from i tracks)
tracks-charged cut s i [] are = refl
tracks-charged cut s i (track ∷ tracks) are =
    ap₂ (λ (cs ds : List Charged). cs ++ ds)
    (rows-charged cut s i track track.rows (from-first cut i track tracks are))
    (tracks-charged cut s (i + 1) tracks (from-next cut i track tracks are))
    ∙ sym (map-append (charged_at cut s) (map (site i) track.rows) (sites_from (i + 1) tracks))

heavier-map : {A B : Type 0} → (w : B → ℕ) (f : A → B) (x : A) (o : Option A)
    → heavier w (f x) (option_map f o) ≡ option_map f (heavier (λ a. w (f a)) x o)
heavier-map {A} {B} w f x None = by (w (f x) == 0)
  where
    by : (b : Bool) → cond b None (Some (f x)) ≡ option_map f (cond b None (Some x))
    by true = refl
    by false = refl
heavier-map {A} {B} w f x (Some y) = by (nat_le (w (f y)) (w (f x)))
  where
    by : (b : Bool) → cond b (Some (f x)) (Some (f y)) ≡ option_map f (cond b (Some x) (Some y))
    by true = refl
    by false = refl

heaviest-map : {A B : Type 0} → (w : B → ℕ) (f : A → B) (xs : List A)
    → heaviest w (map f xs) ≡ option_map f (heaviest (λ a. w (f a)) xs)
heaviest-map w f [] = refl
heaviest-map w f (x ∷ xs) = ap (heavier w (f x)) (heaviest-map w f xs) ∙ heavier-map w f x (heaviest (λ a. w (f a)) xs)

pub heaviest-site : (cut : Cut) (s : SumTerm)
    → heaviest charge (charged_rows cut s) ≡ option_map (charged_at cut s) (heaviest (charge_at cut s) (sites cut))
heaviest-site cut s =
    ap (heaviest charge) (tracks-charged cut s 0 cut (from-start cut))
    ∙ heaviest-map charge (charged_at cut s) (sites cut)

-- The place of a row tells its series and its start.
use Rattle.std.proofs.Common.{◌≡◌, ℕ, zero, suc, ◌+◌, ◌-◌, ◌*◌, ◌/◌, ◌<◌, ◌≤◌, inl, inr, Option, Some, List, [], ◌∷◌, length, map, get_or, sym, ap, subst, ◌∙◌, arith}
use Rattle.std.specs.List.{All}
use Rattle.std.proofs.lemmas.Bool.{cases_lt}
use Rattle.std.proofs.lemmas.List.Elements.{All-head, All-tail}
use Rattle.semantics.specs.Admission.{SumTerm}
use Rattle.semantics.specs.Sums.{sum_below}
use Rattle.bounds.specs.Segments.{TouchFrom}
use Rattle.tops.specs.Tops.{number, IsTop}
use Rattle.descent.specs.declared.Pick.{Pick}
use Rattle.descent.specs.declared.kept.KeptSum.{KeptSum}
use Rattle.descent.specs.Changed.{CanKeep}
use Rattle.descent.specs.Choice.{charge, charged_rows, heaviest, pick_if, Has}
use Rattle.descent.specs.Held.{row_in, shown, Held}
use Rattle.descent.specs.KeptSums.{band_of, IsKeptSum}
use Rattle.descent.specs.Laid.{blocks}
use Rattle.descent.specs.Readers.{track_at}
use Rattle.descent.specs.Rows.{Cut, Row, Track, with_rows}
use Rattle.descent.specs.Sound.{seg_of, IsSoundRow, IsSoundTrack}
use Rattle.descent.proofs.KeptEnds.{kept-heaviest}

-- ---- bands, one behind the other

below-more : (f : ℕ → ℕ) (i m : ℕ) → sum_below f i ≤ sum_below f (i + m)
below-more f i zero = let e : i + 0 ≡ i = omega arith in rw e (omega arith)
below-more f i (suc m) = let e : i + suc m ≡ suc (i + m) = omega arith in let h = below-more f i m in rw e (omega arith)

below-next : (f : ℕ → ℕ) (i j : ℕ) → i < j → sum_below f i + f i ≤ sum_below f j
below-next f i j lt =
    let e : suc i + (j - suc i) ≡ j = omega arith in
    subst (λ k. sum_below f i + f i ≤ sum_below f k) e (below-more f (suc i) (j - suc i))

one-band : (f : ℕ → ℕ) (i j b c : ℕ) → b < f i → c < f j → sum_below f i + b ≡ sum_below f j + c → i ≡ j
one-band f i j b c lb lc e = elim (cases_lt i j) [
  | inl lt ↦ let h = below-next f i j lt in absurd (omega arith)
  | inr ge ↦ elim (cases_lt j i) [
    | inl lt ↦ let h = below-next f j i lt in absurd (omega arith)
    | inr le ↦ omega arith
  ]
]

-- the block that is found is the one at the place
pub block-found : (cut : Cut) (place i rest j block : ℕ) → place ≡ band_of cut i + rest → rest < blocks (track_at cut i).len → block < blocks (track_at cut j).len → place ≡ band_of cut j + block → (i ≡ j) × (rest ≡ block)
block-found cut place i rest j block p lr lb q =
    let f : ℕ → ℕ = λ k. blocks (track_at cut k).len in
    let e : i ≡ j = one-band f i j rest block lr lb (sym p ∙ q) in
    let same : band_of cut i ≡ band_of cut j = ap (band_of cut) e in
    (e, omega arith)

-- no block is found behind all bands
pub block-beyond : (cut : Cut) (place n rest j block : ℕ) → place ≡ band_of cut n + rest → j < n → block < blocks (track_at cut j).len → place ≡ band_of cut j + block → ⊥
block-beyond cut place n rest j block p lt lb q = let h = below-next (λ k. blocks (track_at cut k).len) j n lt in absurd (omega arith)

pub track-shown : {I : Type 0} → (ts : List (Track (Held I))) (i : ℕ) (t : Track (Held I)) → i < length ts → t ≡ get_or ts i t → track_at (shown ts) i ≡ with_rows row_in t
track-shown [] i t lt e = absurd (omega arith)
track-shown (x ∷ ts) zero t lt e = ap (with_rows row_in) (sym e)
track-shown (x ∷ ts) (suc i) t lt e = track-shown ts i t (omega arith) e

-- ---- a row lies in its series

track-sound : (cut : Cut) (i : ℕ) → All IsSoundTrack cut → i < length cut → IsSoundTrack (track_at cut i)
track-sound [] i all lt = absurd (omega arith)
track-sound (t ∷ ts) zero all lt = All-head IsSoundTrack t ts all
track-sound (t ∷ ts) (suc i) all lt = track-sound ts i (All-tail IsSoundTrack t ts all) (omega arith)

touch-up : (d from to : ℕ) (rows : List Row) → TouchFrom from (map seg_of rows) to → from ≤ to
touch-up d from to [] t = let e : from ≡ to = t in omega arith
touch-up d from to (row ∷ rows) t = let i = touch-up d (from + row.seg.len) to rows t.1 in omega arith

row-within : (d from to : ℕ) (rows : List Row) (row : Row) → All (IsSoundRow d) rows → TouchFrom from (map seg_of rows) to → Has row rows → row.seg.start < to
row-within d from to [] row all t has = absurd has
row-within d from to (r ∷ rows) row all t (inl e) =
    let some : 0 < r.seg.len = (All-head (IsSoundRow d) r rows all).some in
    let start : row.seg.start ≡ from = ap (λ (x : Row). x.seg.start) e ∙ t.0 in
    let up = touch-up d (from + r.seg.len) to rows t.1 in
    omega arith
row-within d from to (r ∷ rows) row all t (inr h) = row-within d (from + r.seg.len) to rows row (All-tail (IsSoundRow d) r rows all) t.1 h

-- ---- the heaviest row, by its place

pub heaviest-picked : (cut : Cut) (s : SumTerm) (k : KeptSum) (at : ℕ) (pick : Option Pick) → IsKeptSum cut s k → CanKeep cut s → IsTop k.charges at → 0 < number k.charges at
    → ((i block : ℕ) → i < length cut → block < blocks (track_at cut i).len → at ≡ band_of cut i + block → pick ≡ Some (record { series = (track_at cut i).series; start = 16 * block }))
    → pick ≡ pick_if (heaviest charge (charged_rows cut s))
heaviest-picked cut s k at pick is can top some found =
    let h = kept-heaviest cut s k at is can top some in
    let track = track_at cut h.track in
    let sound = track-sound cut h.track can.sound.tracks h.within in
    let lt = row-within track.greatest 0 track.len track.rows h.row sound.rows sound.touch h.there in
    let b = is.charged.borders h.track h.row h.within h.there in
    let border : h.row.seg.start ≡ 16 * b.0 = b.1 in
    let block = h.row.seg.start / 16 in
    let start : 16 * block ≡ h.row.seg.start = omega arith in
    found h.track block h.within (omega arith) (sym h.place)
    ∙ ap (λ (n : ℕ). Some (let p : Pick = record { series = track.series; start = n } in p)) start
    ∙ sym (ap pick_if h.heaviest)

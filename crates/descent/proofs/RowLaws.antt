-- Rows that lie one behind the other, and the places of their charges.
use Rattle.std.proofs.Common.{◌≡◌, ℕ, zero, suc, ◌+◌, ◌*◌, ◌/◌, ◌^◌, ◌<◌, ◌≤◌, true, inl, inr, ℤ, pos, negsuc, List, [], ◌∷◌, length, map, refl, sym, ap, subst, ◌∙◌, arith}
use Rattle.std.specs.Prelude.{◌&&◌, nat_le, nat_lt}
use Rattle.std.specs.List.{All}
use Rattle.std.proofs.lemmas.Bool.{cases_lt}
use Rattle.std.proofs.lemmas.Bool.Decides.{nat_tests}
use Rattle.std.proofs.lemmas.List.Elements.{All-head, All-tail}
use Rattle.segment.specs.declared.segments.Seg.{Seg}
use Rattle.bounds.specs.Segments.{covers, TouchFrom}
use Rattle.descent.specs.Choice.{Has}
use Rattle.descent.specs.KeptSums.{band_of, place_of}
use Rattle.descent.specs.Laid.{blocks}
use Rattle.descent.specs.Readers.{track_at}
use Rattle.descent.specs.Rows.{Row, Cut}
use Rattle.descent.specs.Sound.{seg_of, IsSound, IsSoundRow, IsSoundTrack}

-- ---- covered positions

pub record IsCovered (g : Seg) (z : ℤ) : Type 0 where
  pub n : ℕ
  pub is : z ≡ pos n
  pub low : g.start ≤ n
  pub high : n < g.start + g.len

from-range : (s e n : ℕ) → (nat_le s n && nat_lt n e) ≡ true → (s ≤ n) × (n < e)
from-range s e n h = grind (arith, nat_tests)

in-range : (s e n : ℕ) → s ≤ n → n < e → (nat_le s n && nat_lt n e) ≡ true
in-range s e n a b = grind (arith, nat_tests)

pub covered : (g : Seg) (z : ℤ) → covers g z ≡ true → IsCovered g z
covered g (pos n) h = let r = from-range g.start (g.start + g.len) n h in record { n = n; is = refl; low = r.0; high = r.1 }
covered g (negsuc n) h = cc

pub covers-at : (g : Seg) (n : ℕ) → g.start ≤ n → n < g.start + g.len → covers g (pos n) ≡ true
covers-at g n a b = in-range g.start (g.start + g.len) n a b

-- ---- rows one behind the other

touch-le : (from to : ℕ) (rows : List Row) → TouchFrom from (map seg_of rows) to → from ≤ to
touch-le from to [] t = let e : from ≡ to = t in omega arith
touch-le from to (r ∷ rows) t = let i = touch-le (from + r.seg.len) to rows t.1 in omega arith

pub row-between : (from to : ℕ) (rows : List Row) (a : Row) → TouchFrom from (map seg_of rows) to → Has a rows → (from ≤ a.seg.start) × (a.seg.start + a.seg.len ≤ to)
row-between from to [] a t h = absurd h
row-between from to (r ∷ rows) a t (inl e) =
    let s : a.seg.start ≡ from = ap (λ (x : Row). x.seg.start) e ∙ t.0 in
    let n : a.seg.len ≡ r.seg.len = ap (λ (x : Row). x.seg.len) e in
    let i = touch-le (from + r.seg.len) to rows t.1 in
    (omega arith, omega arith)
row-between from to (r ∷ rows) a t (inr h) = let i = row-between (from + r.seg.len) to rows a t.1 h in (omega (arith, i.0), i.1)

-- the rows of an element and of another one behind it do not overlap
apart : (from to : ℕ) (r : Row) (rows : List Row) (a b : Row) (z : ℤ) → TouchFrom from (map seg_of (r ∷ rows)) to → a ≡ r → Has b rows → IsCovered a.seg z → IsCovered b.seg z → ⊥
apart from to r rows a b z t e h ca cb =
    let s : a.seg.start ≡ from = ap (λ (x : Row). x.seg.start) e ∙ t.0 in
    let n : a.seg.len ≡ r.seg.len = ap (λ (x : Row). x.seg.len) e in
    let i = row-between (from + r.seg.len) to rows b t.1 h in
    let same : pos ca.n ≡ pos cb.n = sym ca.is ∙ cb.is in
    let q : ca.n ≡ cb.n = cc in
    omega (arith, i.0, ca.high, cb.low)

-- one row alone covers a position
pub one-row : (from to : ℕ) (rows : List Row) (a b : Row) (z : ℤ) → TouchFrom from (map seg_of rows) to → Has a rows → Has b rows → IsCovered a.seg z → IsCovered b.seg z → a ≡ b
one-row from to [] a b z t ha hb ca cb = absurd ha
one-row from to (r ∷ rows) a b z t (inl ea) (inl eb) ca cb = ea ∙ sym eb
one-row from to (r ∷ rows) a b z t (inl ea) (inr hb) ca cb = absurd (apart from to r rows a b z t ea hb ca cb)
one-row from to (r ∷ rows) a b z t (inr ha) (inl eb) ca cb = absurd (apart from to r rows b a z t eb ha cb ca)
one-row from to (r ∷ rows) a b z t (inr ha) (inr hb) ca cb = one-row (from + r.seg.len) to rows a b z t.1 ha hb ca cb

-- ---- the rows of a sound cut

pub row-sound : (d : ℕ) (rows : List Row) (a : Row) → All (IsSoundRow d) rows → Has a rows → IsSoundRow d a
row-sound d [] a all h = absurd h
row-sound d (r ∷ rows) a all (inl e) = subst (IsSoundRow d) (sym e) (All-head (IsSoundRow d) r rows all)
row-sound d (r ∷ rows) a all (inr h) = row-sound d rows a (All-tail (IsSoundRow d) r rows all) h

track-sound : (cut : Cut) (i : ℕ) → All IsSoundTrack cut → i < length cut → IsSoundTrack (track_at cut i)
track-sound [] i all lt = absurd (omega arith)
track-sound (t ∷ cut) zero all lt = All-head IsSoundTrack t cut all
track-sound (t ∷ cut) (suc i) all lt = track-sound cut i (All-tail IsSoundTrack t cut all) (omega arith)

pub sound-track : (cut : Cut) (i : ℕ) → IsSound cut → i < length cut → IsSoundTrack (track_at cut i)
sound-track cut i sound lt = track-sound cut i sound.tracks lt

-- a row of a track lies in it
pub record LiesIn (len : ℕ) (row : Row) : Type 0 where
  pub some : 0 < row.seg.len
  pub within : row.seg.start + row.seg.len ≤ len
  pub few : len ≤ 2 ^ 20

pub lies-in : (cut : Cut) (i : ℕ) (row : Row) → IsSound cut → i < length cut → Has row (track_at cut i).rows → LiesIn (track_at cut i).len row
lies-in cut i row sound lt there =
    let s = sound-track cut i sound lt in
    record {
      some = (row-sound (track_at cut i).greatest (track_at cut i).rows row s.rows there).some;
      within = (row-between 0 (track_at cut i).len (track_at cut i).rows row s.touch there).1;
      few = s.few;
    }

-- of the rows of a track one alone covers a position
pub one-of-track : (cut : Cut) (i : ℕ) (a b : Row) (z : ℤ) → IsSound cut → i < length cut → Has a (track_at cut i).rows → Has b (track_at cut i).rows
    → covers a.seg z ≡ true → covers b.seg z ≡ true → a ≡ b
one-of-track cut i a b z sound lt ha hb ca cb =
    one-row 0 (track_at cut i).len (track_at cut i).rows a b z (sound-track cut i sound lt).touch ha hb (covered a.seg z ca) (covered b.seg z cb)

-- ---- places

pub band-behind : (cut : Cut) (i j : ℕ) → i < j → band_of cut i + blocks (track_at cut i).len ≤ band_of cut j
band-behind cut i zero lt = absurd (omega arith)
band-behind cut i (suc j) lt = elim (cases_lt i j) [
  | inl before ↦ let h = band-behind cut i j before in omega arith
  | inr ge ↦ let e : i ≡ j = omega arith in rw e (omega arith)
]

in-band : (start len : ℕ) → start < len → start / 16 < blocks len
in-band start len lt = omega arith

pub place-in : (cut : Cut) (i : ℕ) (row : Row) → IsSound cut → i < length cut → Has row (track_at cut i).rows
    → place_of cut i row < band_of cut i + blocks (track_at cut i).len
place-in cut i row sound lt there =
    let l = lies-in cut i row sound lt there in
    let s = l.some in
    let w = l.within in
    let b = in-band row.seg.start (track_at cut i).len (omega arith) in
    omega arith

pub place-within : (cut : Cut) (i : ℕ) (row : Row) → IsSound cut → i < length cut → Has row (track_at cut i).rows
    → place_of cut i row < band_of cut (length cut)
place-within cut i row sound lt there =
    let p = place-in cut i row sound lt there in
    let b = band-behind cut i (length cut) lt in
    omega arith

same-start : (s t a b : ℕ) → s ≡ 16 * a → t ≡ 16 * b → s / 16 ≡ t / 16 → s ≡ t
same-start s t a b e f h = omega arith

-- rows that begin at borders of blocks have a place each
pub record IsSameRow (i j : ℕ) (a b : Row) : Type 0 where
  pub track : i ≡ j
  pub row : a ≡ b

abbrev pub AtBorders : Cut → Type 0
AtBorders cut = (i : ℕ) (row : Row) → i < length cut → Has row (track_at cut i).rows → (b : ℕ) × (row.seg.start ≡ 16 * b)

one-track : (cut : Cut) (i : ℕ) (a b : Row) → IsSound cut → AtBorders cut → i < length cut → Has a (track_at cut i).rows → Has b (track_at cut i).rows
    → a.seg.start / 16 ≡ b.seg.start / 16 → a ≡ b
one-track cut i a b sound borders lt ha hb e =
    let ba = borders i a lt ha in
    let bb = borders i b lt hb in
    let s = same-start a.seg.start b.seg.start ba.0 bb.0 ba.1 bb.1 e in
    let la = (lies-in cut i a sound lt ha).some in
    let lb = (lies-in cut i b sound lt hb).some in
    one-of-track cut i a b (pos a.seg.start) sound lt ha hb (covers-at a.seg a.seg.start (omega arith) (omega arith)) (covers-at b.seg a.seg.start (omega arith) (omega arith))

pub one-place : (cut : Cut) (i j : ℕ) (a b : Row) → IsSound cut → AtBorders cut → i < length cut → j < length cut → Has a (track_at cut i).rows → Has b (track_at cut j).rows
    → place_of cut i a ≡ place_of cut j b → IsSameRow i j a b
one-place cut i j a b sound borders li lj ha hb e =
    let pa = place-in cut i a sound li ha in
    let pb = place-in cut j b sound lj hb in
    elim (cases_lt i j) [
      | inl lt ↦ let h = band-behind cut i j lt in absurd (omega arith)
      | inr ge ↦ elim (cases_lt j i) [
        | inl lt ↦ let h = band-behind cut j i lt in absurd (omega arith)
        | inr le ↦
            let same : j ≡ i = omega arith in
            let hb' : Has b (track_at cut i).rows = subst (λ k. Has b (track_at cut k).rows) same hb in
            let bands : band_of cut j ≡ band_of cut i = ap (band_of cut) same in
            record { track = sym same; row = one-track cut i a b sound borders li ha hb' (omega arith) }
      ]
    ]

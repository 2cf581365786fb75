-- What is kept by pieces is what a cut says position by position.
use Rattle.std.proofs.Common.{◌≡◌, ℕ, ◌+◌, ◌-◌, ◌*◌, ◌<◌, cond, Bool, true, false, inl, inr, ℤ, pos, ◌+ℤ◌, List, [], ◌∷◌, refl, sym, ap, ap₂, subst, ◌∙◌, arith}
use Rattle.std.specs.List.{sum_by}
use Rattle.std.proofs.lemmas.Bool.{cases_lt}
use Rattle.std.proofs.lemmas.List.Sums.{sum_by-cons}
use Rattle.std.proofs.lemmas.Slice.Eq.{bytes_eq-Decides}
use Rattle.semantics.specs.Measures.{names_in}
use Rattle.semantics.specs.Names.{same_name}
use Rattle.semantics.specs.Sums.{most_below}
use Rattle.semantics.specs.Term.{Term}
use Rattle.segment.specs.declared.segments.Seg.{Seg}
use Rattle.bounds.specs.Cut.{charge_by, charge_part, entry_error, error_by, estimate_from, greatest_weight, occurrence_at, segs_of, sum_error, weight_at, weight_in, AreDistinct, Entry, IsNew}
use Rattle.bounds.specs.Segments.{covers}
use Rattle.descent.specs.declared.readers.Reader.{Reader}
use Rattle.descent.specs.Choice.{Has}
use Rattle.descent.specs.Kept.{behind, kept_in, kept_weight, IsKept, Kept, KeptSaysAfresh}
use Rattle.descent.specs.Readers.{reader_at, rows_read, track_at, AreReadersOf}
use Rattle.descent.specs.Rows.{entries, segs_of_rows, Cut, Row}
use Rattle.descent.specs.Sound.{IsSound}
use Rattle.descent.proofs.TileLaws.{most_below-none, most_below-same, sum_below-same, tiles-most, tiles-total}
use Rattle.descent.proofs.TrackLaws.{flipped, row-of, same-itself, segs-of-track}

-- ---- the greatest weight in a row

-- on a piece on which an occurrence stays in a segment or outside of it
piece-most : (w : ℕ → ℕ) (g : Seg) (at : ℤ) (from len most : ℕ) → 0 < len → most ≡ most_below (behind w from) len
    → ((i : ℕ) → i < len → covers g (at +ℤ pos (from + i)) ≡ covers g (at +ℤ pos from))
    → cond (covers g (at +ℤ pos from)) most 0 ≡ most_below (behind (weight_in w at g) from) len
piece-most w g at from len most some is still = by (covers g (at +ℤ pos from)) refl
  where
    by : (b : Bool) → covers g (at +ℤ pos from) ≡ b
        → cond b most 0 ≡ most_below (behind (weight_in w at g) from) len
    by true e =
        let each : (i : ℕ) → i < len → behind w from i ≡ behind (weight_in w at g) from i =
        λ i lt. sym (ap (λ b. cond b (w (from + i)) 0) (still i lt ∙ e)) in
        is ∙ most_below-same (behind w from) (behind (weight_in w at g) from) len each
    by false e =
        sym (most_below-none (behind (weight_in w at g) from) len
        (λ i lt. ap (λ b. cond b (w (from + i)) 0) (still i lt ∙ e)))

free : (b : Bool) (k : ℕ) → k ≡ 0 → cond b k 0 ≡ 0
free true k e = e
free false k e = refl

pub row-most : (cut : Cut) (t : Term) (l : ℤ) (n : ℕ) (rs : List Reader) (offset : ℕ → ℕ) (cells : ℕ) (kept : Kept)
    (o : ℕ) (row : Row) → IsKept cut t l n rs offset cells kept → o < names_in t
    → Has row (rows_read cut (reader_at rs o))
    → most_below (kept_in offset (kept.weights o) (reader_at rs o).at row.seg) cells
    ≡ most_below (weight_in (weight_at (segs_of (entries cut)) t l o) (reader_at rs o).at row.seg) n
row-most cut t l n rs offset cells kept o row is below there =
    let at = (reader_at rs o).at in
    let w = weight_at (segs_of (entries cut)) t l o in
    tiles-most kept.lens offset (kept_in offset (kept.weights o) at row.seg) (weight_in w at row.seg) cells n
    is.offsets is.tiled
    (λ c some.
    let piece = is.pieces c some in
    let within = (is.tiled.each c some).within in
    let up = is.offsets.rising c (c + kept.lens c) (omega arith) within in
    piece-most w row.seg at (offset c) (offset (c + kept.lens c) - offset c) (kept.weights o c) (omega arith)
    (piece.said.greatest o below) (piece.still o row below there))
    (λ c none. free (covers row.seg (at +ℤ pos (offset c))) (kept.weights o c) ((is.blank c none).weights o))

-- ---- charges

pub part-free : (weight : ℕ → ℤ → Seg → ℕ) (t : Term) (l : ℤ) (name : List ℕ) (g : Seg) (o : ℕ) → g.l ≡ 0
    → charge_part weight t l name g o ≡ 0
part-free weight t l name g o z = by (same_name name (occurrence_at t l o).name)
  where
    by : (b : Bool) → cond b (g.l * weight o (occurrence_at t l o).at g) 0 ≡ 0
    by true = rw z (omega arith)
    by false = refl

kept-part : (cut : Cut) (t : Term) (l : ℤ) (n : ℕ) (rs : List Reader) (offset : ℕ → ℕ) (cells : ℕ) (kept : Kept)
    (name : List ℕ) (g : Seg) (o : ℕ) → IsSound cut → AreReadersOf cut t l n rs
    → IsKept cut t l n rs offset cells kept → Has g (segs_of (entries cut) name) → o < names_in t
    → charge_part (kept_weight offset kept cells) t l name g o
    ≡ charge_part (greatest_weight (segs_of (entries cut)) t l n) t l name g o
kept-part cut t l n rs offset cells kept name g o sound readers is there below = elim (cases_lt 0 g.l) [
  | inr none ↦
      let z : g.l ≡ 0 = omega arith in
      part-free (kept_weight offset kept cells) t l name g o z
      ∙ sym (part-free (greatest_weight (segs_of (entries cut)) t l n) t l name g o z)
  | inl some ↦ by (same_name name (occurrence_at t l o).name) refl some
]
  where
    by : (b : Bool) → same_name name (occurrence_at t l o).name ≡ b → 0 < g.l
        → cond b (g.l * kept_weight offset kept cells o (occurrence_at t l o).at g) 0
        ≡ cond b (g.l * greatest_weight (segs_of (entries cut)) t l n o (occurrence_at t l o).at g) 0
    by false e some = refl
    by true e some =
        let r = readers.each o below in
        let k = (reader_at rs o).track in
        let same : name ≡ (track_at cut k).name =
        (bytes_eq-Decides name (occurrence_at t l o).name).0 e ∙ sym r.name in
        let own : Has g (segs_of_rows (track_at cut k).rows) =
        subst (Has g) (segs-of-track cut k sound.apart r.track)
        (subst (λ x. Has g (segs_of (entries cut) x)) same there) in
        let f = row-of (track_at cut k).rows g some own in
        let m = row-most cut t l n rs offset cells kept o f.row is below f.there in
        let moved : kept_weight offset kept cells o (occurrence_at t l o).at g
        ≡ greatest_weight (segs_of (entries cut)) t l n o (occurrence_at t l o).at g =
        rw (f.same, ← r.at) m in
        ap (λ w. g.l * w) moved

pub kept-charge : (cut : Cut) (t : Term) (l : ℤ) (n : ℕ) (rs : List Reader) (offset : ℕ → ℕ) (cells : ℕ) (kept : Kept)
    (name : List ℕ) (g : Seg) → IsSound cut → AreReadersOf cut t l n rs → IsKept cut t l n rs offset cells kept
    → Has g (segs_of (entries cut) name) → charge_by (kept_weight offset kept cells) t l name g
    ≡ charge_by (greatest_weight (segs_of (entries cut)) t l n) t l name g
kept-charge cut t l n rs offset cells kept name g sound readers is there =
    sum_below-same (charge_part (kept_weight offset kept cells) t l name g)
    (charge_part (greatest_weight (segs_of (entries cut)) t l n) t l name g) (names_in t)
    (λ o below. kept-part cut t l n rs offset cells kept name g o sound readers is there below)

-- ---- the sum of the charges

sum_by-has : {A : Type 0} → (f g : A → ℕ) (xs : List A) → ((x : A) → Has x xs → f x ≡ g x) → sum_by f xs ≡ sum_by g xs
sum_by-has f g [] h = refl
sum_by-has f g (x ∷ xs) h =
    sum_by-cons f x xs ∙ ap₂ (λ a b. a + b) (h x (inl refl)) (sum_by-has f g xs (λ y m. h y (inr m)))
    ∙ sym (sum_by-cons g x xs)

-- of distinct entries each one's segments are those of its name
found-segs : (es : List Entry) (e : Entry) → AreDistinct es → Has e es → segs_of es e.name ≡ e.segs
found-segs [] e d h = absurd h
found-segs (x ∷ es) e d (inl q) =
    rw q (ap (λ b. cond b x.segs (segs_of es x.name)) (same-itself x.name))
found-segs (x ∷ es) e d (inr h) =
    ap (λ b. cond b x.segs (segs_of es e.name)) (other x.name es e d.0 h) ∙ found-segs es e d.1 h
  where
    other : (name : List ℕ) (es : List Entry) (e : Entry) → IsNew name es → Has e es → same_name name e.name ≡ false
    other name [] e n h = absurd h
    other name (y ∷ es) e n (inl q) = flipped name e.name (rw q n.0)
    other name (y ∷ es) e n (inr h) = other name es e n.1 h

kept-error : (cut : Cut) (t : Term) (l : ℤ) (n : ℕ) (rs : List Reader) (offset : ℕ → ℕ) (cells : ℕ) (kept : Kept)
    → IsSound cut → AreReadersOf cut t l n rs → IsKept cut t l n rs offset cells kept → AreDistinct (entries cut)
    → error_by (kept_weight offset kept cells) (entries cut) t l ≡ sum_error (entries cut) t l n
kept-error cut t l n rs offset cells kept sound readers is d =
    let es = entries cut in
    let w = kept_weight offset kept cells in
    let v = greatest_weight (segs_of es) t l n in
    sum_by-has (entry_error w t l) (entry_error v t l) es
    (λ e m. sum_by-has (charge_by w t l e.name) (charge_by v t l e.name) e.segs
    (λ g there. kept-charge cut t l n rs offset cells kept e.name g sound readers is
    (subst (Has g) (sym (found-segs es e d m)) there)))

pub kept_says_afresh : KeptSaysAfresh
kept_says_afresh = λ cut t l n rs offset cells kept sound readers is. record {
  estimate = tiles-total kept.lens offset kept.estimates (estimate_from (segs_of (entries cut)) t l) cells n
      is.offsets is.tiled (λ c some. (is.pieces c some).said.estimate) (λ c none. (is.blank c none).estimate);
  charges = λ name g there. kept-charge cut t l n rs offset cells kept name g sound readers is there;
  error = λ d. kept-error cut t l n rs offset cells kept sound readers is d;
}

-- A piece with one reader, which stays in a row.
use Rattle.std.proofs.Common.{◌≡◌, ℕ, ◌+◌, ◌<◌, max, true, ℤ, pos, ◌+ℤ◌, List, [], ◌∷◌, get_or, sym, ap, ◌∙◌, arith}
use Rattle.semantics.specs.Admission.{SumTerm}
use Rattle.semantics.specs.Term.{Term}
use Rattle.segment.specs.declared.segments.Seg.{Seg}
use Rattle.bounds.specs.Cut.{segs_of, weight_at}
use Rattle.bounds.specs.Segments.{covers, seg_at}
use Rattle.bounds.specs.Shape.{estimate_by, shape}
use Rattle.descent.specs.declared.readers.Reader.{Reader}
use Rattle.descent.specs.Kept.{IsSaid}
use Rattle.descent.specs.Readers.{rows_read, track_at}
use Rattle.descent.specs.Rows.{Row, Cut, entries, segs_of_row, segs_of_rows}
use Rattle.descent.specs.Said.{AllStay, AreRead, IsRowRead, ReadsAt}
use Rattle.descent.specs.Sound.{IsSoundRow}
use Rattle.descent.proofs.ReaderLaws.{reads-at}
use Rattle.descent.proofs.SayLaws.{one-estimate, one-gathered, one-weight, read-one, said-next, AreSame}
use Rattle.descent.proofs.Standing.{seg-of-rows, within-of}
use Rattle.descent.proofs.TrackLaws.{all-has}

pub record IsAloneIn (cut : Cut) (s : SumTerm) (t : Term) (l : ℤ) (r : Reader) (from n : ℕ) (row : Row) : Type 0 where
  pub read : AreRead cut s t l (r ∷ []) from n
  pub still : AllStay cut (r ∷ []) from n
  pub reads : IsRowRead cut from r row

pub alone-reads : (cut : Cut) (s : SumTerm) (t : Term) (l : ℤ) (r : Reader) (from n i : ℕ) → AreRead cut s t l (r ∷ []) from n → i < n → ReadsAt cut (from + i) r
alone-reads cut s t l r from n i h lt = reads-at cut s t l (r ∷ []) from n i 0 h lt (omega arith)

pub alone-covered : (cut : Cut) (s : SumTerm) (t : Term) (l : ℤ) (r : Reader) (from n i : ℕ) (row : Row) → IsAloneIn cut s t l r from n row → i < n → covers row.seg (r.at +ℤ pos (from + i)) ≡ true
alone-covered cut s t l r from n i row h lt = h.still 0 row (omega arith) h.reads.there i lt ∙ h.reads.covered

pub alone-sound : (cut : Cut) (s : SumTerm) (t : Term) (l : ℤ) (r : Reader) (from n : ℕ) (row : Row) → IsAloneIn cut s t l r from n row → (d : ℕ) × IsSoundRow d row
alone-sound cut s t l r from n row h =
    let track = track_at cut r.track in
    let at = alone-reads cut s t l r from n 0 h.read h.read.some in
    (track.greatest, all-has (IsSoundRow track.greatest) track.rows row at.sound.rows h.reads.there)

-- the segment of its row at an offset is what it reads there
pub alone-same : (cut : Cut) (s : SumTerm) (t : Term) (l : ℤ) (r : Reader) (from n i p : ℕ) (row : Row) (g : Seg) → IsAloneIn cut s t l r from n row → i < n → pos p ≡ (r.at +ℤ pos (from + i))
    → g ≡ seg_at (segs_of_row row) (pos p) → AreSame cut s t l (r ∷ []) (from + i) 1 (g ∷ [])
alone-same cut s t l r from n i p row g h lt at is =
    let track = track_at cut r.track in
    let reads = alone-reads cut s t l r from n i h.read lt in
    let w = within-of row.seg p (ap (covers row.seg) at ∙ alone-covered cut s t l r from n i row h lt) in
    let whole = seg-of-rows track.greatest 0 track.len p track.rows row reads.sound.rows reads.sound.touch h.reads.there w in
    one-gathered cut s t l (r ∷ []) (from + i) (g ∷ []) (read-one cut s t l (r ∷ []) from n i h.read lt)
    (ap (λ (x : Seg). let gs : List Seg = x ∷ [] in gs) (is ∙ sym whole ∙ ap (seg_at (segs_of_rows (rows_read cut r))) at))

-- one offset more
pub alone-next : (cut : Cut) (s : SumTerm) (t : Term) (l : ℤ) (r : Reader) (from i : ℕ) (g : Seg) (x y : ℤ) (v u w : ℕ) → AreSame cut s t l (r ∷ []) (from + i) 1 (g ∷ []) → IsSaid cut t l from i x (λ _. v)
    → y ≡ estimate_by t (g ∷ []) (l +ℤ pos (from + i)) → u ≡ get_or (shape t (g ∷ [])).weights 0 0 → w ≡ max v u → IsSaid cut t l from (i + 1) (x +ℤ y) (λ _. w)
alone-next cut s t l r from i g x y v u w same said estimate weight most =
    let count = same.read.readers.count in
    let rs : List Reader = r ∷ [] in
    let gs : List Seg = g ∷ [] in
    let here = weight ∙ one-weight cut s t l rs (from + i) gs 0 same (omega arith) in
    said-next cut t l from i x y (λ _. v) (λ _. w) said (estimate ∙ one-estimate cut s t l rs (from + i) gs same)
    (λ o lt.
    let z : 0 ≡ o = omega arith in
    most ∙ ap (max v) (here ∙ ap (λ k. weight_at (segs_of (entries cut)) t l k (from + i)) z))

-- What a cut says of offsets at which every reader reads the same segment.
use Rattle.std.proofs.Common.{◌≡◌, ℕ, zero, suc, ◌+◌, ◌-◌, ◌*◌, ◌^◌, ◌<◌, ◌≤◌, max, true, inl, inr, ◌⊎◌, ℤ, pos, ◌+ℤ◌, unsigned_abs, List, length, map, get_or, arith, refl, sym, ap, ap₂, subst, ◌∙◌}
use Rattle.std.specs.Prelude.{min, replicate, Result, Ok, Err, IfOk, OnOk}
use Rattle.std.proofs.lemmas.Bool.{cases_lt}
use Rattle.std.proofs.Math.Nat.{mul-le-mul}
use Rattle.std.proofs.lemmas.Int.{ints}
use Rattle.std.proofs.lemmas.List.{get_or-map, length-map, ext_get_or}
use Rattle.semantics.specs.Admission.{SumTerm}
use Rattle.semantics.specs.Measures.{names_in, rank_of, InRange}
use Rattle.semantics.specs.Sums.{most_below, total_below}
use Rattle.semantics.specs.Term.{Term}
use Rattle.semantics.proofs.SumLaws.{abs-total_below, total_below-same}
use Rattle.segment.specs.declared.segments.Seg.{Seg}
use Rattle.segment.specs.Measure.{unit}
use Rattle.poly.specs.Terms.{norm_at}
use Rattle.power_sum.specs.Totals.{total_of, value_in}
use Rattle.bounds.specs.Cut.{Occurrence, estimate_from, occurrence_at, occurrences, segs_of, weight_at}
use Rattle.bounds.specs.Magnitudes.{estimate_bound}
use Rattle.bounds.specs.Pieces.{IsPiece}
use Rattle.bounds.specs.Reads.{AreCovered, AreSane, IsSaneRead, Spans}
use Rattle.bounds.specs.Segments.{covers, no_seg, seg_at, HasSaneSegs, OfEachName}
use Rattle.bounds.specs.Shape.{estimate_by, shape}
use Rattle.bounds.proofs.NumberBounds.{numbers_within}
use Rattle.bounds.proofs.OccurrenceLaws.{at_occurrence}
use Rattle.bounds.proofs.PieceLaws.{by_pieces}
use Rattle.bounds.proofs.ReadLaws.{over_each, sane_seg, spans_piece, AtPlace}
use Rattle.bounds.proofs.ShapeLaws.{rank-shape}
use Rattle.bounds.proofs.SmallLaws.{magnitudes_of, whole_fits, Magnitudes}
use Rattle.bounds.proofs.Sums.{most_below-run}
use Rattle.expr.proofs.Ranks.{rank_le_names}
use Rattle.error_prop.specs.declared.local.Local.{Local}
use Rattle.error_prop.specs.Locals.{IsInRangeOver}
use Rattle.error_prop.specs.Pointwise.{IsLocalWithin}
use Rattle.error_prop.proofs.Locals.{IsLocalOf}
use Rattle.error_prop.proofs.ReadLaws.{read_where}
use Rattle.error_prop.proofs.SweepLaws.{SumsUp}
use Rattle.error_prop.specs.Places.{end_of_name}
use Rattle.descent.specs.declared.readers.Reader.{Reader}
use Rattle.descent.specs.Kept.{behind, IsSaid, StaysIn}
use Rattle.descent.specs.Choice.{Has}
use Rattle.descent.specs.Readers.{no_reader, reader_at, rows_read, track_at}
use Rattle.descent.specs.Rows.{Row, Cut, entries, segs_of_rows}
use Rattle.descent.specs.Said.{seg_read, AllStay, AreRead, ReadsAt, ReadsClosed, ReadTheSame, SomeComes, StaysFor}
use Rattle.descent.specs.Standing.{IsEndOver}
use Rattle.descent.proofs.ReaderLaws.{few-offsets, found-in, place-read, range-is, reads-at, reads-read, seg-covers}
use Rattle.descent.proofs.Standing.{seg-closed, seg-of-rows, stays-in, within-of}
use Rattle.descent.proofs.TrackLaws.{segs-of-track}

-- offsets at which the readers read the same segments, which are these
pub record AreSame (cut : Cut) (s : SumTerm) (t : Term) (l : ℤ) (rs : List Reader) (offset len : ℕ) (gs : List Seg) : Type 0 where
  pub read : AreRead cut s t l rs offset len
  pub same : ReadTheSame cut rs offset len
  pub segs : gs ≡ map (seg_read cut offset) rs

-- the segment of an occurrence
seg-of : (cut : Cut) (s : SumTerm) (t : Term) (l : ℤ) (rs : List Reader) (offset len : ℕ) (gs : List Seg) (o : ℕ) → AreSame cut s t l rs offset len gs → o < length rs → get_or gs o no_seg ≡ seg_read cut offset (reader_at rs o)
seg-of cut s t l rs offset len gs o h lt = ap (λ (xs : List Seg). get_or xs o no_seg) h.segs ∙ get_or-map (seg_read cut offset) rs o no_reader no_seg lt

pub length-segs : (cut : Cut) (s : SumTerm) (t : Term) (l : ℤ) (rs : List Reader) (offset len : ℕ) (gs : List Seg) → AreSame cut s t l rs offset len gs → length gs ≡ names_in t
length-segs cut s t l rs offset len gs h = ap length h.segs ∙ length-map rs (seg_read cut offset) ∙ h.read.readers.count

pub same-piece : (cut : Cut) (s : SumTerm) (t : Term) (l : ℤ) (rs : List Reader) (offset len : ℕ) (gs : List Seg) → AreSame cut s t l rs offset len gs → IsPiece (segs_of (entries cut)) t l offset len gs
same-piece cut s t l rs offset len gs h = record {
  some = let some = h.read.some in omega arith;
  same = λ j lt.
      let a = length-map rs (seg_read cut (offset + j)) in
      let b = length-map rs (seg_read cut offset) in
      reads-read cut s t l rs offset len j h.read lt
      ∙ ext_get_or no_seg (map (seg_read cut (offset + j)) rs) (map (seg_read cut offset) rs) (a ∙ sym b)
      (λ o below.
      let k : o < length rs = omega arith in
      get_or-map (seg_read cut (offset + j)) rs o no_reader no_seg k ∙ h.same o j k lt ∙ sym (get_or-map (seg_read cut offset) rs o no_reader no_seg k))
      ∙ sym h.segs;
}

-- a fact of an occurrence and the segment that it reads
at-place : (P : List ℕ → ℤ → Seg → Type 0) (t : Term) (l : ℤ) (offset o : ℕ) (gs : List Seg) → o < names_in t → P (occurrence_at t l o).name ((occurrence_at t l o).at +ℤ pos offset) (get_or gs o no_seg) → AtPlace P (occurrences t (l +ℤ pos offset)) gs o
at-place P t l offset o gs lt p = subst (λ (x : Occurrence). P x.name x.at (get_or gs o no_seg)) (sym (read_where t l offset o lt)) p

pub same-covered : (cut : Cut) (s : SumTerm) (t : Term) (l : ℤ) (rs : List Reader) (offset len : ℕ) (gs : List Seg) → AreSame cut s t l rs offset len gs → AreCovered t gs (l +ℤ pos offset) len
same-covered cut s t l rs offset len gs h =
    over_each (Spans len) t gs (l +ℤ pos offset)
    (λ o lt.
    let count = h.read.readers.count in
    let k : o < length rs = omega arith in
    let some = h.read.some in
    let r = h.read.readers.each o lt in
    at-place (Spans len) t l offset o gs lt
    (spans_piece (get_or gs o no_seg) ((occurrence_at t l o).at +ℤ pos offset) len (omega arith)
    (λ j below.
    let c = seg-covers cut (offset + j) (reader_at rs o) (reads-at cut s t l rs offset len j o h.read below k) in
    let z : (occurrence_at t l o).at +ℤ pos offset +ℤ pos j ≡ (reader_at rs o).at +ℤ pos (offset + j) = omega (arith, ints, r.at) in
    ap₂ (λ (g : Seg) (x : ℤ). covers g x) (seg-of cut s t l rs offset len gs o h k ∙ sym (h.same o j k below)) z ∙ c)))

pub same-sane : (cut : Cut) (s : SumTerm) (t : Term) (l : ℤ) (rs : List Reader) (offset len : ℕ) (gs : List Seg) (D : List ℕ → ℕ) (n : ℕ) → AreSame cut s t l rs offset len gs
    → OfEachName (HasSaneSegs D n (segs_of (entries cut))) t → AreSane D n t gs (l +ℤ pos offset)
same-sane cut s t l rs offset len gs D n h sane =
    over_each (IsSaneRead D n) t gs (l +ℤ pos offset)
    (λ o lt.
    let count = h.read.readers.count in
    let k : o < length rs = omega arith in
    let some = h.read.some in
    let r = h.read.readers.each o lt in
    let z : offset + 0 ≡ offset = omega arith in
    let at = subst (λ x. ReadsAt cut x (reader_at rs o)) z (reads-at cut s t l rs offset len 0 o h.read some k) in
    let p = place-read cut offset (reader_at rs o) at in
    let f = found-in (track_at cut (reader_at rs o).track) p.0 at.sound p.2 in
    let C = segs_of (entries cut) in
    let own : C (occurrence_at t l o).name ≡ segs_of_rows (rows_read cut (reader_at rs o)) = ap C (sym r.name) ∙ segs-of-track cut (reader_at rs o).track h.read.sum.can.sound.apart r.track in
    let all = at_occurrence (HasSaneSegs D n C) t l o sane lt in
    let below : f.k < length (C (occurrence_at t l o).name) = subst (λ (xs : List Seg). f.k < length xs) (sym own) f.below in
    let g : get_or gs o no_seg ≡ get_or (C (occurrence_at t l o).name) f.k no_seg =
    seg-of cut s t l rs offset len gs o h k ∙ ap (seg_at (segs_of_rows (rows_read cut (reader_at rs o)))) (sym p.1) ∙ f.found ∙ ap (λ (xs : List Seg). get_or xs f.k no_seg) (sym own) in
    at-place (IsSaneRead D n) t l offset o gs lt
    (subst (λ (x : Seg). IsSaneRead D n (occurrence_at t l o).name ((occurrence_at t l o).at +ℤ pos offset) x) (sym g) (sane_seg (D (occurrence_at t l o).name) n (C (occurrence_at t l o).name) f.k all below)))

-- ---- sizes

pub record IsFew (cut : Cut) (s : SumTerm) (l : ℤ) (offset len : ℕ) (n : ℕ) : Type 0 where
  pub few : offset + len ≤ n
  pub room : offset + len ≤ 2 ^ 41
  pub near : unsigned_abs (l +ℤ pos offset) ≤ 2 ^ 46

-- offsets are few, and their positions near
pub few-read : (cut : Cut) (s : SumTerm) (t : Term) (l : ℤ) (rs : List Reader) (offset len : ℕ) (h : AreRead cut s t l rs offset len) → IsFew cut s l offset len h.sum.can.admitted.n
few-read cut s t l rs offset len h =
    let can = h.sum.can in
    let r = range-is (end_of_name (entries cut)) s.series s.range in
    let some = h.some in
    let within = h.within in
    let room = can.room in
    let right = r.right (omega arith) in
    record {
      few = omega (arith, within, r.count, can.admitted.few);
      room = omega arith;
      near = omega (arith, ints, h.sum.first, can.near, can.end, right, within, some);
    }

pub same-in-range : (cut : Cut) (s : SumTerm) (t : Term) (l : ℤ) (rs : List Reader) (offset len : ℕ) (gs : List Seg) → AreSame cut s t l rs offset len gs → IsInRangeOver t gs (l +ℤ pos offset)
same-in-range cut s t l rs offset len gs h =
    let a = h.read.sum.can.admitted in
    let few = (few-read cut s t l rs offset len h.read).few in
    let some = h.read.some in
    record {
      greatest = a.greatest;
      n = a.n;
      some = omega arith;
      in_range = subst (InRange a.greatest a.n) h.read.sum.series a.in_range;
      sane = same-sane cut s t l rs offset len gs a.greatest a.n h (subst (OfEachName (HasSaneSegs a.greatest a.n (segs_of (entries cut)))) h.read.sum.series a.sane);
    }

magnitudes : (cut : Cut) (s : SumTerm) (t : Term) (l : ℤ) (rs : List Reader) (offset len : ℕ) (h : AreRead cut s t l rs offset len) → Magnitudes h.sum.can.admitted.greatest h.sum.can.admitted.n t
magnitudes cut s t l rs offset len h =
    let a = h.sum.can.admitted in
    let few = (few-read cut s t l rs offset len h).few in
    let some = h.some in
    magnitudes_of a.greatest a.n t (omega arith) (whole_fits a.greatest a.n t (subst (InRange a.greatest a.n) h.sum.series a.in_range))

pub same-sums-up : (cut : Cut) (s : SumTerm) (t : Term) (l : ℤ) (rs : List Reader) (offset len : ℕ) (gs : List Seg) (m : Local) → AreSame cut s t l rs offset len gs → IsLocalOf m len t gs (l +ℤ pos offset)
    → ((D : List ℕ → ℕ) (n : ℕ) → AreSane D n t gs (l +ℤ pos offset) → IsLocalWithin D n t gs m len) → SumsUp m.poly.c len
same-sums-up cut s t l rs offset len gs m h k within =
    let a = h.read.sum.can.admitted in
    let sane = same-sane cut s t l rs offset len gs a.greatest a.n h (subst (OfEachName (HasSaneSegs a.greatest a.n (segs_of (entries cut)))) h.read.sum.series a.sane) in
    let w = within a.greatest a.n sane in
    let u = magnitudes cut s t l rs offset len h.read in
    let f = few-read cut s t l rs offset len h.read in
    let few = f.few in
    let n : len ≤ a.n = omega arith in
    let b : len * norm_at m.poly.c len ≤ a.n * (unit ^ rank_of t * estimate_bound a.greatest t) = mul-le-mul n w.norm in
    record {
      few = omega (arith, f.room);
      fewer = λ some.
          let names : 1 ≤ names_in t = omega (arith, some, k.degree, rank-shape t gs, rank_le_names t) in
          let short = few-offsets cut s t l rs offset len h.read (omega (arith, names, h.read.readers.count)) in
          omega arith;
      small = omega (arith, b, u.both);
    }

-- the estimate of some offsets is small
pub estimate-small : (cut : Cut) (s : SumTerm) (t : Term) (l : ℤ) (rs : List Reader) (from n i : ℕ) → AreRead cut s t l rs from n → i ≤ n → unsigned_abs (total_below (behind (estimate_from (segs_of (entries cut)) t l) from) i) ≤ 2 ^ 125
estimate-small cut s t l rs from n i h le =
    let a = h.sum.can.admitted in
    let u = magnitudes cut s t l rs from n h in
    let few = (few-read cut s t l rs from n h).few in
    let sane = subst (OfEachName (HasSaneSegs a.greatest a.n (segs_of (entries cut)))) h.sum.series a.sane in
    let k = unit ^ rank_of t * estimate_bound a.greatest t in
    let b = abs-total_below (behind (estimate_from (segs_of (entries cut)) t l) from) i k (λ j lt. (numbers_within.forms a.greatest a.n (segs_of (entries cut)) t (l +ℤ pos (from + j)) sane).estimate) in
    let c : i * k ≤ a.n * k = mul-le-mul (omega arith) (omega arith) in
    omega (arith, b, c, u.both)

pub read-one : (cut : Cut) (s : SumTerm) (t : Term) (l : ℤ) (rs : List Reader) (from n i : ℕ) → AreRead cut s t l rs from n → i < n → AreRead cut s t l rs (from + i) 1
read-one cut s t l rs from n i h lt = let within = h.within in record { sum = h.sum; readers = h.readers; some = omega arith; within = omega arith }

-- that of a single one too
pub one-small : (cut : Cut) (s : SumTerm) (t : Term) (l : ℤ) (rs : List Reader) (from n i : ℕ) → AreRead cut s t l rs from n → i < n → unsigned_abs (estimate_from (segs_of (entries cut)) t l (from + i)) ≤ 2 ^ 125
one-small cut s t l rs from n i h lt =
    let z : from + i + 0 ≡ from + i = omega arith in
    let b = estimate-small cut s t l rs (from + i) 1 1 (read-one cut s t l rs from n i h lt) (omega arith) in
    let e : total_below (behind (estimate_from (segs_of (entries cut)) t l) (from + i)) 1 ≡ estimate_from (segs_of (entries cut)) t l (from + i) = let f = ap (estimate_from (segs_of (entries cut)) t l) z in omega (arith, ints, f) in
    subst (λ x. unsigned_abs x ≤ 2 ^ 125) e b

-- ---- the estimate and the weights

pub same-total : (cut : Cut) (s : SumTerm) (t : Term) (l : ℤ) (rs : List Reader) (offset len : ℕ) (gs : List Seg) (m : Local) → AreSame cut s t l rs offset len gs → IsLocalOf m len t gs (l +ℤ pos offset)
    → total_of m.poly.c len ≡ total_below (behind (estimate_from (segs_of (entries cut)) t l) offset) len
same-total cut s t l rs offset len gs m h k =
    let b = by_pieces (segs_of (entries cut)) t l offset len gs (same-piece cut s t l rs offset len gs h) in
    total_below-same (value_in m.poly.c) (behind (estimate_from (segs_of (entries cut)) t l) offset) len
    (λ j lt.
    let z : l +ℤ pos offset +ℤ pos j ≡ l +ℤ pos (offset + j) = omega (arith, ints) in
    k.value (pos j) ∙ ap (estimate_by t gs) z ∙ sym (b.estimates j lt))

pub same-most : (cut : Cut) (s : SumTerm) (t : Term) (l : ℤ) (rs : List Reader) (offset len : ℕ) (gs : List Seg) (o : ℕ) → AreSame cut s t l rs offset len gs → o < names_in t
    → most_below (behind (weight_at (segs_of (entries cut)) t l o) offset) len ≡ get_or (shape t gs).weights o 0
same-most cut s t l rs offset len gs o h lt =
    let f = behind (weight_at (segs_of (entries cut)) t l o) offset in
    let w = get_or (shape t gs).weights o 0 in
    let b = by_pieces (segs_of (entries cut)) t l offset len gs (same-piece cut s t l rs offset len gs h) in
    let some = h.read.some in
    let z : 0 + len ≡ len = omega arith in
    let run = most_below-run f 0 len w (omega arith) (λ j below. let y : 0 + j ≡ j = omega arith in ap f y ∙ b.weights o j lt below) in
    ap (most_below f) (sym z) ∙ run ∙ omega arith

-- ---- closed rows

pub closed-same : (cut : Cut) (s : SumTerm) (t : Term) (l : ℤ) (rs : List Reader) (from n : ℕ) → AreRead cut s t l rs from n → AllStay cut rs from n → ((o : ℕ) → o < length rs → ReadsClosed cut from (reader_at rs o)) → ReadTheSame cut rs from n
closed-same cut s t l rs from n h still closed o i lo li =
    let z : from + 0 ≡ from = omega arith in
    here i li ∙ sym (ap (λ k. seg_read cut k (reader_at rs o)) (sym z) ∙ here 0 h.some)
  where
    here : (j : ℕ) → j < n → seg_read cut (from + j) (reader_at rs o) ≡ (closed o lo).over.row.seg
    here j lj =
        let r = reader_at rs o in
        let c = closed o lo in
        let row = c.over.row in
        let at = reads-at cut s t l rs from n j o h lj lo in
        let p = place-read cut (from + j) r at in
        let covered : covers row.seg (r.at +ℤ pos (from + j)) ≡ true = still o row lo c.over.there j lj ∙ ap (covers row.seg) (sym c.at) ∙ c.over.covered in
        let w = within-of row.seg p.0 (ap (covers row.seg) p.1 ∙ covered) in
        let track = track_at cut r.track in
        ap (seg_at (segs_of_rows (rows_read cut r))) (sym p.1)
        ∙ seg-of-rows track.greatest 0 track.len p.0 track.rows row at.sound.rows at.sound.touch c.over.there w
        ∙ seg-closed row p.0 (ap (λ (q : Row). q.readings) c.over.closed) w

pub one-same : (cut : Cut) (rs : List Reader) (offset : ℕ) → ReadTheSame cut rs offset 1
one-same cut rs offset o i lo li = let z : offset + i ≡ offset = omega arith in ap (λ k. seg_read cut k (reader_at rs o)) z

-- one offset of some
pub one-gathered : (cut : Cut) (s : SumTerm) (t : Term) (l : ℤ) (rs : List Reader) (offset : ℕ) (gs : List Seg) → AreRead cut s t l rs offset 1 → gs ≡ map (seg_read cut offset) rs → AreSame cut s t l rs offset 1 gs
one-gathered cut s t l rs offset gs h e = record { read = h; same = one-same cut rs offset; segs = e }

pub one-estimate : (cut : Cut) (s : SumTerm) (t : Term) (l : ℤ) (rs : List Reader) (offset : ℕ) (gs : List Seg) → AreSame cut s t l rs offset 1 gs
    → estimate_by t gs (l +ℤ pos offset) ≡ estimate_from (segs_of (entries cut)) t l offset
one-estimate cut s t l rs offset gs h =
    let b = by_pieces (segs_of (entries cut)) t l offset 1 gs (same-piece cut s t l rs offset 1 gs h) in
    let z : offset + 0 ≡ offset = omega arith in
    sym (subst (λ k. estimate_from (segs_of (entries cut)) t l k ≡ estimate_by t gs (l +ℤ pos k)) z (b.estimates 0 (omega arith)))

pub one-weight : (cut : Cut) (s : SumTerm) (t : Term) (l : ℤ) (rs : List Reader) (offset : ℕ) (gs : List Seg) (o : ℕ) → AreSame cut s t l rs offset 1 gs → o < names_in t
    → get_or (shape t gs).weights o 0 ≡ weight_at (segs_of (entries cut)) t l o offset
one-weight cut s t l rs offset gs o h lt =
    let b = by_pieces (segs_of (entries cut)) t l offset 1 gs (same-piece cut s t l rs offset 1 gs h) in
    let z : offset + 0 ≡ offset = omega arith in
    sym (subst (λ k. weight_at (segs_of (entries cut)) t l o k ≡ get_or (shape t gs).weights o 0) z (b.weights o 0 lt (omega arith)))

-- ---- one offset more

pub said-none : (cut : Cut) (t : Term) (l : ℤ) (from : ℕ) (w : ℕ → ℕ) → ((o : ℕ) → w o ≡ 0) → IsSaid cut t l from 0 (pos 0) w
said-none cut t l from w z = record { estimate = refl; greatest = λ o lt. z o }

pub said-next : (cut : Cut) (t : Term) (l : ℤ) (from i : ℕ) (x y : ℤ) (v w : ℕ → ℕ) → IsSaid cut t l from i x v → y ≡ estimate_from (segs_of (entries cut)) t l (from + i)
    → ((o : ℕ) → o < names_in t → w o ≡ max (v o) (weight_at (segs_of (entries cut)) t l o (from + i))) → IsSaid cut t l from (i + 1) (x +ℤ y) w
said-next cut t l from i x y v w h e m =
    let n : i + 1 ≡ suc i = omega arith in
    record {
      estimate = rw n (let a = h.estimate in omega (arith, ints, a, e));
      greatest = λ o lt. rw n (let a = h.greatest o lt in omega (arith, a, m o lt));
    }

pub said-whole : (cut : Cut) (t : Term) (l : ℤ) (from n : ℕ) (x : ℤ) (v w : ℕ → ℕ) → ((o : ℕ) → v o ≡ 0) → x ≡ total_below (behind (estimate_from (segs_of (entries cut)) t l) from) n
    → ((o : ℕ) → o < names_in t → w o ≡ max (v o) (most_below (behind (weight_at (segs_of (entries cut)) t l o) from) n)) → IsSaid cut t l from n x w
said-whole cut t l from n x v w z e m = record { estimate = e; greatest = λ o lt. let a = z o in omega (arith, a, m o lt) }

-- ---- how long a reader stays in its row

pub stays-for : (cut : Cut) (from : ℕ) (r : Reader) (p end : ℕ) → ReadsAt cut from r → pos p ≡ (r.at +ℤ pos from) → IsEndOver (rows_read cut r) (track_at cut r.track).len p end → (p < end) × StaysFor cut from r (end - p)
stays-for cut from r p end h e is =
    let w = within-of is.row.seg p is.covered in
    let low = w.low in
    let high = w.high in
    let q = is.end_is in
    let track = track_at cut r.track in (
      omega arith,
      record {
        some = omega arith;
        still = λ row there i lt.
            let a : pos (p + i) ≡ (r.at +ℤ pos (from + i)) = omega (arith, ints, e) in
            let z : p + 0 ≡ p = omega arith in
            ap (covers row.seg) (sym a) ∙ stays-in 0 track.len track.rows is.row row p (p + i) h.sound.touch is.there there w (record { low = omega arith; high = omega arith }) ∙ ap (covers row.seg) e;
        ends = ends is.border (omega arith);
      },
    )
  where
    ends : (end ≡ (track_at cut r.track).len) ⊎ ((k : ℕ) × (end ≡ 16 * k)) → p < end → ((r.at +ℤ pos (from + (end - p))) ≡ pos (track_at cut r.track).len) ⊎ ((k : ℕ) × ((r.at +ℤ pos (from + (end - p))) ≡ pos (16 * k)))
    ends (inl b) lt = inl (omega (arith, ints, e, b, lt))
    ends (inr (k, b)) lt = inr (k, omega (arith, ints, e, b, lt))

-- a stretch after one reader more
pub record IsStretch (cut : Cut) (rs : List Reader) (from most o len : ℕ) : Type 0 where
  pub some : 0 < len
  pub within : len ≤ most
  pub still : (k : ℕ) (row : Row) → k < o → Has row (rows_read cut (reader_at rs k)) → StaysIn (reader_at rs k).at from len row
  pub ends : (len ≡ most) ⊎ SomeComes rs (from + len)

pub next-stretch : (cut : Cut) (s : SumTerm) (t : Term) (l : ℤ) (rs : List Reader) (from most o len n new : ℕ) → AreRead cut s t l rs from most → o < length rs → IsStretch cut rs from most o len → StaysFor cut from (reader_at rs o) n → new ≡ min len n
    → IsStretch cut rs from most (o + 1) new
next-stretch cut s t l rs from most o len n new read lo h f e =
    let a = h.some in
    let b = f.some in
    let c = h.within in
    record {
      some = omega arith;
      within = omega arith;
      still = λ k row below there. elim (cases_lt k o) [
        | inl less ↦ λ i lt. h.still k row less there i (omega arith)
        | inr more ↦
            let same : o ≡ k = omega arith in
            λ i lt. subst (λ j. covers row.seg ((reader_at rs j).at +ℤ pos (from + i)) ≡ covers row.seg ((reader_at rs j).at +ℤ pos from)) same
            (f.still row (subst (λ j. Has row (rows_read cut (reader_at rs j))) (sym same) there) i (omega arith))
      ];
      ends = elim (cases_lt n len) [
        | inl less ↦ comes f.ends less
        | inr more ↦ let z : new ≡ len = omega arith in subst (λ k. (k ≡ most) ⊎ SomeComes rs (from + k)) (sym z) h.ends
      ];
    }
  where
    comes : ((reader_at rs o).at +ℤ pos (from + n) ≡ pos (track_at cut (reader_at rs o).track).len) ⊎ ((k : ℕ) × ((reader_at rs o).at +ℤ pos (from + n) ≡ pos (16 * k))) → n < len → (new ≡ most) ⊎ SomeComes rs (from + new)
    comes (inl q) less =
        let r = read.readers.each o (omega (arith, read.readers.count)) in
        let some = read.some in
        let within = read.within in
        let c = h.within in
        absurd (omega (arith, ints, r.until (omega arith), q))
    comes (inr (k, q)) less = let z : new ≡ n = omega arith in inr (record { o = o; below = lo; k = k; border = ap (λ x. (reader_at rs o).at +ℤ pos (from + x)) z ∙ q })

pub said-if-ok : {E : Type 0} → (cut : Cut) (t : Term) (l : ℤ) (from n : ℕ) (r : Result ℤ E) (v w : ℕ → ℕ) → ((o : ℕ) → v o ≡ 0) → IfOk r (λ e. e ≡ total_below (behind (estimate_from (segs_of (entries cut)) t l) from) n)
    → OnOk r ((o : ℕ) → o < names_in t → w o ≡ max (v o) (most_below (behind (weight_at (segs_of (entries cut)) t l o) from) n)) → IfOk r (λ e. IsSaid cut t l from n e w)
said-if-ok cut t l from n (Ok x) v w z e m = said-whole cut t l from n x v w z e m
said-if-ok cut t l from n (Err x) v w z e m = tt

pub zero-at : (n o : ℕ) → get_or {A = ℕ} (replicate n 0) o 0 ≡ 0
zero-at zero o = refl
zero-at (suc n) zero = refl
zero-at (suc n) (suc o) = zero-at n o

-- What the readers of a sum read, and that they are its occurrences.
use Rattle.std.proofs.Common.{◌≡◌, ℕ, zero, suc, ◌+◌, ◌-◌, ◌*◌, ◌/◌, ◌%◌, ◌^◌, ◌<◌, ◌≤◌, min, max, inl, inr, cond, Bool, true, false, ℤ, pos, negsuc, ◌+ℤ◌, ◌-ℤ◌, Option, Some, None, List, [], ◌∷◌, length, map, drop, get_or, arith, refl, sym, ap, ap₂, subst, ◌∙◌}
use Rattle.std.specs.Prelude.{◌≤ℤ◌, ◌<ℤ◌, not, is_some, find}
use Rattle.std.specs.List.{All}
use Rattle.std.proofs.Math.Nat.{mul-le-mul_left}
use Rattle.std.proofs.lemmas.Bool.{cases_lt, false≢true}
use Rattle.std.proofs.lemmas.Int.{ints, clamps}
use Rattle.std.proofs.lemmas.List.{get_or-map, length-map, ext_get_or}
use Rattle.std.proofs.lemmas.List.Elements.{All-head}
use Rattle.std.proofs.lemmas.Slice.Eq.{bytes_eq-Decides}
use Rattle.semantics.specs.Admission.{is_unknown, series_names, Fact, SumTerm}
use Rattle.semantics.specs.Admitted.{IsInDomain, IsKnown}
use Rattle.semantics.specs.Measures.{names_in}
use Rattle.semantics.specs.Names.{same_name}
use Rattle.semantics.specs.Readings.{from_zero, positions_in}
use Rattle.semantics.specs.Term.{Term, base, constant, bare, plus, minus, times, shift, Range}
use Rattle.semantics.specs.Value.{domain_of, range_or}
use Rattle.segment.specs.declared.segments.Seg.{Seg}
use Rattle.bounds.specs.Cut.{Occurrence, no_occurrence, occurrence_at, occurrences, segs_of}
use Rattle.bounds.specs.Segments.{covers, no_seg, seg_at, OfEachName, TouchFrom}
use Rattle.bounds.specs.Shape.{read_by, reads}
use Rattle.bounds.proofs.OccurrenceLaws.{at_occurrence, length-occurrences}
use Rattle.bounds.proofs.ReadLaws.{back_each, found_some}
use Rattle.bounds.proofs.ShapeLaws.{length-reads}
use Rattle.bounds.proofs.TouchLaws.{segs_found}
use Rattle.error_prop.specs.Entries.{end_from}
use Rattle.error_prop.specs.Places.{end_of_name}
use Rattle.error_prop.specs.QueryOver.{range_by}
use Rattle.error_prop.proofs.FrameLaws.{touch-end}
use Rattle.error_prop.proofs.ReadLaws.{domain_each, read_where, IsInside}
use Rattle.descent.specs.declared.readers.Reader.{Reader}
use Rattle.descent.specs.Changed.{CanKeep}
use Rattle.descent.specs.Held.{Held, row_in, shown}
use Rattle.descent.specs.Known.{facts_in}
use Rattle.descent.specs.Readers.{no_reader, reader_at, reader_of, rows_read, track_at, track_of, AreReadersOf, IsAtPlace, IsInBlock, IsInEither, IsReaderOf}
use Rattle.descent.specs.Rows.{Row, Track, Cut, entries, segs_of_rows, with_rows}
use Rattle.descent.specs.Said.{seg_read, AreRead, IsSumFrom, ReadsAt}
use Rattle.descent.specs.Sound.{IsSound, IsSoundTrack}
use Rattle.descent.specs.Sums.{count_of, first_of}
use Rattle.descent.proofs.ChoiceLaws.{whole-count}
use Rattle.descent.proofs.Exact.{All-left, All-right}
use Rattle.descent.proofs.SoundLaws.{rows-touch}
use Rattle.descent.proofs.TrackLaws.{segs-of-track, sound-at}

pub rows-touching : (track : Track Row) → IsSoundTrack track → TouchFrom 0 (segs_of_rows track.rows) track.len
rows-touching track s = rows-touch track.greatest 0 track.len track.rows s.rows s.touch

-- how many positions a track's name has
pub end-of-track : (cut : Cut) (k : ℕ) → IsSound cut → k < length cut → end_of_name (entries cut) (track_at cut k).name ≡ (track_at cut k).len
end-of-track cut k sound lt =
    ap (end_from 0) (segs-of-track cut k sound.apart lt) ∙ touch-end 0 (track_at cut k).len (segs_of_rows (track_at cut k).rows) (rows-touching (track_at cut k) (sound-at cut k sound.tracks lt))

-- ---- the track of a name

pub record IsTrackOf (cut : Cut) (name : List ℕ) : Type 0 where
  pub within : track_of cut name < length cut
  pub same : (track_at cut (track_of cut name)).name ≡ name

pub track-of-known : (cut : Cut) (name : List ℕ) → is_unknown (facts_in cut) name ≡ false → IsTrackOf cut name
track-of-known [] name h = absurd (false≢true (sym h))
track-of-known (t ∷ cut) name h = by (same_name t.name name) refl h (track-of-known cut name)
  where
    one : Fact
    one = record { name = t.name; count = t.len; greatest = t.greatest }

    by : (b : Bool) → same_name t.name name ≡ b → not (is_some (cond b (Some one) (find (λ (f : Fact). same_name f.name name) (facts_in cut)))) ≡ false
        → (is_unknown (facts_in cut) name ≡ false → IsTrackOf cut name) → IsTrackOf (t ∷ cut) name
    by true e q rest =
        let z : track_of (t ∷ cut) name ≡ 0 = ap (λ b. cond b 0 (suc (track_of cut name))) e in
        record { within = omega arith; same = ap (λ k. (track_at (t ∷ cut) k).name) z ∙ (bytes_eq-Decides t.name name).0 e }
    by false e q rest =
        let i = rest q in
        let z : track_of (t ∷ cut) name ≡ suc (track_of cut name) = ap (λ b. cond b 0 (suc (track_of cut name))) e in
        let w = i.within in
        record { within = omega arith; same = ap (λ k. (track_at (t ∷ cut) k).name) z ∙ i.same }

known-each : (facts : List Fact) (t : Term) → All (IsKnown facts) (series_names t) → OfEachName (IsKnown facts) t
known-each facts (base name) all = All-head (IsKnown facts) name [] all
known-each facts (constant v a b) all = tt
known-each facts (bare v) all = tt
known-each facts (plus u v) all = (known-each facts u (All-left (IsKnown facts) (series_names u) (series_names v) all), known-each facts v (All-right (IsKnown facts) (series_names u) (series_names v) all))
known-each facts (minus u v) all = (known-each facts u (All-left (IsKnown facts) (series_names u) (series_names v) all), known-each facts v (All-right (IsKnown facts) (series_names u) (series_names v) all))
known-each facts (times u v) all = (known-each facts u (All-left (IsKnown facts) (series_names u) (series_names v) all), known-each facts v (All-right (IsKnown facts) (series_names u) (series_names v) all))
known-each facts (shift u k) all = known-each facts u all

-- ---- the positions of a sum lie in its domain

from_zero-some : (z : ℤ) → 0 < from_zero z → pos (from_zero z) ≡ z
from_zero-some (pos n) h = refl
from_zero-some (negsuc n) h = absurd (omega arith)

pub record IsIn (d : Range) (l : ℤ) (n : ℕ) : Type 0 where
  pub low : d.left ≤ℤ l
  pub high : (l +ℤ pos n) ≤ℤ d.right

in-range : (N : List ℕ → ℕ) (t : Term) (range : Option Range) (r : Range) → r ≡ range_or range (domain_of N t)
    → (IsInDomain (Some (range_by N t range)) (domain_of N t)) → 0 < positions_in r.left r.right → IsIn (domain_of N t) r.left (positions_in r.left r.right)
in-range N t None r e inside some =
    let z = from_zero-some (r.right -ℤ r.left) some in
    let a : r.left ≡ (domain_of N t).left = ap (λ (q : Range). q.left) e in
    let b : r.right ≡ (domain_of N t).right = ap (λ (q : Range). q.right) e in
    record { low = omega (arith, ints, a); high = omega (arith, ints, a, b, z) }
in-range N t (Some range) r e inside some =
    let z = from_zero-some (r.right -ℤ r.left) some in
    let a : r.left ≡ range.left = ap (λ (q : Range). q.left) e in
    let b : r.right ≡ range.right = ap (λ (q : Range). q.right) e in
    let lt : range.left <ℤ range.right = omega (arith, ints, a, b, z, some) in
    let both = inside.1 lt in
    record { low = omega (arith, ints, a, both.0); high = omega (arith, ints, a, b, z, both.1) }

sum-in-domain : (cut : Cut) (s : SumTerm) → CanKeep cut s → 0 < count_of cut s → IsIn (domain_of (end_of_name (entries cut)) s.series) (first_of cut s) (count_of cut s)
sum-in-domain cut s can some = in-range (end_of_name (entries cut)) s.series s.range (range_or s.range (domain_of (end_of_name (entries cut)) s.series)) refl can.admitted.inside some

-- ---- the readers are the occurrences

one-reader : (cut : Cut) (s : SumTerm) (o : ℕ) → CanKeep cut s → o < names_in s.series → IsReaderOf cut s.series (first_of cut s) (count_of cut s) o (reader_of cut (occurrence_at s.series (first_of cut s) o))
one-reader cut s o can lt =
    let t = s.series in
    let l = first_of cut s in
    let n = count_of cut s in
    let N = end_of_name (entries cut) in
    let name = (occurrence_at t l o).name in
    let known = track-of-known cut name (at_occurrence (IsKnown (facts_in cut)) t l o (known-each (facts_in cut) t can.known) lt) in
    let end : N name ≡ (track_at cut (track_of cut name)).len = ap N (sym known.same) ∙ end-of-track cut (track_of cut name) can.sound known.within in
    record {
      track = known.within;
      name = known.same;
      at = refl;
      from = λ some.
          let i = sum-in-domain cut s can some in
          (back_each (IsInside N) t [] l (domain_each N t [] l i.low (omega (arith, ints, i.high, some))) o lt).0;
      until = λ some.
          let i = sum-in-domain cut s can some in
          let last = l +ℤ pos (n - 1) in
          let b = back_each (IsInside N) t [] last (domain_each N t [] last (omega (arith, ints, i.low)) (omega (arith, ints, i.high, some))) o lt in
          let w = ap (λ (x : Occurrence). x.at) (read_where t l (n - 1) o lt) in
          let m = ap (λ (x : Occurrence). x.name) (read_where t l (n - 1) o lt) in
          let e : N (occurrence_at t last o).name ≡ (track_at cut (track_of cut name)).len = ap N m ∙ end in
          omega (arith, ints, b.1, w, e, some);
    }

readers-of-sum : (cut : Cut) (s : SumTerm) → CanKeep cut s → AreReadersOf cut s.series (first_of cut s) (count_of cut s) (map (reader_of cut) (occurrences s.series (first_of cut s)))
readers-of-sum cut s can =
    let os = occurrences s.series (first_of cut s) in
    record {
      count = length-map os (reader_of cut) ∙ length-occurrences s.series (first_of cut s);
      each = λ o lt. subst (IsReaderOf cut s.series (first_of cut s) (count_of cut s) o) (sym (get_or-map (reader_of cut) os o no_occurrence no_reader (omega (arith, length-occurrences s.series (first_of cut s))))) (one-reader cut s o can lt);
    }

pub readers-are : (cut : Cut) (s : SumTerm) (t : Term) (l : ℤ) → IsSumFrom cut s t l → AreReadersOf cut t l (count_of cut s) (map (reader_of cut) (occurrences t l))
readers-are cut s t l h =
    subst (λ z. AreReadersOf cut t z (count_of cut s) (map (reader_of cut) (occurrences t z))) (sym h.first)
    (subst (λ u. AreReadersOf cut u (first_of cut s) (count_of cut s) (map (reader_of cut) (occurrences u (first_of cut s)))) h.series (readers-of-sum cut s h.can))

-- ---- what a reader reads

pub reads-at : (cut : Cut) (s : SumTerm) (t : Term) (l : ℤ) (rs : List Reader) (from n i o : ℕ) → AreRead cut s t l rs from n → i < n → o < length rs → ReadsAt cut (from + i) (reader_at rs o)
reads-at cut s t l rs from n i o h li lo =
    let within = h.within in
    let some : 0 < count_of cut s = omega arith in
    let r = h.readers.each o (omega (arith, h.readers.count)) in
    record {
      track = r.track;
      sound = sound-at cut (reader_at rs o).track h.sum.can.sound.tracks r.track;
      from = r.from some;
      until = omega (arith, ints, r.until some);
    }

-- where there are readers, a sum is no longer than a series
pub few-offsets : (cut : Cut) (s : SumTerm) (t : Term) (l : ℤ) (rs : List Reader) (from n : ℕ) → AreRead cut s t l rs from n → 0 < length rs → from + n ≤ 2 ^ 20
few-offsets cut s t l rs from n h lo =
    let some = h.some in
    let r = reads-at cut s t l rs from n (n - 1) 0 h (omega arith) lo in
    let few = r.sound.few in
    omega (arith, ints, r.until, r.from)

-- a segment is found where a track is read
pub record IsFoundIn (gs : List Seg) (p : ℕ) : Type 0 where
  pub k : ℕ
  pub below : k < length gs
  pub found : seg_at gs (pos p) ≡ get_or gs k no_seg
  pub covered : covers (seg_at gs (pos p)) (pos p) ≡ true

pub found-in : (track : Track Row) (p : ℕ) → IsSoundTrack track → p < track.len → IsFoundIn (segs_of_rows track.rows) p
found-in track p s lt =
    let gs = segs_of_rows track.rows in
    let touch = rows-touching track s in
    let f = found_some gs 0 track.len p touch (omega arith) lt in
    let q = (segs_found gs 0 track.len f.0 (pos p) touch f.1 f.2).found in
    record { k = f.0; below = f.1; found = q; covered = ap (λ (g : Seg). covers g (pos p)) q ∙ f.2 }

-- the position that a reader reads
pub record IsPlace (r : Reader) (offset p : ℕ) : Type 0 where
  pub at : pos p ≡ (r.at +ℤ pos offset)

place-of : (z : ℤ) → pos 0 ≤ℤ z → (p : ℕ) × (pos p ≡ z)
place-of (pos p) h = (p, refl)
place-of (negsuc p) h = absurd (omega (arith, ints))

pub place-read : (cut : Cut) (offset : ℕ) (r : Reader) → ReadsAt cut offset r → (p : ℕ) × (pos p ≡ (r.at +ℤ pos offset)) × (p < (track_at cut r.track).len)
place-read cut offset r h =
    let q = place-of (r.at +ℤ pos offset) (omega (arith, ints, h.from)) in
    (q.0, q.1, omega (arith, ints, q.1, h.until))

pub seg-covers : (cut : Cut) (offset : ℕ) (r : Reader) → ReadsAt cut offset r → covers (seg_read cut offset r) (r.at +ℤ pos offset) ≡ true
seg-covers cut offset r h =
    let p = place-read cut offset r h in
    subst (λ z. covers (seg_at (segs_of_rows (rows_read cut r)) z) z ≡ true) p.1 (found-in (track_at cut r.track) p.0 h.sound p.2).covered

-- what a series reads at an offset, by its readers
pub reads-read : (cut : Cut) (s : SumTerm) (t : Term) (l : ℤ) (rs : List Reader) (from n i : ℕ) → AreRead cut s t l rs from n → i < n → reads (segs_of (entries cut)) t (l +ℤ pos (from + i)) ≡ map (seg_read cut (from + i)) rs
reads-read cut s t l rs from n i h li =
    let C = segs_of (entries cut) in
    let k = from + i in
    let m = length-reads C t (l +ℤ pos k) in
    let q = length-map rs (seg_read cut k) in
    let count = h.readers.count in
    ext_get_or no_seg (reads C t (l +ℤ pos k)) (map (seg_read cut k) rs) (omega arith)
    (λ o lt.
    let b : o < names_in t = omega arith in
    let r = h.readers.each o b in
    let own : C (occurrence_at t l o).name ≡ segs_of_rows (rows_read cut (reader_at rs o)) = ap C (sym r.name) ∙ segs-of-track cut (reader_at rs o).track h.sum.can.sound.apart r.track in
    get_or-map (read_by C) (occurrences t (l +ℤ pos k)) o no_occurrence no_seg (omega (arith, length-occurrences t (l +ℤ pos k)))
    ∙ ap (read_by C) (read_where t l k o b)
    ∙ ap₂ (λ (gs : List Seg) (z : ℤ). seg_at gs (z +ℤ pos k)) own (sym r.at)
    ∙ sym (get_or-map (seg_read cut k) rs o no_reader no_seg (omega arith)))

-- ---- going over the tables

pub track-found : {I : Type 0} → (ts : List (Track (Held I))) (i : ℕ) (name : List ℕ) (t : Track (Held I)) → t ≡ get_or ts i t → i < length ts → same_name t.name name ≡ true → track_of (drop i (shown ts)) name ≡ 0
track-found [] i name t e lt h = absurd (omega arith)
track-found (x ∷ ts) zero name t e lt h = ap (λ (q : Track (Held _)). cond (same_name q.name name) 0 (suc (track_of (shown ts) name))) (sym e) ∙ ap (λ b. cond b 0 (suc (track_of (shown ts) name))) h
track-found (x ∷ ts) (suc i) name t e lt h = track-found ts i name t e (omega arith) h

pub track-passed : {I : Type 0} → (ts : List (Track (Held I))) (i : ℕ) (name : List ℕ) (t : Track (Held I)) → t ≡ get_or ts i t → i < length ts → same_name t.name name ≡ false → track_of (drop i (shown ts)) name ≡ suc (track_of (drop (suc i) (shown ts)) name)
track-passed [] i name t e lt h = absurd (omega arith)
track-passed (x ∷ ts) zero name t e lt h = ap (λ (q : Track (Held _)). cond (same_name q.name name) 0 (suc (track_of (shown ts) name))) (sym e) ∙ ap (λ b. cond b 0 (suc (track_of (shown ts) name))) h
track-passed (x ∷ ts) (suc i) name t e lt h = track-passed ts i name t e (omega arith) h

pub track-none : {I : Type 0} → (ts : List (Track (Held I))) (i : ℕ) (name : List ℕ) → length ts ≤ i → track_of (drop i (shown ts)) name ≡ 0
track-none [] zero name le = refl
track-none [] (suc i) name le = refl
track-none (x ∷ ts) zero name le = absurd (omega arith)
track-none (x ∷ ts) (suc i) name le = track-none ts i name (omega arith)

-- ---- grains

-- each place is one of a grain of 1
pub at-place : (rs : List Reader) (o : ℕ) → pos 0 ≤ℤ (reader_at rs o).at → pos 0 ≤ℤ (reader_at rs 0).at → IsAtPlace rs 1 o
at-place rs o h k =
    let a = place-of (reader_at rs o).at h in
    let b = place-of (reader_at rs 0).at k in
    record { place = a.0; first = b.0; place_is = a.1; first_is = b.1; same = omega arith }

pos-same : (a b : ℕ) (z : ℤ) → pos a ≡ z → pos b ≡ z → a ≡ b
pos-same a b z e f = omega (arith, ints, e, f)

pub aligned : (rs : List Reader) (grain first o : ℕ) → 0 < grain → pos first ≡ (reader_at rs 0).at → IsAtPlace rs grain o → (k : ℕ) × ((reader_at rs o).at ≡ pos (first % grain + grain * k))
aligned rs grain first o some e h =
    let f : first ≡ h.first = pos-same first h.first (reader_at rs 0).at e h.first_is in
    let m : first % grain ≡ h.place % grain = ap (λ x. x % grain) f ∙ sym h.same in
    let w : h.place ≡ first % grain + grain * (h.place / grain) = omega arith in
    (h.place / grain, sym h.place_is ∙ ap pos w)

whole-grain : (grain pad j k m offset : ℕ) → 0 < grain → pad + grain * j + offset ≡ grain * (m * k) → (q : ℕ) × (offset + pad ≡ q * grain)
whole-grain grain pad j k m offset some e = elim (cases_lt (m * k) j) [
  | inl lt ↦ let l : grain * (m * k + 1) ≤ grain * j = mul-le-mul_left grain (omega arith) in absurd (omega arith)
  | inr ge ↦
      let q : m * k ≡ j + (m * k - j) = omega arith in
      let r : grain * (m * k) ≡ grain * (j + (m * k - j)) = ap (λ x. grain * x) q in
      (m * k - j, omega arith)
]

-- where a reader comes to a block a grain begins
pub comes-to-grain : (r : Reader) (grain pad j m offset k : ℕ) → 0 < grain → 16 ≡ grain * m → r.at ≡ pos (pad + grain * j)
    → (r.at +ℤ pos offset) ≡ pos (16 * k) → (q : ℕ) × (offset + pad ≡ q * grain)
comes-to-grain r grain pad j m offset k some whole at border =
    let b : (pos (pad + grain * j) +ℤ pos offset) ≡ pos (16 * k) = subst (λ z. (z +ℤ pos offset) ≡ pos (16 * k)) at border in
    let n : pad + grain * j + offset ≡ 16 * k = omega (arith, ints) in
    let w : 16 * k ≡ grain * m * k = ap (λ x. x * k) whole in
    whole-grain grain pad j k m offset some (omega arith)

-- the two places in order
pub in-order : (r : Reader) (first other least most : ℕ) → least ≡ min first other → most ≡ max first other
    → IsInEither first other r → IsInEither least most r
in-order r first other least most low high e = elim (cases_lt first other) [
  | inl lt ↦
      let a : first ≡ least = omega arith in
      let b : other ≡ most = omega arith in
      elim e [ inl at ↦ inl (subst (IsInBlock r) a at) | inr at ↦ inr (subst (IsInBlock r) b at) ]
  | inr ge ↦
      let a : first ≡ most = omega arith in
      let b : other ≡ least = omega arith in
      elim e [ inl at ↦ inr (subst (IsInBlock r) a at) | inr at ↦ inl (subst (IsInBlock r) b at) ]
]

-- where a reader comes to a block, by its place in blocks
pub comes-to-block : (r : Reader) (place block offset k : ℕ) → r.at ≡ pos (place + 16 * block)
    → (r.at +ℤ pos offset) ≡ pos (16 * k) → place + 16 * block + offset ≡ 16 * k
comes-to-block r place block offset k at border =
    let b : (pos (place + 16 * block) +ℤ pos offset) ≡ pos (16 * k) =
    subst (λ z. (z +ℤ pos offset) ≡ pos (16 * k)) at border in
    omega (arith, ints)

-- ---- the range of a sum, as the code has it

pub record IsRangeOf (N : List ℕ → ℕ) (t : Term) (range : Option Range) : Type 0 where
  pub count : positions_in (range_by N t range).left (range_by N t range).right ≡ positions_in (range_or range (domain_of N t)).left (range_or range (domain_of N t)).right
  pub right : 0 < positions_in (range_or range (domain_of N t)).left (range_or range (domain_of N t)).right
      → (range_by N t range).right ≡ (range_or range (domain_of N t)).left +ℤ pos (positions_in (range_or range (domain_of N t)).left (range_or range (domain_of N t)).right)

pub range-is : (N : List ℕ → ℕ) (t : Term) (range : Option Range) → IsRangeOf N t range
range-is N t (Some r) = record { count = refl; right = λ some. let z = from_zero-some (r.right -ℤ r.left) some in omega (arith, ints, z) }
range-is N t None =
    let d = domain_of N t in
    record { count = whole-count d; right = λ some. let z = from_zero-some (d.right -ℤ d.left) some in omega (arith, ints, clamps, z, some) }

-- a track of some tables
pub track-shown : {I : Type 0} → (ts : List (Track (Held I))) (k : ℕ) (t : Track (Held I)) → t ≡ get_or ts k t → k < length ts → track_at (shown ts) k ≡ with_rows row_in t
track-shown [] k t e lt = absurd (omega arith)
track-shown (x ∷ ts) zero t e lt = ap (λ (q : Track (Held _)). with_rows row_in q) (sym e)
track-shown (x ∷ ts) (suc k) t e lt = track-shown ts k t e (omega arith)

-- What is kept of a sum, once all of it is right: the sum's estimate and error, and its heaviest row.
use Rattle.std.proofs.Common.{◌≡◌, ℕ, ◌+◌, ◌*◌, ◌%◌, ◌^◌, ◌<◌, ◌≤◌, false, cond, inl, inr, ℤ, Option, Some, None, List, [], ◌∷◌, length, refl, sym, ap, ap₂, subst, ◌∙◌, arith}
use Rattle.std.specs.Prelude.{◌==◌, unsigned_abs}
use Rattle.std.specs.Int.{int_wrap, w128}
use Rattle.std.specs.List.{sum_by}
use Rattle.std.specs.Option.{option_map}
use Rattle.std.proofs.Math.Nat.{mod-eq_of_lt}
use Rattle.std.proofs.lemmas.Bool.{cases_eq, eq-eqb, ne_eqb}
use Rattle.std.proofs.lemmas.Int.{ints, int_wrap_fits}
use Rattle.std.proofs.lemmas.List.Sums.{sum_by-cons}
use Rattle.std.proofs.lemmas.Slice.Eq.{bytes_eq-Decides}
use Rattle.semantics.specs.Admission.{SumTerm}
use Rattle.semantics.specs.Readings.{reading}
use Rattle.semantics.specs.Sums.{sum_below, total_below}
use Rattle.semantics.specs.Measures.{names_in}
use Rattle.semantics.specs.Names.{same_name}
use Rattle.semantics.specs.Readings.{positions_in}
use Rattle.semantics.specs.Value.{domain_of}
use Rattle.segment.specs.Measure.{unit_seg}
use Rattle.segment.specs.declared.segments.Seg.{Seg}
use Rattle.bounds.specs.Cut.{charge_by, charge_part, occurrence_at, segs_of}
use Rattle.bounds.proofs.NumberBounds.{numbers_within}
use Rattle.tops.specs.Tops.{number, IsTop}
use Rattle.error_prop.specs.Places.{end_of_name}
use Rattle.error_prop.specs.QueryOver.{range_over}
use Rattle.error_prop.specs.declared.query.SumIn.{SumIn}
use Rattle.descent.specs.declared.kept.KeptSum.{KeptSum}
use Rattle.descent.specs.Changed.{CanKeep}
use Rattle.descent.specs.Cells.{cells_in, offset_of}
use Rattle.descent.specs.Charges.{place_in, site, sites, AreChargesOf, Site}
use Rattle.descent.specs.Choice.{charge, charged_row, charged_rows, heaviest, Has}
use Rattle.descent.specs.Kept.{kept_weight, AreOffsets, IsKept}
use Rattle.descent.specs.KeptSums.{charge_in, kept_of, part_of, place_of, row_charge, IsKeptSum}
use Rattle.descent.specs.Readers.{reader_at, track_at, IsReaderOf}
use Rattle.descent.specs.Rows.{entries, segs_of_row, segs_of_rows, units, Row, Cut}
use Rattle.descent.specs.Sound.{IsSound}
use Rattle.descent.specs.Sums.{charge_of, count_of, first_of, sum_in, weight_for}
use Rattle.descent.proofs.Admits.{has-left, has-right}
use Rattle.descent.proofs.CellLaws.{offsets}
use Rattle.descent.proofs.ChoiceLaws.{whole-count}
use Rattle.descent.proofs.KeptLaws.{kept-charge, kept_says_afresh, part-free}
use Rattle.descent.proofs.SiteLaws.{charge_at, charged_at, charges-sum, has-le, heaviest-site, place-within, places-go-up, site-has, site-is}
use Rattle.descent.proofs.SumLaws.{places-sum, sum_below-none, sum_over}
use Rattle.descent.proofs.TileLaws.{sum_below-same}
use Rattle.descent.proofs.TopLaws.{none-at, top-is-heaviest}
use Rattle.descent.proofs.TrackLaws.{distinct, names-apart, segs-of-track, sound-at}

-- a row of a cut is the heaviest of a sum, and its place is this
pub record IsHeaviestAt (cut : Cut) (s : SumTerm) (at : ℕ) : Type 0 where
  pub track : ℕ
  pub row : Row
  pub within : track < length cut
  pub there : Has row (track_at cut track).rows
  pub place : place_of cut track row ≡ at
  pub heaviest : heaviest charge (charged_rows cut s) ≡ Some (charged_row cut s (track_at cut track) row)

-- the sums of the estimates and of the charges are those of the cut, and small; each row's charge stands at its place
pub record Says (cut : Cut) (s : SumTerm) (k : KeptSum) : Type 0 where
  pub small : unsigned_abs (sum_in cut s).est + (sum_in cut s).err ≤ 2 ^ 125
  pub estimate : total_below (reading k.estimates) (length k.estimates) ≡ (sum_in cut s).est
  pub error : sum_below (number k.charges) (length k.charges) ≡ (sum_in cut s).err
  pub each : (i : ℕ) (row : Row) → i < length cut → Has row (track_at cut i).rows
      → number k.charges (place_of cut i row) ≡ charge_of cut s (track_at cut i).name row

-- ---- sizes

count-over : (cut : Cut) (s : SumTerm) → count_of cut s
    ≡ positions_in (range_over (entries cut) s.series s.range).left (range_over (entries cut) s.series s.range).right
count-over cut s = by s.range
  where
    by : (r : Option _) → count_of cut (record { series = s.series; range = r })
        ≡ positions_in (range_over (entries cut) s.series r).left (range_over (entries cut) s.series r).right
    by (Some range) = refl
    by None = sym (whole-count (domain_of (end_of_name (entries cut)) s.series))

small : (cut : Cut) (s : SumTerm) → CanKeep cut s → unsigned_abs (sum_in cut s).est + (sum_in cut s).err ≤ 2 ^ 125
small cut s can =
    let a = can.admitted in
    let few = a.few in
    let le : count_of cut s ≤ a.n = rw (count-over cut s) few in
    (numbers_within.sums a.greatest a.n (entries cut) s.series (first_of cut s) (count_of cut s)
    (distinct cut can.sound.apart) a.sane le).admitted a.in_range

-- ---- what a row is charged

-- what is kept is right
kept-right : (cut : Cut) (s : SumTerm) (k : KeptSum) → IsKeptSum cut s k
    → IsKept cut s.series (first_of cut s) (count_of cut s) k.readers.items (offset_of k.cells) (cells_in k.cells)
    (kept_of k)
kept-right cut s k is = record {
  offsets = subst (λ n. AreOffsets (offset_of k.cells) (cells_in k.cells) n) is.count
      (offsets k.cells is.cells);
  tiled = is.tiled;
  pieces = λ c some. elim (is.pieces c some) [ inl bad ↦ absurd bad | inr right ↦ right ];
  blank = is.blank;
}

part-is : (cut : Cut) (s : SumTerm) (k : KeptSum) (i o : ℕ) (g : Seg) → IsSound cut → IsKeptSum cut s k
    → i < length cut → o < names_in s.series → part_of k i g o
    ≡ charge_part (kept_weight (offset_of k.cells) (kept_of k) (cells_in k.cells)) s.series (first_of cut s)
    (track_at cut i).name g o
part-is cut s k i o g sound is lt below =
    ap₂ (λ b x. cond b x 0) tests
    (ap (λ a. g.l * kept_weight (offset_of k.cells) (kept_of k) (cells_in k.cells) o a g) r.at)
  where
    r : IsReaderOf cut s.series (first_of cut s) (count_of cut s) o
        (reader_at k.readers.items o)
    r = is.readers.each o below

    tests : ((reader_at k.readers.items o).track == i)
        ≡ same_name (track_at cut i).name (occurrence_at s.series (first_of cut s) o).name
    tests = elim (cases_eq (reader_at k.readers.items o).track i) [
      | inl e ↦
          let q : (track_at cut i).name ≡ (occurrence_at s.series (first_of cut s) o).name =
          ap (λ j. (track_at cut j).name) (sym e) ∙ r.name in
          eq-eqb (reader_at k.readers.items o).track i e
          ∙ sym ((bytes_eq-Decides (track_at cut i).name (occurrence_at s.series (first_of cut s) o).name).1 q)
      | inr ne ↦
          ne_eqb (reader_at k.readers.items o).track i ne
          ∙ sym (subst (λ x. same_name (track_at cut i).name x ≡ false) r.name
          (names-apart cut i (reader_at k.readers.items o).track sound.apart lt r.track (λ q. ne (sym q))))
    ]

-- the segment of a closed row is among those of its track
closed-has : (rows : List Row) (row : Row) → Has row rows → row.readings ≡ None → Has row.seg (segs_of_rows rows)
closed-has [] row h closed = absurd h
closed-has (r ∷ rows) row (inl e) closed =
    let c : r.readings ≡ None = ap (λ (q : Row). q.readings) (sym e) ∙ closed in
    let g : row.seg ≡ r.seg = ap (λ (q : Row). q.seg) e in
    has-left row.seg (segs_of_row r) (segs_of_rows rows) (rw c (inl g))
closed-has (r ∷ rows) row (inr h) closed = has-right row.seg (segs_of_row r) (segs_of_rows rows)
    (closed-has rows row h closed)

-- what is kept of a closed row
closed-charge : (cut : Cut) (s : SumTerm) (k : KeptSum) (i : ℕ) (row : Row) → IsSound cut → IsKeptSum cut s k
    → i < length cut → Has row (track_at cut i).rows → row.readings ≡ None
    → charge_in k i row.seg
    ≡ charge_by (weight_for cut s) s.series (first_of cut s) (track_at cut i).name row.seg % 2 ^ 128
closed-charge cut s k i row sound is lt there closed =
    let name = (track_at cut i).name in
    let w = kept_weight (offset_of k.cells) (kept_of k) (cells_in k.cells) in
    let parts : sum_below (part_of k i row.seg) (length k.readers.items)
    ≡ charge_by w s.series (first_of cut s) name row.seg =
    ap (sum_below (part_of k i row.seg)) is.readers.count
    ∙ sum_below-same (part_of k i row.seg) (charge_part w s.series (first_of cut s) name row.seg)
    (names_in s.series)
    (λ o below. part-is cut s k i o row.seg sound is lt below) in
    let there : Has row.seg (segs_of (entries cut) name) =
    subst (Has row.seg) (sym (segs-of-track cut i sound.apart lt))
    (closed-has (track_at cut i).rows row there closed) in
    ap (λ n. n % 2 ^ 128) (parts ∙ kept-charge cut s.series (first_of cut s) (count_of cut s) k.readers.items
    (offset_of k.cells) (cells_in k.cells) (kept_of k) name row.seg sound is.readers (kept-right cut s k is) there)

units-charge : (w : ℕ → ℤ → Seg → ℕ) (s : SumTerm) (l : ℤ) (name : List ℕ) (start : ℕ) (xs : List ℤ)
    → sum_by (charge_by w s.series l name) (units start xs) ≡ 0
units-charge w s l name start [] = refl
units-charge w s l name start (x ∷ xs) =
    let g = unit_seg start x in
    sum_by-cons (charge_by w s.series l name) g (units (start + 1) xs)
    ∙ ap₂ (λ a b. a + b)
    (sum_below-none (charge_part w s.series l name g) (names_in s.series)
    (λ o lt. part-free w s.series l name g o refl))
    (units-charge w s l name (start + 1) xs)

row-is : (cut : Cut) (s : SumTerm) (k : KeptSum) (i : ℕ) (row : Row) → CanKeep cut s → IsKeptSum cut s k
    → i < length cut → Has row (track_at cut i).rows
    → row_charge k i row ≡ charge_of cut s (track_at cut i).name row
row-is cut s k i row can is lt there = by row.readings refl
  where
    f : Seg → ℕ
    f = charge_by (weight_for cut s) s.series (first_of cut s) (track_at cut i).name

    by : (o : Option (List ℤ)) → row.readings ≡ o
        → row_charge k i row ≡ charge_of cut s (track_at cut i).name row
    by None e =
        let one : charge_of cut s (track_at cut i).name row ≡ f row.seg =
        rw e (sum_by-cons f row.seg [] ∙ omega arith) in
        let le = has-le (charge_at cut s) (sites cut) (site i row) (site-has cut i row lt there) in
        let sum : sum_over (charge_at cut s) (sites cut) ≡ (sum_in cut s).err =
        charges-sum cut s in
        let bound = small cut s can in
        let fits : f row.seg < 2 ^ 128 = omega arith in
        let c = closed-charge cut s k i row can.sound is lt there e in
        let own : row_charge k i row ≡ charge_in k i row.seg = rw e refl in
        own ∙ c ∙ mod-eq_of_lt fits ∙ sym one
    by (Some xs) e =
        let none : charge_of cut s (track_at cut i).name row ≡ 0 =
        rw e (units-charge (weight_for cut s) s (first_of cut s) (track_at cut i).name row.seg.start xs) in
        let own : row_charge k i row ≡ 0 = rw e refl in
        own ∙ sym none

-- ---- all rows

charges-are : (cut : Cut) (s : SumTerm) (k : KeptSum) → IsKeptSum cut s k → CanKeep cut s
    → AreChargesOf (place_in cut) (charge_at cut s) (sites cut) k.charges
charges-are cut s k is can = record {
  order = places-go-up cut can.sound.tracks is.charged.borders;
  each = λ st h.
      let at = site-is 0 cut st h in
      let z : 0 + at.place ≡ at.place = omega arith in
      let t : st.track ≡ at.place = at.track ∙ z in
      let below : st.track < length cut = let b = at.below in omega arith in
      let there : Has st.row (track_at cut st.track).rows =
      subst (λ j. Has st.row (track_at cut j).rows) (sym t) at.there in
      is.charged.each st.track st.row below there ∙ row-is cut s k st.track st.row can is below there;
  others = λ p some.
      let o = is.charged.others p some in
      (site o.0 o.1, site-has cut o.0 o.1 o.2 o.3, o.4);
}

charges-within : (cut : Cut) (s : SumTerm) (k : KeptSum) → IsKeptSum cut s k → CanKeep cut s → (st : Site)
    → Has st (sites cut) → place_in cut st < length k.charges
charges-within cut s k is can st h =
    let at = site-is 0 cut st h in
    let z : 0 + at.place ≡ at.place = omega arith in
    let t : st.track ≡ at.place = at.track ∙ z in
    let below : st.track < length cut = let b = at.below in omega arith in
    let there : Has st.row (track_at cut st.track).rows =
    subst (λ j. Has st.row (track_at cut j).rows) (sym t) at.there in
    let p = place-within cut st.track st.row (sound-at cut st.track can.sound.tracks below) below there in
    let room = is.charged.room in
    omega arith

pub kept-says : (cut : Cut) (s : SumTerm) (k : KeptSum) → IsKeptSum cut s k → CanKeep cut s → Says cut s k
kept-says cut s k is can =
    let afresh = kept_says_afresh cut s.series (first_of cut s) (count_of cut s) k.readers.items (offset_of k.cells)
    (cells_in k.cells) (kept_of k) can.sound is.readers (kept-right cut s k is) in
    record {
      small = small cut s can;
      estimate = ap (total_below (reading k.estimates)) is.estimates ∙ afresh.estimate;
      error = places-sum (place_in cut) (charge_at cut s) (sites cut) k.charges (length k.charges)
          (charges-are cut s k is can) (charges-within cut s k is can) ∙ charges-sum cut s;
      each = λ i row lt there. is.charged.each i row lt there ∙ row-is cut s k i row can is lt there;
    }

-- as the code has them, modulo 2^128
abbrev pub summed : KeptSum → SumIn
summed k = record {
  est = int_wrap w128 (total_below (reading k.estimates) (length k.estimates));
  err = sum_below (number k.charges) (length k.charges) % 2 ^ 128;
}

pub kept-sum : (cut : Cut) (s : SumTerm) (k : KeptSum) → IsKeptSum cut s k → CanKeep cut s → summed k ≡ sum_in cut s
kept-sum cut s k is can =
    let says = kept-says cut s k is can in
    let bound = says.small in
    let est : int_wrap w128 (total_below (reading k.estimates) (length k.estimates)) ≡ (sum_in cut s).est =
    ap (int_wrap w128) says.estimate ∙ int_wrap_fits w128 (sum_in cut s).est (omega (arith, ints)) in
    let err : sum_below (number k.charges) (length k.charges) % 2 ^ 128 ≡ (sum_in cut s).err =
    ap (λ n. n % 2 ^ 128) says.error ∙ mod-eq_of_lt (omega arith) in
    ap₂ (λ (e : ℤ) (n : ℕ). record { est = e; err = n }) est err

-- the first place of the greatest charge
pub kept-heaviest : (cut : Cut) (s : SumTerm) (k : KeptSum) (at : ℕ) → IsKeptSum cut s k → CanKeep cut s
    → IsTop k.charges at → 0 < number k.charges at → IsHeaviestAt cut s at
kept-heaviest cut s k at is can top some =
    let t = (top-is-heaviest (place_in cut) (charge_at cut s) (sites cut) k.charges at
    (charges-are cut s k is can) top).some
    some in
    let st = t.0 in
    let in-cut = site-is 0 cut st t.1 in
    let z : 0 + in-cut.place ≡ in-cut.place = omega arith in
    let e : st.track ≡ in-cut.place = in-cut.track ∙ z in
    record {
      track = st.track;
      row = st.row;
      within = let b = in-cut.below in omega arith;
      there = subst (λ j. Has st.row (track_at cut j).rows) (sym e) in-cut.there;
      place = t.2;
      heaviest = heaviest-site cut s ∙ ap (option_map (charged_at cut s)) t.3;
    }

pub kept-light : (cut : Cut) (s : SumTerm) (k : KeptSum) → IsKeptSum cut s k → CanKeep cut s
    → ((at : ℕ) → number k.charges at ≡ 0) → heaviest charge (charged_rows cut s) ≡ None
kept-light cut s k is can none =
    let are = charges-are cut s k is can in
    heaviest-site cut s ∙ ap (option_map (charged_at cut s)) (none-at (charge_at cut s) (sites cut)
    (λ st h. sym (are.each st h) ∙ none (place_in cut st)))

-- A weight of an occurrence changes: the row that it reads there is charged anew, and no other one.
use Rattle.std.proofs.Common.{◌≡◌, ℕ, zero, suc, ◌*◌, ◌%◌, ◌^◌, ◌<◌, ◌≤◌, cond, Bool, true, false, inl, inr, ℤ, pos, ◌+ℤ◌, None, List, [], length, set, get_or-set_same, get_or-set_other, length-set, refl, sym, ap, subst, ◌∙◌, arith}
use Rattle.std.specs.Prelude.{◌==◌, is_some}
use Rattle.std.proofs.lemmas.Bool.{cases_eq, cases_Bool, eqb-true}
use Rattle.semantics.specs.Sums.{most_below, sum_below}
use Rattle.segment.specs.declared.segments.Seg.{Seg}
use Rattle.bounds.specs.Segments.{covers}
use Rattle.tops.specs.Tops.{number}
use Rattle.descent.specs.declared.kept.KeptSum.{KeptSum}
use Rattle.descent.specs.Cells.{cells_in, offset_of}
use Rattle.descent.specs.Choice.{Has}
use Rattle.descent.specs.Kept.{kept_in}
use Rattle.descent.specs.KeptSums.{band_of, charge_in, numbers_at, part_of, place_of, row_charge, AreCharged}
use Rattle.descent.specs.Readers.{reader_at, track_at}
use Rattle.descent.specs.Rows.{Row, Cut}
use Rattle.descent.specs.Sound.{IsSound}
use Rattle.descent.proofs.ReadRuns.{most-same}
use Rattle.descent.proofs.RowLaws.{one-of-track, one-place, place-within}

-- ---- what a segment is charged

sum-same : (f g : ℕ → ℕ) (n : ℕ) → ((j : ℕ) → j < n → f j ≡ g j) → sum_below f n ≡ sum_below g n
sum-same f g zero h = refl
sum-same f g (suc n) h = omega (arith, h n (omega arith), sum-same f g n (λ j lt. h j (omega arith)))

-- a weight is put
pub record IsWeightPut (old new : KeptSum) (o c w : ℕ) : Type 0 where
  pub readers : new.readers ≡ old.readers
  pub cells : new.cells ≡ old.cells
  pub weights : new.weights.items ≡ set old.weights.items o (set (numbers_at old.weights.items o) c w)

most-change : (xs : List ℕ) (offset : ℕ → ℕ) (c w n : ℕ) (at : ℤ) (g : Seg) → covers g (at +ℤ pos (offset c)) ≡ false
    → most_below (kept_in offset (number (set xs c w)) at g) n ≡ most_below (kept_in offset (number xs) at g) n
most-change xs offset c w n at g passed =
    most-same (kept_in offset (number (set xs c w)) at g) (kept_in offset (number xs) at g) n (λ j lt. elim (cases_eq j c) [
      | inl e ↦ let p : covers g (at +ℤ pos (offset j)) ≡ false = subst (λ k. covers g (at +ℤ pos (offset k)) ≡ false) (sym e) passed in
          ap (λ t. cond t (number (set xs c w) j) 0) p ∙ sym (ap (λ t. cond t (number xs j) 0) p)
      | inr ne ↦ ap (λ k. cond (covers g (at +ℤ pos (offset j))) k 0) (get_or-set_other xs c j w 0 ne)
    ])

pub charge-passed : (old new : KeptSum) (o c w i : ℕ) (g : Seg) → IsWeightPut old new o c w → o < length old.weights.items
    → ((reader_at old.readers.items o).track ≡ i → covers g ((reader_at old.readers.items o).at +ℤ pos (offset_of old.cells c)) ≡ false)
    → charge_in new i g ≡ charge_in old i g
charge-passed old new o c w i g put lt passed =
    ap (λ k. k % 2 ^ 128) (ap (λ r. sum_below (part_of new i g) (length r.items)) put.readers ∙ sum-same (part_of new i g) (part_of old i g) (length old.readers.items) (λ p below. part p))
  where
    readers : (p : ℕ) → reader_at new.readers.items p ≡ reader_at old.readers.items p
    readers p = ap (λ r. reader_at r.items p) put.readers

    by : (b : Bool) (m k : ℕ) → (b ≡ true → m ≡ k) → cond b (g.l * m) 0 ≡ cond b (g.l * k) 0
    by true m k h = ap (λ z. g.l * z) (h refl)
    by false m k h = refl

    part : (p : ℕ) → part_of new i g p ≡ part_of old i g p
    part p =
        let r = reader_at old.readers.items p in
        let most : List ℕ → ℕ = λ ns. most_below (kept_in (offset_of old.cells) (number ns) r.at g) (cells_in old.cells) in
        let new-part : part_of new i g p ≡ cond (r.track == i) (g.l * most (numbers_at new.weights.items p)) 0 = rw (readers p, put.cells) refl in
        new-part ∙ by (r.track == i) (most (numbers_at new.weights.items p)) (most (numbers_at old.weights.items p))
        (λ t. elim (cases_eq p o) [
          | inl e ↦
              let same : numbers_at new.weights.items p ≡ set (numbers_at old.weights.items o) c w = ap (λ ts. numbers_at ts p) put.weights ∙ ap (numbers_at (set old.weights.items o (set (numbers_at old.weights.items o) c w))) e ∙ get_or-set_same old.weights.items o (set (numbers_at old.weights.items o) c w) [] lt in
              let t2 : (reader_at old.readers.items o).track ≡ i = subst (λ q. (reader_at old.readers.items q).track ≡ i) e (eqb-true r.track i t) in
              let f : covers g (r.at +ℤ pos (offset_of old.cells c)) ≡ false = subst (λ q. covers g ((reader_at old.readers.items q).at +ℤ pos (offset_of old.cells c)) ≡ false) (sym e) (passed t2) in
              ap most same ∙ most-change (numbers_at old.weights.items o) (offset_of old.cells) c w (cells_in old.cells) r.at g f
              ∙ ap (λ q. most (numbers_at old.weights.items q)) (sym e)
          | inr ne ↦ ap most (ap (λ ts. numbers_at ts p) put.weights ∙ get_or-set_other old.weights.items o p (set (numbers_at old.weights.items o) c w) [] ne)
        ])

-- ---- what rows are charged

charge-if : (old new : KeptSum) (i : ℕ) (g : Seg) (opened : Bool) → (opened ≡ false → charge_in new i g ≡ charge_in old i g)
    → cond opened 0 (charge_in new i g) ≡ cond opened 0 (charge_in old i g)
charge-if old new i g true h = refl
charge-if old new i g false h = h refl

-- a row that is closed and not read there
row-passed : (old new : KeptSum) (o c w i : ℕ) (row : Row) → IsWeightPut old new o c w → o < length old.weights.items
    → (is_some row.readings ≡ false → (reader_at old.readers.items o).track ≡ i → covers row.seg ((reader_at old.readers.items o).at +ℤ pos (offset_of old.cells c)) ≡ true → ⊥)
    → row_charge new i row ≡ row_charge old i row
row-passed old new o c w i row put lt not-read =
    charge-if old new i row.seg (is_some row.readings) (λ closed. charge-passed old new o c w i row.seg put lt (λ t. elim (cases_Bool (covers row.seg ((reader_at old.readers.items o).at +ℤ pos (offset_of old.cells c)))) [
      | inl is ↦ absurd (not-read closed t is)
      | inr f ↦ f
    ]))

-- the row that is read there
pub record IsReadThere (cut : Cut) (k : KeptSum) (o c : ℕ) (row : Row) : Type 0 where
  pub track : (reader_at k.readers.items o).track < length cut
  pub there : Has row (track_at cut (reader_at k.readers.items o).track).rows
  pub covered : covers row.seg ((reader_at k.readers.items o).at +ℤ pos (offset_of k.cells c)) ≡ true

is-it : (cut : Cut) (k : KeptSum) (o c i : ℕ) (row read : Row) → IsSound cut → IsReadThere cut k o c read → (reader_at k.readers.items o).track ≡ i → Has row (track_at cut i).rows
    → covers row.seg ((reader_at k.readers.items o).at +ℤ pos (offset_of k.cells c)) ≡ true → row ≡ read
is-it cut k o c i row read sound is t there cov =
    let z = (reader_at k.readers.items o).at +ℤ pos (offset_of k.cells c) in
    let h : Has row (track_at cut (reader_at k.readers.items o).track).rows = subst (λ j. Has row (track_at cut j).rows) (sym t) there in
    one-of-track cut (reader_at k.readers.items o).track row read z sound is.track h is.there cov is.covered

-- it is opened: nothing changes
pub charged-opened : (cut : Cut) (old new : KeptSum) (o c w : ℕ) (read : Row) → IsSound cut → IsWeightPut old new o c w → o < length old.weights.items
    → IsReadThere cut old o c read → is_some read.readings ≡ true → new.charges ≡ old.charges → AreCharged cut old → AreCharged cut new
charged-opened cut old new o c w read sound put lt is opened same h = record {
  room = subst (λ (cs : List ℕ). band_of cut (length cut) ≤ length cs) (sym same) h.room;
  borders = h.borders;
  each = λ i row li there.
      ap (λ (cs : List ℕ). number cs (place_of cut i row)) same ∙ h.each i row li there
      ∙ sym (row-passed old new o c w i row put lt (λ closed t cov.
      let e = is-it cut old o c i row read sound is t there cov in
      let bad : false ≡ true = sym closed ∙ ap (λ (r : Row). is_some r.readings) e ∙ opened in
      cc));
  others = λ p some. h.others p (subst (λ (cs : List ℕ). 0 < number cs p) same some);
}

-- it is closed: it is charged anew
pub charged-closed : (cut : Cut) (old new : KeptSum) (o c w : ℕ) (g : Seg) → IsSound cut → IsWeightPut old new o c w → o < length old.weights.items
    → IsReadThere cut old o c (record { seg = g; readings = None })
    → new.charges ≡ set old.charges (place_of cut (reader_at old.readers.items o).track (record { seg = g; readings = None })) (charge_in new (reader_at old.readers.items o).track g)
    → AreCharged cut old → AreCharged cut new
charged-closed cut old new o c w g sound put lt is charges h =
    let read : Row = record { seg = g; readings = None } in
    let j = (reader_at old.readers.items o).track in
    let place = place_of cut j read in
    let v = charge_in new j g in
    let within = place-within cut j read sound is.track is.there in
    let room = h.room in
    let below : place < length old.charges = omega arith in
    record {
      room = subst (λ (cs : List ℕ). band_of cut (length cut) ≤ length cs) (sym charges) (let n = length-set old.charges place v in omega arith);
      borders = h.borders;
      each = λ i row li there. ap (λ (cs : List ℕ). number cs (place_of cut i row)) charges ∙ elim (cases_eq (place_of cut i row) place) [
        | inl e ↦
            let one = one-place cut i j row read sound h.borders li is.track there is.there e in
            ap (number (set old.charges place v)) e ∙ get_or-set_same old.charges place v 0 below
            ∙ sym (ap (λ (r : Row). row_charge new i r) one.row ∙ ap (λ k. row_charge new k read) one.track)
        | inr ne ↦
            get_or-set_other old.charges place (place_of cut i row) v 0 ne ∙ h.each i row li there
            ∙ sym (row-passed old new o c w i row put lt (λ closed t cov.
            let e = is-it cut old o c i row read sound is t there cov in
            ne (ap (place_of cut i) e ∙ ap (λ k. place_of cut k read) (sym t))))
      ];
      others = λ p some. elim (cases_eq p place) [
        | inl e ↦ (j, read, is.track, is.there, sym e)
        | inr ne ↦ h.others p (subst (λ k. 0 < k) (get_or-set_other old.charges place p v 0 ne) (subst (λ (cs : List ℕ). 0 < number cs p) charges some))
      ];
    }

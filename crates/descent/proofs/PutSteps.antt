-- A weight is put, and the row that is read there is charged anew.
use Rattle.std.proofs.Common.{◌≡◌, ℕ, ◌+◌, ◌/◌, ◌^◌, ◌<◌, ◌≤◌, true, inl, inr, ℤ, pos, ◌+ℤ◌, None, List, [], length, map, get_or, set, get_or-set_same, get_or-set_other, length-set, sym, ap, subst, ◌∙◌, arith}
use Rattle.std.specs.Prelude.{◌≤ℤ◌}
use Rattle.std.proofs.lemmas.Bool.{cases_eq}
use Rattle.std.proofs.lemmas.Int.{ints}
use Rattle.std.proofs.lemmas.List.{get_or_default}
use Rattle.segment.specs.declared.segments.Seg.{Seg}
use Rattle.bounds.specs.Segments.{covers}
use Rattle.descent.specs.declared.kept.KeptSum.{KeptSum}
use Rattle.descent.specs.declared.readers.Reader.{Reader}
use Rattle.descent.specs.Cells.{cells_in, offset_of}
use Rattle.descent.specs.Choice.{Has}
use Rattle.descent.specs.Held.{Held, row_in, shown}
use Rattle.descent.specs.KeptSums.{band_of, charge_in, numbers_at, AreCharged}
use Rattle.descent.specs.Readers.{no_reader, reader_at, track_at}
use Rattle.descent.specs.Rows.{Row, Track, Cut, with_rows}
use Rattle.descent.specs.Settled.{CanBeCharged, CanBeRead, IsInside}
use Rattle.descent.specs.Sound.{IsSound}
use Rattle.descent.specs.Standing.{IsClosedOver, IsOpenedOver}
use Rattle.descent.proofs.Anew.{shown-at, shown-length}
use Rattle.descent.proofs.CellLaws.{offsets}
use Rattle.descent.proofs.ChargeSteps.{charged-closed, charged-opened, IsReadThere, IsWeightPut}
use Rattle.descent.proofs.RowLaws.{lies-in, place-within, sound-track}

pub reader-is : (rs : List Reader) (o : ℕ) (r : Reader) → o < length rs → r ≡ get_or rs o r → reader_at rs o ≡ r
reader-is rs o r lt e = get_or_default rs o no_reader r lt ∙ sym e

-- a reader reads inside of its track at an offset
pub record ReadsPlace (cut : Cut) (r : Reader) (offset : ℕ) : Type 0 where
  pub track : r.track < length cut
  pub from : pos 0 ≤ℤ r.at
  pub until : (r.at +ℤ pos (offset + 1)) ≤ℤ pos (track_at cut r.track).len
  pub few : (track_at cut r.track).len ≤ 2 ^ 20
  pub tracks : length cut ≤ 16

ends-below : (at : ℤ) (offset n len : ℕ) → offset < n → (at +ℤ pos n) ≤ℤ pos len → (at +ℤ pos (offset + 1)) ≤ℤ pos len
ends-below at offset n len lt h = omega (arith, ints)

pub reads-place : (cut : Cut) (k : KeptSum) (o c : ℕ) (r : Reader) → CanBeCharged cut k → o < length k.readers.items → c < cells_in k.cells → r ≡ get_or k.readers.items o r
    → ReadsPlace cut r (offset_of k.cells c)
reads-place cut k o c r can lt below e = subst (λ q. ReadsPlace cut q (offset_of k.cells c)) (reader-is k.readers.items o r lt e) (record {
  track = inside.track;
  from = inside.from some;
  until = ends-below (reader_at k.readers.items o).at (offset_of k.cells c) k.cells.count (track_at cut (reader_at k.readers.items o).track).len less (inside.until some);
  few = (sound-track cut (reader_at k.readers.items o).track can.sound inside.track).few;
  tracks = can.sound.few;
})
  where
    inside : IsInside cut k.cells.count (reader_at k.readers.items o)
    inside = can.inside o lt

    less : offset_of k.cells c < k.cells.count
    less = let os = offsets k.cells can.read.cells in let l = os.last in let h = os.rising c (cells_in k.cells) below (omega arith) in omega arith

    some : 0 < k.cells.count
    some = omega (arith, less)

-- a closed row of a table
pub record IsRowOf (cut : Cut) (i : ℕ) (g : Seg) : Type 0 where
  pub there : Has (record { seg = g; readings = None }) (track_at cut i).rows
  pub within : g.start + g.len ≤ 2 ^ 20
  pub place : band_of cut i + g.start / 16 < band_of cut (length cut)

pub row-of : {I : Type 0} → (tables : List (Track (Held I))) (i position : ℕ) (t : Track (Held I)) (g : Seg) → IsSound (shown tables) → i < length tables → t ≡ get_or tables i t → IsClosedOver (map row_in t.rows) position g
    → IsRowOf (shown tables) i g
row-of tables i position t g sound lt e over =
    let cut = shown tables in
    let n = shown-length tables in
    let at : track_at cut i ≡ with_rows row_in t = shown-at tables i t lt e in
    let row : Row = record { seg = g; readings = None } in
    let there : Has row (track_at cut i).rows = subst (λ (k : Track Row). Has row k.rows) (sym at) (subst (λ (x : Row). Has x (map row_in t.rows)) over.closed over.there) in
    let below : i < length cut = omega arith in
    let l = lies-in cut i row sound below there in
    let w = l.within in
    let f = l.few in
    record { there = there; within = omega arith; place = place-within cut i row sound below there }

-- ---- what can be read and charged

numbers-length : (ws : List (List ℕ)) (o c w p : ℕ) → o < length ws → length (numbers_at (set ws o (set (numbers_at ws o) c w)) p) ≡ length (numbers_at ws p)
numbers-length ws o c w p lt = elim (cases_eq p o) [
  | inl e ↦ ap (λ q. length (numbers_at (set ws o (set (numbers_at ws o) c w)) q)) e ∙ ap length (get_or-set_same ws o (set (numbers_at ws o) c w) [] lt) ∙ length-set (numbers_at ws o) c w ∙ ap (λ q. length (numbers_at ws q)) (sym e)
  | inr ne ↦ ap length (get_or-set_other ws o p (set (numbers_at ws o) c w) [] ne)
]

pub can-read : (old new : KeptSum) (o c w : ℕ) → CanBeRead old → o < length old.weights.items → IsWeightPut old new o c w → CanBeRead new
can-read old new o c w is lt put = record {
  cells = rw put.cells is.cells;
  count = ap length put.weights ∙ length-set old.weights.items o (set (numbers_at old.weights.items o) c w) ∙ is.count ∙ ap (λ rs. length rs.items) (sym put.readers);
  room = λ p below.
      let n = ap length put.weights ∙ length-set old.weights.items o (set (numbers_at old.weights.items o) c w) in
      let l : length (numbers_at new.weights.items p) ≡ length (numbers_at old.weights.items p) = ap (λ ws. length (numbers_at ws p)) put.weights ∙ numbers-length old.weights.items o c w p lt in
      let r = is.room p (omega arith) in
      let e : cells_in new.cells ≡ cells_in old.cells = ap cells_in put.cells in
      omega arith;
  near = rw (put.readers, put.cells) is.near;
}

can-charge : (cut : Cut) (old new : KeptSum) (o c w : ℕ) → CanBeCharged cut old → o < length old.weights.items → IsWeightPut old new o c w → AreCharged cut new → CanBeCharged cut new
can-charge cut old new o c w is lt put charged = record {
  sound = is.sound;
  read = can-read old new o c w is.read lt put;
  inside = rw (put.readers, put.cells) is.inside;
  charged = charged;
}

read-there : {I : Type 0} → (tables : List (Track (Held I))) (k : KeptSum) (o c position : ℕ) (r : Reader) (t : Track (Held I)) (row : Row) → IsSound (shown tables) → r.track < length tables → t ≡ get_or tables r.track t
    → reader_at k.readers.items o ≡ r → pos position ≡ (r.at +ℤ pos (offset_of k.cells c)) → Has row (map row_in t.rows) → covers row.seg (pos position) ≡ true → IsReadThere (shown tables) k o c row
read-there tables k o c position r t row sound lt e is at there cov =
    let cut = shown tables in
    let n = shown-length tables in
    let rows : track_at cut r.track ≡ with_rows row_in t = shown-at tables r.track t lt e in
    let h : Has row (track_at cut r.track).rows = subst (λ (k : Track Row). Has row k.rows) (sym rows) there in
    let below : r.track < length cut = omega arith in
    record {
      track = subst (λ (q : Reader). q.track < length cut) (sym is) below;
      there = subst (λ (q : Reader). Has row (track_at cut q.track).rows) (sym is) h;
      covered = subst (λ (q : Reader). covers row.seg (q.at +ℤ pos (offset_of k.cells c)) ≡ true) (sym is) (subst (λ z. covers row.seg z ≡ true) at cov);
    }

pub put-opened : {I : Type 0} → (tables : List (Track (Held I))) (old new : KeptSum) (o c w position : ℕ) (r : Reader) (t : Track (Held I)) → CanBeCharged (shown tables) old → o < length old.readers.items
    → r ≡ get_or old.readers.items o r → r.track < length tables → t ≡ get_or tables r.track t → pos position ≡ (r.at +ℤ pos (offset_of old.cells c)) → IsOpenedOver (map row_in t.rows) position
    → IsWeightPut old new o c w → new.charges ≡ old.charges → CanBeCharged (shown tables) new
put-opened tables old new o c w position r t can lt e below te at over put charges =
    let n = can.read.count in
    let lw : o < length old.weights.items = omega arith in
    let there = read-there tables old o c position r t over.row can.sound below te (reader-is old.readers.items o r lt e) at over.there over.covered in
    can-charge (shown tables) old new o c w can lw put (charged-opened (shown tables) old new o c w over.row can.sound put lw there over.opened charges can.charged)

pub put-closed : {I : Type 0} → (tables : List (Track (Held I))) (old new : KeptSum) (o c w position : ℕ) (r : Reader) (t : Track (Held I)) (g : Seg) → CanBeCharged (shown tables) old → o < length old.readers.items
    → r ≡ get_or old.readers.items o r → r.track < length tables → t ≡ get_or tables r.track t → pos position ≡ (r.at +ℤ pos (offset_of old.cells c)) → IsClosedOver (map row_in t.rows) position g
    → IsWeightPut old new o c w → new.charges ≡ set old.charges (band_of (shown tables) r.track + g.start / 16) (charge_in new r.track g) → CanBeCharged (shown tables) new
put-closed tables old new o c w position r t g can lt e below te at over put charges =
    let n = can.read.count in
    let lw : o < length old.weights.items = omega arith in
    let is = reader-is old.readers.items o r lt e in
    let row : Row = record { seg = g; readings = None } in
    let in_rows : Has row (map row_in t.rows) = subst (λ (x : Row). Has x (map row_in t.rows)) over.closed over.there in
    let cov : covers g (pos position) ≡ true = subst (λ (x : Row). covers x.seg (pos position) ≡ true) over.closed over.covered in
    let there = read-there tables old o c position r t row can.sound below te is at in_rows cov in
    let cs = subst (λ (q : Reader). new.charges ≡ set old.charges (band_of (shown tables) q.track + g.start / 16) (charge_in new q.track g)) (sym is) charges in
    can-charge (shown tables) old new o c w can lw put (charged-closed (shown tables) old new o c w g can.sound put lw there cs can.charged)

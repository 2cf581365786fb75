-- The rows that one gave way to are charged anew.
use Rattle.std.proofs.Common.{◌≡◌, ℕ, zero, suc, ◌+◌, ◌/◌, ◌<◌, ◌≤◌, cond, true, false, inl, inr, ℤ, pos, Option, None, List, [], ◌∷◌, ◌++◌, length, get_or, set, get_or-set_same, get_or-set_other, length-set, refl, sym, ap, subst, ◌∙◌, arith}
use Rattle.std.specs.Prelude.{is_some}
use Rattle.segment.specs.declared.segments.Seg.{Seg}
use Rattle.bounds.specs.Segments.{covers}
use Rattle.tops.specs.Tops.{number}
use Rattle.descent.specs.declared.kept.KeptSum.{KeptSum}
use Rattle.descent.specs.Changed.{GaveWay, AreHalvesOfRow}
use Rattle.descent.specs.Charges.{AreRecharged}
use Rattle.descent.specs.Choice.{Has}
use Rattle.descent.specs.Held.{Held, row_in, shown}
use Rattle.descent.specs.KeptSums.{band_of, charge_in, place_of, row_charge}
use Rattle.descent.specs.Readers.{track_at}
use Rattle.descent.specs.Rows.{Row, Track, Cut, with_rows}
use Rattle.descent.specs.Sound.{IsSound}
use Rattle.descent.specs.Standing.{IsClosedOver, IsOpenedOver}
use Rattle.descent.proofs.RowLaws.{covers-at, lies-in, one-of-track, place-within}

-- a table, as the track of a cut
pub shown-at : {I : Type 0} → (tables : List (Track (Held I))) (i : ℕ) (t : Track (Held I)) → i < length tables → t ≡ get_or tables i t → track_at (shown tables) i ≡ with_rows row_in t
shown-at [] i t lt e = absurd (omega arith)
shown-at (x ∷ tables) zero t lt e = ap (with_rows row_in) (sym e)
shown-at (x ∷ tables) (suc i) t lt e = shown-at tables i t (omega arith) e

pub shown-length : {I : Type 0} → (tables : List (Track (Held I))) → length (shown tables) ≡ length tables
shown-length [] = refl
shown-length (x ∷ tables) = ap suc (shown-length tables)

has-new : (front new back : List Row) (row : Row) → Has row new → Has row (front ++ new ++ back)
has-new [] new back row h = has-front new back row h
  where
    has-front : (xs ys : List Row) (x : Row) → Has x xs → Has x (xs ++ ys)
    has-front [] ys x h = absurd h
    has-front (y ∷ xs) ys x (inl e) = inl e
    has-front (y ∷ xs) ys x (inr h) = inr (has-front xs ys x h)
has-new (x ∷ front) new back row h = inr (has-new front new back row h)

pub has-changed : (now : Cut) (i : ℕ) (front new back : List Row) (row : Row) → (track_at now i).rows ≡ front ++ new ++ back → Has row new → Has row (track_at now i).rows
has-changed now i front new back row e h = subst (Has row) (sym e) (has-new front new back row h)

-- the row at a position
pub row-there : (now : Cut) (i : ℕ) (row : Row) → IsSound now → i < length now → Has row (track_at now i).rows → covers row.seg (pos row.seg.start) ≡ true
row-there now i row sound lt h = let l = lies-in now i row sound lt h in let s = l.some in covers-at row.seg row.seg.start (omega arith) (omega arith)

-- two rows at one position
pub row-one : (now : Cut) (i : ℕ) (row read : Row) (position : ℕ) → IsSound now → i < length now → Has row (track_at now i).rows → row.seg.start ≡ position → Has read (track_at now i).rows
    → covers read.seg (pos position) ≡ true → read ≡ row
row-one now i row read position sound lt h at there cov =
    one-of-track now i read row (pos position) sound lt there h cov (subst (λ p. covers row.seg (pos p) ≡ true) at (row-there now i row sound lt h))

-- ---- it was opened

charge-none : (k : KeptSum) (i : ℕ) (row : Row) → is_some row.readings ≡ true → row_charge k i row ≡ 0
charge-none k i row e = ap (λ b. cond b 0 (charge_in k i row.seg)) e

pub recharge-opened : (now : Cut) (i : ℕ) (old : Row) (front new back : List Row) (k : KeptSum) → IsSound now → i < length now → (track_at now i).rows ≡ front ++ new ++ back → GaveWay old new
    → IsOpenedOver (track_at now i).rows old.seg.start → band_of now i + old.seg.start / 16 < length k.charges → AreRecharged now i new k (set k.charges (band_of now i + old.seg.start / 16) 0)
recharge-opened now i old front [] back k sound lt is gave over within = absurd gave
recharge-opened now i old front (new ∷ []) back k sound lt is gave over within =
    let start : new.seg.start ≡ old.seg.start = ap (λ (g : Seg). g.start) gave.seg in
    let place : place_of now i new ≡ band_of now i + old.seg.start / 16 = ap (λ s. band_of now i + s / 16) start in
    let at = band_of now i + old.seg.start / 16 in
    let opened : is_some new.readings ≡ true = rw gave.opened refl in
    record {
      room = length-set k.charges at 0;
      each = λ row h. elim h [
        | inl e ↦ rw e (ap (number (set k.charges at 0)) place ∙ get_or-set_same k.charges at 0 0 within ∙ sym (charge-none k i new opened))
        | inr never ↦ absurd never
      ];
      others = λ p other. get_or-set_other k.charges at p 0 0 (λ e. other new (inl refl) (place ∙ sym e));
    }
recharge-opened now i old front (left ∷ right ∷ []) back k sound lt is gave over within =
    let there = has-changed now i front (left ∷ right ∷ []) back left is (inl refl) in
    let e = row-one now i left over.row old.seg.start sound lt there gave.starts over.there over.covered in
    let bad : false ≡ true = sym (ap is_some gave.left_closed) ∙ sym (ap (λ (r : Row). is_some r.readings) e) ∙ over.opened in
    let n : ⊥ = cc in
    absurd n
recharge-opened now i old front (a ∷ b ∷ c ∷ new) back k sound lt is gave over within = absurd gave

-- ---- it was split

charge-closed : (k : KeptSum) (i : ℕ) (row : Row) → row.readings ≡ None → row_charge k i row ≡ charge_in k i row.seg
charge-closed k i row e = ap (λ (o : Option (List ℤ)). cond (is_some o) 0 (charge_in k i row.seg)) e

-- the halves that stand where a row gave way
pub record IsSplit (now : Cut) (i : ℕ) (old : Row) (new : List Row) (left : Seg) : Type 0 where
  pub first : Row
  pub second : Row
  pub both : new ≡ first ∷ second ∷ []
  pub halves : AreHalvesOfRow old first second
  pub left_is : left ≡ first.seg
  pub left_there : Has first (track_at now i).rows
  pub right_there : Has second (track_at now i).rows

pub is-split : (now : Cut) (i : ℕ) (old : Row) (front new back : List Row) (left : Seg) → IsSound now → i < length now → (track_at now i).rows ≡ front ++ new ++ back → GaveWay old new
    → IsClosedOver (track_at now i).rows old.seg.start left → IsSplit now i old new left
is-split now i old front [] back left sound lt is gave over = absurd gave
is-split now i old front (new ∷ []) back left sound lt is gave over =
    let there = has-changed now i front (new ∷ []) back new is (inl refl) in
    let start : new.seg.start ≡ old.seg.start = ap (λ (g : Seg). g.start) gave.seg in
    let e = row-one now i new over.row old.seg.start sound lt there start over.there over.covered in
    let opened : is_some new.readings ≡ true = rw gave.opened refl in
    let bad : false ≡ true = sym (ap (λ (r : Row). is_some r.readings) over.closed) ∙ ap (λ (r : Row). is_some r.readings) e ∙ opened in
    let n : ⊥ = cc in
    absurd n
is-split now i old front (first ∷ second ∷ []) back left sound lt is gave over =
    let there = has-changed now i front (first ∷ second ∷ []) back first is (inl refl) in
    let e = row-one now i first over.row old.seg.start sound lt there gave.starts over.there over.covered in
    record {
      first = first;
      second = second;
      both = refl;
      halves = gave;
      left_is = ap (λ (r : Row). r.seg) (sym over.closed ∙ e);
      left_there = there;
      right_there = has-changed now i front (first ∷ second ∷ []) back second is (inr (inl refl));
    }
is-split now i old front (a ∷ b ∷ c ∷ new) back left sound lt is gave over = absurd gave

-- its second half
pub right-is : (now : Cut) (i : ℕ) (old : Row) (new : List Row) (left right : Seg) → IsSound now → i < length now → (s : IsSplit now i old new left) → IsClosedOver (track_at now i).rows (left.start + left.len) right
    → right ≡ s.second.seg
right-is now i old new left right sound lt s over =
    let start : s.second.seg.start ≡ left.start + left.len = rw s.left_is s.halves.next in
    let e = row-one now i s.second over.row (left.start + left.len) sound lt s.right_there start over.there over.covered in
    ap (λ (r : Row). r.seg) (sym over.closed ∙ e)

pub right-closed : (now : Cut) (i : ℕ) (old : Row) (new : List Row) (left : Seg) → IsSound now → i < length now → IsSplit now i old new left → IsOpenedOver (track_at now i).rows (left.start + left.len) → ⊥
right-closed now i old new left sound lt s over =
    let start : s.second.seg.start ≡ left.start + left.len = rw s.left_is s.halves.next in
    let e = row-one now i s.second over.row (left.start + left.len) sound lt s.right_there start over.there over.covered in
    let bad : false ≡ true = sym (ap is_some s.halves.right_closed) ∙ sym (ap (λ (r : Row). is_some r.readings) e) ∙ over.opened in
    cc

pub recharge-split : (now : Cut) (i : ℕ) (old : Row) (new : List Row) (left right : Seg) (k : KeptSum) → IsSound now → i < length now → (s : IsSplit now i old new left) → right ≡ s.second.seg
    → band_of now (length now) ≤ length k.charges
    → AreRecharged now i new k (set (set k.charges (band_of now i + left.start / 16) (charge_in k i left)) (band_of now i + right.start / 16) (charge_in k i right))
recharge-split now i old new left right k sound lt s right_is room = subst (λ rows. AreRecharged now i rows k charges) (sym s.both) (record {
  room = length-set (set k.charges p v) q w ∙ length-set k.charges p v;
  each = λ row h. elim h [
    | inl e ↦ rw e (ap (number charges) (sym p-is) ∙ get_or-set_other (set k.charges p v) q p w 0 apart ∙ get_or-set_same k.charges p v 0 p-within ∙ ap (charge_in k i) s.left_is ∙ sym (charge-closed k i s.first s.halves.left_closed))
    | inr rest ↦ elim rest [
      | inl e ↦ rw e (ap (number charges) (sym q-is) ∙ get_or-set_same (set k.charges p v) q w 0 q-within ∙ ap (charge_in k i) right_is ∙ sym (charge-closed k i s.second s.halves.right_closed))
      | inr never ↦ absurd never
    ]
  ];
  others = λ r other.
      get_or-set_other (set k.charges p v) q r w 0 (λ e. other s.second (inr (inl refl)) (sym q-is ∙ sym e))
      ∙ get_or-set_other k.charges p r v 0 (λ e. other s.first (inl refl) (sym p-is ∙ sym e));
})
  where
    p : ℕ
    p = band_of now i + left.start / 16

    q : ℕ
    q = band_of now i + right.start / 16

    v : ℕ
    v = charge_in k i left

    w : ℕ
    w = charge_in k i right

    charges : List ℕ
    charges = set (set k.charges p v) q w

    p-is : p ≡ place_of now i s.first
    p-is = ap (λ (g : Seg). band_of now i + g.start / 16) s.left_is

    q-is : q ≡ place_of now i s.second
    q-is = ap (λ (g : Seg). band_of now i + g.start / 16) right_is

    p-within : p < length k.charges
    p-within = let a = place-within now i s.first sound lt s.left_there in let e = p-is in omega arith

    q-within : q < length (set k.charges p v)
    q-within = let a = place-within now i s.second sound lt s.right_there in let e = q-is in let n = length-set k.charges p v in omega arith

    apart : p ≡ q → ⊥
    apart e =
        let n = s.halves.next in
        let f = s.halves.full in
        let h = s.halves.some in
        let a = ap (λ (g : Seg). g.start) s.left_is in
        let b = ap (λ (g : Seg). g.start) right_is in
        omega arith

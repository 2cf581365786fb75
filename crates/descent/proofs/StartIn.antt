-- Where a row that gave way stood.
use Rattle.std.proofs.Common.{◌≡◌, ℕ, ◌+◌, ◌/◌, ◌^◌, ◌<◌, ◌≤◌, inl, inr, List, [], ◌∷◌, ◌++◌, length, map, get_or, refl, sym, ap, subst, arith}
use Rattle.segment.specs.declared.segments.Seg.{Seg}
use Rattle.descent.specs.Changed.{GaveWay}
use Rattle.descent.specs.Held.{Held, row_in, shown}
use Rattle.descent.specs.KeptSums.{band_of}
use Rattle.descent.specs.Readers.{track_at}
use Rattle.descent.specs.Rows.{Row, Track, Cut}
use Rattle.descent.specs.Sound.{IsSound}
use Rattle.descent.specs.Standing.{IsClosedOver, IsOpenedOver}
use Rattle.descent.proofs.Anew.{has-changed, shown-at, IsSplit}
use Rattle.descent.proofs.RowLaws.{lies-in, place-within}

pub record StoodIn (now : Cut) (i : ℕ) (old : Row) : Type 0 where
  pub below : old.seg.start < (track_at now i).len
  pub within : old.seg.start + old.seg.len ≤ 2 ^ 20
  pub place : band_of now i + old.seg.start / 16 < band_of now (length now)

pub stood-in : (now : Cut) (i : ℕ) (old : Row) (front new back : List Row) → IsSound now → i < length now → (track_at now i).rows ≡ front ++ new ++ back → GaveWay old new → StoodIn now i old
stood-in now i old front [] back sound lt is gave = absurd gave
stood-in now i old front (new ∷ []) back sound lt is gave =
    let there = has-changed now i front (new ∷ []) back new is (inl refl) in
    let l = lies-in now i new sound lt there in
    let s = l.some in
    let w = l.within in
    let f = l.few in
    let start = ap (λ (g : Seg). g.start) gave.seg in
    let len = ap (λ (g : Seg). g.len) gave.seg in
    let p = place-within now i new sound lt there in
    record { below = omega arith; within = omega arith; place = subst (λ k. band_of now i + k / 16 < band_of now (length now)) start p }
stood-in now i old front (left ∷ right ∷ []) back sound lt is gave =
    let there = has-changed now i front (left ∷ right ∷ []) back left is (inl refl) in
    let behind = has-changed now i front (left ∷ right ∷ []) back right is (inr (inl refl)) in
    let l = lies-in now i left sound lt there in
    let r = lies-in now i right sound lt behind in
    let s = l.some in
    let w = l.within in
    let v = r.within in
    let f = l.few in
    let start = gave.starts in
    let next = gave.next in
    let whole = gave.whole in
    let p = place-within now i left sound lt there in
    record { below = omega arith; within = omega arith; place = subst (λ k. band_of now i + k / 16 < band_of now (length now)) start p }
stood-in now i old front (a ∷ b ∷ c ∷ new) back sound lt is gave = absurd gave

-- the rows of a table
pub opened-over : {I : Type 0} → (tables : List (Track (Held I))) (i position : ℕ) (t : Track (Held I)) → i < length tables → t ≡ get_or tables i t → IsOpenedOver (map row_in t.rows) position → IsOpenedOver (track_at (shown tables) i).rows position
opened-over tables i position t lt e over = subst (λ (k : Track Row). IsOpenedOver k.rows position) (sym (shown-at tables i t lt e)) over

pub closed-over : {I : Type 0} → (tables : List (Track (Held I))) (i position : ℕ) (t : Track (Held I)) (g : Seg) → i < length tables → t ≡ get_or tables i t → IsClosedOver (map row_in t.rows) position g → IsClosedOver (track_at (shown tables) i).rows position g
closed-over tables i position t g lt e over = subst (λ (k : Track Row). IsClosedOver k.rows position g) (sym (shown-at tables i t lt e)) over

-- the second half lies in the track
pub right-below : (now : Cut) (i : ℕ) (old : Row) (new : List Row) (left : Seg) → IsSound now → i < length now → (s : IsSplit now i old new left) → left.start + left.len < (track_at now i).len
right-below now i old new left sound lt s =
    let l = lies-in now i s.second sound lt s.right_there in
    let some = l.some in
    let w = l.within in
    let n = s.halves.next in
    let a = ap (λ (g : Seg). g.start) s.left_is in
    let b = ap (λ (g : Seg). g.len) s.left_is in
    omega arith

-- Sums and greatest numbers over the offsets of a sum are those over the pieces that lie one behind the other.
use Rattle.std.proofs.Common.{◌≡◌, ℕ, zero, suc, ◌+◌, ◌-◌, ◌<◌, ◌≤◌, max, inl, inr, ℤ, pos, ◌+ℤ◌, refl, sym, ap, ap₂, ◌∙◌, arith}
use Rattle.std.proofs.lemmas.Bool.{cases_lt}
use Rattle.std.proofs.lemmas.Int.{ints}
use Rattle.semantics.specs.Sums.{most_below, sum_below, total_below}
use Rattle.descent.specs.Kept.{behind, AreOffsets, AreTiled, IsJoint}

-- ---- sums and maxima of two parts

pub total_below-split : (f : ℕ → ℤ) (m n : ℕ)
    → total_below f (m + n) ≡ total_below f m +ℤ total_below (behind f m) n
total_below-split f m zero = let e : m + 0 ≡ m = omega arith in rw e (omega (arith, ints))
total_below-split f m (suc n) =
    let e : m + suc n ≡ suc (m + n) = omega arith in
    let i = total_below-split f m n in
    rw e (omega (arith, ints, i))

pub most_below-split : (f : ℕ → ℕ) (m n : ℕ) → most_below f (m + n) ≡ max (most_below f m) (most_below (behind f m) n)
most_below-split f m zero = let e : m + 0 ≡ m = omega arith in rw e (omega arith)
most_below-split f m (suc n) =
    let e : m + suc n ≡ suc (m + n) = omega arith in
    let i = most_below-split f m n in
    rw e (omega (arith, i))

pub total_below-same : (f g : ℕ → ℤ) (n : ℕ) → ((j : ℕ) → j < n → f j ≡ g j) → total_below f n ≡ total_below g n
total_below-same f g zero h = refl
total_below-same f g (suc n) h =
    ap₂ (λ a b. a +ℤ b) (total_below-same f g n (λ j lt. h j (omega arith))) (h n (omega arith))

pub most_below-same : (f g : ℕ → ℕ) (n : ℕ) → ((j : ℕ) → j < n → f j ≡ g j) → most_below f n ≡ most_below g n
most_below-same f g zero h = refl
most_below-same f g (suc n) h = omega (arith, h n (omega arith), most_below-same f g n (λ j lt. h j (omega arith)))

pub sum_below-same : (f g : ℕ → ℕ) (n : ℕ) → ((j : ℕ) → j < n → f j ≡ g j) → sum_below f n ≡ sum_below g n
sum_below-same f g zero h = refl
sum_below-same f g (suc n) h = omega (arith, h n (omega arith), sum_below-same f g n (λ j lt. h j (omega arith)))

pub most_below-none : (f : ℕ → ℕ) (n : ℕ) → ((j : ℕ) → j < n → f j ≡ 0) → most_below f n ≡ 0
most_below-none f zero h = refl
most_below-none f (suc n) h = omega (arith, h n (omega arith), most_below-none f n (λ j lt. h j (omega arith)))

-- ---- where only the first counts

most_below-first : (f : ℕ → ℕ) (n v : ℕ) → f 0 ≡ v → ((j : ℕ) → 0 < j → j < suc n → f j ≡ 0) → most_below f (suc n) ≡ v
most_below-first f zero v e h = omega arith
most_below-first f (suc n) v e h =
    let i = most_below-first f n v e (λ j some lt. h j some (omega arith)) in
    omega (arith, h (suc n) (omega arith) (omega arith), i)

pub most_below-one : (f : ℕ → ℕ) (n v : ℕ) → 0 < n → f 0 ≡ v → ((j : ℕ) → 0 < j → j < n → f j ≡ 0)
    → most_below f n ≡ v
most_below-one f zero v some e h = absurd (omega arith)
most_below-one f (suc n) v some e h = most_below-first f n v e h

total_below-first : (f : ℕ → ℤ) (n : ℕ) (v : ℤ) → f 0 ≡ v → ((j : ℕ) → 0 < j → j < suc n → f j ≡ pos 0)
    → total_below f (suc n) ≡ v
total_below-first f zero v e h = omega (arith, ints)
total_below-first f (suc n) v e h =
    let i = total_below-first f n v e (λ j some lt. h j some (omega arith)) in
    omega (arith, ints, h (suc n) (omega arith) (omega arith), i)

pub total_below-one : (f : ℕ → ℤ) (n : ℕ) (v : ℤ) → 0 < n → f 0 ≡ v → ((j : ℕ) → 0 < j → j < n → f j ≡ pos 0)
    → total_below f n ≡ v
total_below-one f zero v some e h = absurd (omega arith)
total_below-one f (suc n) v some e h = total_below-first f n v e h

-- ---- offsets

pub offset-le : (offset : ℕ → ℕ) (cells n c : ℕ) → AreOffsets offset cells n → c ≤ cells → offset c ≤ n
offset-le offset cells n c are le = elim (cases_lt c cells) [
  | inl lt ↦ let r = are.rising c cells lt (omega arith) in let e = are.last in omega arith
  | inr ge ↦ let e : c ≡ cells = omega arith in let l = are.last in rw e (omega arith)
]

-- ---- all pieces from a joint on

-- how many cells and offsets are left
record Step (offset : ℕ → ℕ) (cells n c len : ℕ) : Type 0 where
  rest : cells - c ≡ len + (cells - (c + len))
  wide : n - offset c ≡ (offset (c + len) - offset c) + (n - offset (c + len))
  up : offset c ≤ offset (c + len)

step : (offset : ℕ → ℕ) (cells n c len : ℕ) → AreOffsets offset cells n → 0 < len → c + len ≤ cells
    → Step offset cells n c len
step offset cells n c len are some within =
    let r = are.rising c (c + len) (omega arith) within in
    let le = offset-le offset cells n (c + len) are within in
    record { rest = omega arith; wide = omega arith; up = omega arith }

tail-most : (lens offset f w : ℕ → ℕ) (cells n : ℕ) → AreOffsets offset cells n → AreTiled lens cells
    → ((c : ℕ) → 0 < lens c → f c ≡ most_below (behind w (offset c)) (offset (c + lens c) - offset c))
    → ((c : ℕ) → lens c ≡ 0 → f c ≡ 0)
    → (fuel c : ℕ) → cells ≤ c + fuel → c ≤ cells → IsJoint lens cells c
    → most_below (behind f c) (cells - c) ≡ most_below (behind w (offset c)) (n - offset c)
tail-most lens offset f w cells n are tiled piece blank fuel c long le (inl e) =
    let z : cells - c ≡ 0 = omega arith in
    let y : n - offset c ≡ 0 = let l = are.last in rw e (omega arith) in
    rw (z, y) refl
tail-most lens offset f w cells n are tiled piece blank zero c long le (inr some) =
    let p = (tiled.each c some).within in absurd (omega arith)
tail-most lens offset f w cells n are tiled piece blank (suc fuel) c long le (inr some) =
    let p = tiled.each c some in
    let len = lens c in
    let s = step offset cells n c len are some p.within in
    let m = cells - (c + len) in
    let wide = offset (c + len) - offset c in
    let k = n - offset (c + len) in
    let up = s.up in
    let i = tail-most lens offset f w cells n are tiled piece blank fuel (c + len) (omega arith) p.within p.next in
    let z : c + 0 ≡ c = omega arith in
    let here : most_below (behind f c) len ≡ most_below (behind w (offset c)) wide =
    most_below-one (behind f c) len (most_below (behind w (offset c)) wide) some (ap f z ∙ piece c some)
    (λ j low high. blank (c + j) (p.inside j low high)) in
    let cells-moved : most_below (behind (behind f c) len) m ≡ most_below (behind f (c + len)) m =
    most_below-same (behind (behind f c) len) (behind f (c + len)) m (λ j lt. ap f (omega arith)) in
    let offsets-moved : most_below (behind (behind w (offset c)) wide) k ≡ most_below (behind w (offset (c + len))) k =
    most_below-same (behind (behind w (offset c)) wide) (behind w (offset (c + len))) k
    (λ j lt. ap w (omega arith)) in
    ap (most_below (behind f c)) s.rest
    ∙ most_below-split (behind f c) len m
    ∙ ap₂ max here (cells-moved ∙ i ∙ sym offsets-moved)
    ∙ sym (most_below-split (behind w (offset c)) wide k)
    ∙ ap (most_below (behind w (offset c))) (sym s.wide)

tail-total : (lens offset : ℕ → ℕ) (f w : ℕ → ℤ) (cells n : ℕ) → AreOffsets offset cells n → AreTiled lens cells
    → ((c : ℕ) → 0 < lens c → f c ≡ total_below (behind w (offset c)) (offset (c + lens c) - offset c))
    → ((c : ℕ) → lens c ≡ 0 → f c ≡ pos 0)
    → (fuel c : ℕ) → cells ≤ c + fuel → c ≤ cells → IsJoint lens cells c
    → total_below (behind f c) (cells - c) ≡ total_below (behind w (offset c)) (n - offset c)
tail-total lens offset f w cells n are tiled piece blank fuel c long le (inl e) =
    let z : cells - c ≡ 0 = omega arith in
    let y : n - offset c ≡ 0 = let l = are.last in rw e (omega arith) in
    rw (z, y) refl
tail-total lens offset f w cells n are tiled piece blank zero c long le (inr some) =
    let p = (tiled.each c some).within in absurd (omega arith)
tail-total lens offset f w cells n are tiled piece blank (suc fuel) c long le (inr some) =
    let p = tiled.each c some in
    let len = lens c in
    let s = step offset cells n c len are some p.within in
    let m = cells - (c + len) in
    let wide = offset (c + len) - offset c in
    let k = n - offset (c + len) in
    let up = s.up in
    let i = tail-total lens offset f w cells n are tiled piece blank fuel (c + len) (omega arith) p.within p.next in
    let z : c + 0 ≡ c = omega arith in
    let here : total_below (behind f c) len ≡ total_below (behind w (offset c)) wide =
    total_below-one (behind f c) len (total_below (behind w (offset c)) wide) some (ap f z ∙ piece c some)
    (λ j low high. blank (c + j) (p.inside j low high)) in
    let cells-moved : total_below (behind (behind f c) len) m ≡ total_below (behind f (c + len)) m =
    total_below-same (behind (behind f c) len) (behind f (c + len)) m (λ j lt. ap f (omega arith)) in
    let offsets-moved : total_below (behind (behind w (offset c)) wide) k
    ≡ total_below (behind w (offset (c + len))) k =
    total_below-same (behind (behind w (offset c)) wide) (behind w (offset (c + len))) k
    (λ j lt. ap w (omega arith)) in
    ap (total_below (behind f c)) s.rest
    ∙ total_below-split (behind f c) len m
    ∙ ap₂ (λ a b. a +ℤ b) here (cells-moved ∙ i ∙ sym offsets-moved)
    ∙ sym (total_below-split (behind w (offset c)) wide k)
    ∙ ap (total_below (behind w (offset c))) (sym s.wide)

-- the first cell is a joint
start : (lens : ℕ → ℕ) (cells : ℕ) → AreTiled lens cells → IsJoint lens cells 0
start lens zero tiled = inl refl
start lens (suc cells) tiled = inr (tiled.first (omega arith))

-- a number for each piece, which is the greatest over its offsets: the greatest of all is that over all offsets
pub tiles-most : (lens offset f w : ℕ → ℕ) (cells n : ℕ) → AreOffsets offset cells n → AreTiled lens cells
    → ((c : ℕ) → 0 < lens c → f c ≡ most_below (behind w (offset c)) (offset (c + lens c) - offset c))
    → ((c : ℕ) → lens c ≡ 0 → f c ≡ 0) → most_below f cells ≡ most_below w n
tiles-most lens offset f w cells n are tiled piece blank =
    let t = tail-most lens offset f w cells n are tiled piece blank cells 0 (omega arith) (omega arith)
    (start lens cells tiled) in
    let first = are.first in
    let all : cells ≡ cells - 0 = omega arith in
    let whole : n - offset 0 ≡ n = omega arith in
    most_below-same f (behind f 0) cells (λ j lt. ap f (omega arith))
    ∙ ap (most_below (behind f 0)) all ∙ t
    ∙ ap₂ (λ a b. most_below (behind w a) b) first whole
    ∙ most_below-same (behind w 0) w n (λ j lt. ap w (omega arith))

pub tiles-total : (lens offset : ℕ → ℕ) (f w : ℕ → ℤ) (cells n : ℕ) → AreOffsets offset cells n → AreTiled lens cells
    → ((c : ℕ) → 0 < lens c → f c ≡ total_below (behind w (offset c)) (offset (c + lens c) - offset c))
    → ((c : ℕ) → lens c ≡ 0 → f c ≡ pos 0) → total_below f cells ≡ total_below w n
tiles-total lens offset f w cells n are tiled piece blank =
    let t = tail-total lens offset f w cells n are tiled piece blank cells 0 (omega arith) (omega arith)
    (start lens cells tiled) in
    let first = are.first in
    let all : cells ≡ cells - 0 = omega arith in
    let whole : n - offset 0 ≡ n = omega arith in
    total_below-same f (behind f 0) cells (λ j lt. ap f (omega arith))
    ∙ ap (total_below (behind f 0)) all ∙ t
    ∙ ap₂ (λ a b. total_below (behind w a) b) first whole
    ∙ total_below-same (behind w 0) w n (λ j lt. ap w (omega arith))

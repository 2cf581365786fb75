-- The greatest weight at the cells that are read in a segment.
use Rattle.std.proofs.Common.{◌≡◌, ℕ, zero, suc, ◌+◌, ◌-◌, ◌<◌, max, cond, ℤ, List, refl, ap, ◌∙◌, arith}
use Rattle.semantics.specs.Sums.{most_below}
use Rattle.segment.specs.declared.segments.Seg.{Seg}
use Rattle.tops.specs.Tops.{number, number_from, most_in}
use Rattle.descent.specs.declared.cells.Cells.{Cells}
use Rattle.descent.specs.Cells.{cells_in, offset_of}
use Rattle.descent.specs.Kept.{behind, kept_in}
use Rattle.descent.specs.Settled.{AreReadIn}

split : (f : ℕ → ℕ) (m n : ℕ) → most_below f (m + n) ≡ max (most_below f m) (most_below (behind f m) n)
split f m zero = let e : m + 0 ≡ m = omega arith in rw e (omega arith)
split f m (suc n) =
    let e : m + suc n ≡ suc (m + n) = omega arith in
    let i = split f m n in
    rw e (omega (arith, i))

pub most-same : (f g : ℕ → ℕ) (n : ℕ) → ((j : ℕ) → j < n → f j ≡ g j) → most_below f n ≡ most_below g n
most-same f g zero h = refl
most-same f g (suc n) h = omega (arith, h n (omega arith), most-same f g n (λ j lt. h j (omega arith)))

pub most-none : (f : ℕ → ℕ) (n : ℕ) → ((j : ℕ) → j < n → f j ≡ 0) → most_below f n ≡ 0
most-none f zero h = refl
most-none f (suc n) h = omega (arith, h n (omega arith), most-none f n (λ j lt. h j (omega arith)))

pub kept-run : (xs : List ℕ) (g : Cells) (at : ℤ) (s : Seg) (a b : ℕ) → AreReadIn g at s a b → most_in xs a b ≡ most_below (kept_in (offset_of g) (number xs) at s) (cells_in g)
kept-run xs g at s a b is =
    let f = kept_in (offset_of g) (number xs) at s in
    let n = cells_in g in
    let o = is.order in
    let w = is.within in
    let none-before : most_below f a ≡ 0 = most-none f a (λ j l. ap (λ t. cond t (number xs j) 0) (is.before j l)) in
    let inside : most_below (behind f a) (b - a) ≡ most_below (number_from xs a) (b - a) =
    most-same (behind f a) (number_from xs a) (b - a) (λ j l. ap (λ t. cond t (number xs (a + j)) 0) (is.inside (a + j) (omega arith) (omega arith))) in
    let none-behind : most_below (behind f b) (n - b) ≡ 0 = most-none (behind f b) (n - b) (λ j l. ap (λ t. cond t (number xs (b + j)) 0) (is.behind (b + j) (omega arith) (omega arith))) in
    let e : n ≡ b + (n - b) = omega arith in
    let d : b ≡ a + (b - a) = omega arith in
    let first : most_below f n ≡ max (most_below f b) (most_below (behind f b) (n - b)) = ap (most_below f) e ∙ split f b (n - b) in
    let second : most_below f b ≡ max (most_below f a) (most_below (behind f a) (b - a)) = ap (most_below f) d ∙ split f a (b - a) in
    omega (arith, first, second, none-before, inside, none-behind)

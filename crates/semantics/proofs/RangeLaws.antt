-- Laws of sums over a part of the positions.
use Rattle.std.proofs.Common.{◌≡◌, ℕ, zero, suc, ◌+◌, ◌-◌, ◌≤◌, ◌<◌, ℤ, pos, ◌+ℤ◌, ◌-ℤ◌, unsigned_abs, refl, sym, ap, ◌∙◌, arith, add-zero, add-suc}
use Rattle.std.proofs.lemmas.Int.{ints}
use Rattle.semantics.specs.Sums.{total_below, sum_below}
use Rattle.semantics.proofs.SumLaws.{total_below-same, total_below-split}

-- f, counted from a position
abbrev pub behind : {A : Type 0} → (ℕ → A) → ℕ → ℕ → A
behind f a i = f (a + i)

pub sum_below-split : (f : ℕ → ℕ) (m n : ℕ) → sum_below f (m + n) ≡ sum_below f m + sum_below (behind f m) n
sum_below-split f m zero = let e : m + 0 ≡ m = add-zero m in omega (arith, ap (sum_below f) e)
sum_below-split f m (suc n) = rw add-suc (omega (arith, sum_below-split f m n))

-- a part of the positions sums to no more than all
pub sum_below-behind : (f : ℕ → ℕ) (a k n : ℕ) → a + k ≤ n → sum_below (behind f a) k ≤ sum_below f n
sum_below-behind f a k n inside =
    let e : sum_below f n ≡ sum_below f ((a + k) + (n - (a + k))) = ap (sum_below f) (omega arith) in
    omega (arith, e, sum_below-split f (a + k) (n - (a + k)), sum_below-split f a k)

-- two sums are no further apart than the sum of the gaps
pub total_below-near : (f g : ℕ → ℤ) (h : ℕ → ℕ) (n : ℕ) → ((i : ℕ) → i < n → unsigned_abs (f i -ℤ g i) ≤ h i) → unsigned_abs (total_below f n -ℤ total_below g n) ≤ sum_below h n
total_below-near f g h zero gap = omega (arith, ints)
total_below-near f g h (suc n) gap = omega (arith, ints, total_below-near f g h n (λ i lt. gap i (omega arith)), gap n (omega arith))

-- the sum over the positions from a up to b
unfoldable pub total_over : (ℕ → ℤ) → ℕ → ℕ → ℤ
total_over f a b = total_below (behind f a) (b - a)

pub total_over-none : (f : ℕ → ℤ) (a b : ℕ) → b ≤ a → total_over f a b ≡ pos 0
unfolding total_over
total_over-none f a b none = let e : b - a ≡ 0 = omega arith in rw e refl

pub total_over-split : (f : ℕ → ℤ) (a m b : ℕ) → a ≤ m → m ≤ b → total_over f a b ≡ total_over f a m +ℤ total_over f m b
unfolding total_over
total_over-split f a m b left right =
    let n : b - a ≡ (m - a) + (b - m) = omega arith in
    let rest : total_below (behind (behind f a) (m - a)) (b - m) ≡ total_below (behind f m) (b - m) =
    total_below-same (behind (behind f a) (m - a)) (behind f m) (b - m) (λ i lt. ap f (omega arith)) in
    ap (total_below (behind f a)) n ∙ total_below-split (behind f a) (m - a) (b - m) ∙ ap (λ t. total_below (behind f a) (m - a) +ℤ t) rest

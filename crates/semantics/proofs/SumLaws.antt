-- Laws of sums over positions.
use Rattle.std.proofs.Common.{◌≡◌, ℕ, zero, suc, ◌+◌, ◌*◌, ◌≤◌, ◌<◌, max, ℤ, pos, ◌+ℤ◌, ◌-ℤ◌, ◌*ℤ◌, unsigned_abs, refl, sym, ap, ap₂, ◌∙◌, arith, add-one, add-zero, add-suc, inl, inr}
use Rattle.std.proofs.lemmas.Int.{ints}
use Rattle.std.proofs.lemmas.Bool.{cases_lt}
use Rattle.semantics.specs.Sums.{total_below, sum_below, most_below}
use Rattle.semantics.proofs.Ring.{*ℤ-+ℤ, abs-+ℤ}

-- a loop's step
pub total_below-more : (f : ℕ → ℤ) (i : ℕ) (s t x : ℤ) → s ≡ total_below f i → x ≡ f i → t ≡ s +ℤ x → t ≡ total_below f (i + 1)
total_below-more f i s t x so here sum = rw (add-one, sum, so, here) refl

pub total_below-same : (f g : ℕ → ℤ) (n : ℕ) → ((i : ℕ) → i < n → f i ≡ g i) → total_below f n ≡ total_below g n
total_below-same f g zero h = refl
total_below-same f g (suc n) h = ap₂ ◌+ℤ◌ (total_below-same f g n (λ i lt. h i (omega arith))) (h n (omega arith))

pub total_below-zero : (n : ℕ) → total_below (λ i. pos 0) n ≡ pos 0
total_below-zero zero = refl
total_below-zero (suc n) = omega (arith, ints, total_below-zero n)

pub total_below-+ℤ : (f g : ℕ → ℤ) (n : ℕ) → total_below (λ i. f i +ℤ g i) n ≡ total_below f n +ℤ total_below g n
total_below-+ℤ f g zero = refl
total_below-+ℤ f g (suc n) = omega (arith, ints, total_below-+ℤ f g n)

pub total_below--ℤ : (f g : ℕ → ℤ) (n : ℕ) → total_below (λ i. f i -ℤ g i) n ≡ total_below f n -ℤ total_below g n
total_below--ℤ f g zero = refl
total_below--ℤ f g (suc n) = omega (arith, ints, total_below--ℤ f g n)

pub total_below-*ℤ : (k : ℤ) (f : ℕ → ℤ) (n : ℕ) → total_below (λ i. k *ℤ f i) n ≡ k *ℤ total_below f n
total_below-*ℤ k f zero = omega (arith, ints)
total_below-*ℤ k f (suc n) = ap (λ z. z +ℤ k *ℤ f n) (total_below-*ℤ k f n) ∙ sym (*ℤ-+ℤ k (total_below f n) (f n))

-- a sum over m + n positions, cut at m
pub total_below-split : (f : ℕ → ℤ) (m n : ℕ) → total_below f (m + n) ≡ total_below f m +ℤ total_below (λ i. f (m + i)) n
total_below-split f m zero = rw add-zero (omega (arith, ints))
total_below-split f m (suc n) = rw add-suc (omega (arith, ints, total_below-split f m n))

-- the sum of numbers that are at most k in magnitude
pub abs-total_below : (f : ℕ → ℤ) (n k : ℕ) → ((i : ℕ) → i < n → unsigned_abs (f i) ≤ k) → unsigned_abs (total_below f n) ≤ n * k
abs-total_below f zero k h = omega arith
abs-total_below f (suc n) k h = omega (arith, abs-+ℤ (total_below f n) (f n), abs-total_below f n k (λ i lt. h i (omega arith)), h n (omega arith))

pub sum_below-more : (f : ℕ → ℕ) (i s x : ℕ) → s ≡ sum_below f i → x ≡ f i → s + x ≡ sum_below f (i + 1)
sum_below-more f i s x so here = rw (add-one, so, here) refl

pub sum_below-le : (f : ℕ → ℕ) (n k : ℕ) → ((i : ℕ) → i < n → f i ≤ k) → sum_below f n ≤ n * k
sum_below-le f zero k h = omega arith
sum_below-le f (suc n) k h = omega (arith, sum_below-le f n k (λ i lt. h i (omega arith)), h n (omega arith))

pub most_below-more : (f : ℕ → ℕ) (i s x : ℕ) → s ≡ most_below f i → x ≡ f i → max s x ≡ most_below f (i + 1)
most_below-more f i s x so here = rw (add-one, so, here) refl

pub most_below-le : (f : ℕ → ℕ) (n k : ℕ) → ((i : ℕ) → i < n → f i ≤ k) → most_below f n ≤ k
most_below-le f zero k h = omega arith
most_below-le f (suc n) k h = omega (arith, most_below-le f n k (λ i lt. h i (omega arith)), h n (omega arith))

pub most_below-at : (f : ℕ → ℕ) (n i : ℕ) → i < n → f i ≤ most_below f n
most_below-at f zero i lt = absurd (omega arith)
most_below-at f (suc n) i lt = elim (cases_lt i n) [
  | inl less ↦ omega (arith, most_below-at f n i less)
  | inr most ↦ let e : i ≡ n = omega arith in omega (arith, ap f e)
]

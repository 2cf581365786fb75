-- More laws of sums over positions.
use Rattle.std.proofs.Common.{◌≡◌, ℕ, zero, suc, ◌+◌, ◌*◌, ◌≤◌, ◌<◌, max, refl, ap, ◌∙◌, arith}
use Rattle.semantics.specs.Sums.{sum_below, most_below}

pub sum_below-mono : (f g : ℕ → ℕ) (n : ℕ) → ((j : ℕ) → j < n → f j ≤ g j) → sum_below f n ≤ sum_below g n
sum_below-mono f g zero h = omega arith
sum_below-mono f g (suc n) h = omega (arith, sum_below-mono f g n (λ j lt. h j (omega arith)), h n (omega arith))

pub sum_below-same : (f g : ℕ → ℕ) (n : ℕ) → ((j : ℕ) → j < n → f j ≡ g j) → sum_below f n ≡ sum_below g n
sum_below-same f g zero h = refl
sum_below-same f g (suc n) h = omega (arith, sum_below-same f g n (λ j lt. h j (omega arith)), h n (omega arith))

pub sum_below-add : (f g : ℕ → ℕ) (n : ℕ) → sum_below (λ j. f j + g j) n ≡ sum_below f n + sum_below g n
sum_below-add f g zero = omega arith
sum_below-add f g (suc n) = omega (arith, sum_below-add f g n)

pub sum_below-scale : (k : ℕ) (f : ℕ → ℕ) (n : ℕ) → sum_below (λ j. k * f j) n ≡ k * sum_below f n
sum_below-scale k f zero = omega arith
sum_below-scale k f (suc n) = omega (arith, sum_below-scale k f n)

pub sum_below-zero : (n : ℕ) → sum_below (λ _. 0) n ≡ 0
sum_below-zero zero = refl
sum_below-zero (suc n) = omega (arith, sum_below-zero n)

-- sums in either order
pub sum_below-swap : (f : ℕ → ℕ → ℕ) (n k : ℕ) → sum_below (λ j. sum_below (λ o. f j o) k) n ≡ sum_below (λ o. sum_below (λ j. f j o) n) k
sum_below-swap f n zero = sum_below-zero n
sum_below-swap f n (suc k) =
    sum_below-add (λ j. sum_below (λ o. f j o) k) (λ j. f j k) n ∙ ap (λ x. x + sum_below (λ j. f j k) n) (sum_below-swap f n k)

-- the first one apart
pub sum_below-front : (f : ℕ → ℕ) (n : ℕ) → sum_below f (suc n) ≡ f 0 + sum_below (λ j. f (suc j)) n
sum_below-front f zero = omega arith
sum_below-front f (suc n) = omega (arith, sum_below-front f n)

-- the greatest over so many places more, all of one number
pub most_below-run : (f : ℕ → ℕ) (n len w : ℕ) → 1 ≤ len → ((j : ℕ) → j < len → f (n + j) ≡ w) → most_below f (n + len) ≡ max (most_below f n) w
most_below-run f n zero w some h = absurd (omega arith)
most_below-run f n (suc zero) w some h =
    let q : n + suc zero ≡ suc n = omega arith in
    let z : n ≡ n + 0 = omega arith in
    let e : most_below f (n + suc zero) ≡ max (most_below f n) (f n) = ap (most_below f) q in
    let g : f n ≡ w = ap f z ∙ h 0 (omega arith) in
    omega (arith, e, g)
most_below-run f n (suc (suc k)) w some h =
    let q : n + suc (suc k) ≡ suc (n + suc k) = omega arith in
    let e : most_below f (n + suc (suc k)) ≡ max (most_below f (n + suc k)) (f (n + suc k)) = ap (most_below f) q in
    omega (arith, e, h (suc k) (omega arith), most_below-run f n (suc k) w (omega arith) (λ j lt. h j (omega arith)))

-- Ring laws of ℤ, by differences of natural numbers.
--
-- An identity of polynomials over ℤ is proved in one line: write each variable as a difference, multiply out, and
-- compare in ℕ. `rw (← diff-of a, ← diff-of b) (simp differences (diff-same _ _ _ _ (omega arith)))`
use Rattle.std.proofs.Common.{◌≡◌, ℕ, ◌+◌, ◌*◌, ◌≤◌, ℤ, pos, ◌+ℤ◌, ◌-ℤ◌, ◌*ℤ◌, neg_ℤ, unsigned_abs, ap, arith}
use Rattle.std.proofs.lemmas.Int.{ints}
use borrow.Author.Differences.{up, down, same_in}

-- the whole number m - n
pub diff : ℕ → ℕ → ℤ
diff m n = pos m -ℤ pos n

-- what a difference is, for `omega`
pub diff_is : (m n : ℕ) → up (diff m n) + n ≡ down (diff m n) + m
unfolding diff
diff_is m n = omega (arith, ints)

pub diff-of : (z : ℤ) → diff (up z) (down z) ≡ z
diff-of z = same_in (diff (up z) (down z)) z (omega (arith, diff_is (up z) (down z)))

pub diff-same : (a b c d : ℕ) → a + d ≡ c + b → diff a b ≡ diff c d
diff-same a b c d e = same_in (diff a b) (diff c d) (omega (arith, diff_is a b, diff_is c d))

pub diff-pos : (n : ℕ) → pos n ≡ diff n 0
diff-pos n = same_in (pos n) (diff n 0) (omega (arith, ints, diff_is n 0))

pub diff-add : (a b c d : ℕ) → diff a b +ℤ diff c d ≡ diff (a + c) (b + d)
diff-add a b c d = same_in _ (diff (a + c) (b + d)) (omega (arith, ints, diff_is a b, diff_is c d, diff_is (a + c) (b + d)))

pub diff-neg : (a b : ℕ) → neg_ℤ (diff a b) ≡ diff b a
diff-neg a b = same_in _ (diff b a) (omega (arith, ints, diff_is a b, diff_is b a))

pub diff-mul : (a b c d : ℕ) → diff a b *ℤ diff c d ≡ diff (a * c + b * d) (a * d + b * c)
diff-mul a b c d =
    let hx : up (diff a b) + b ≡ down (diff a b) + a = diff_is a b in
    let hy : up (diff c d) + d ≡ down (diff c d) + c = diff_is c d in
    same_in _ (diff (a * c + b * d) (a * d + b * c))
    (omega (
      arith,
      ints,
      diff_is (a * c + b * d) (a * d + b * c),
      ap (λ n. n * up (diff c d)) hx,
      ap (λ n. n * down (diff c d)) hx,
      ap (λ n. a * n) hy,
      ap (λ n. b * n) hy,
    ))

-- multiplies out, for `simp`
pub ruleset differences = (diff-mul, diff-add, diff-neg)

-- ---- the laws

pub *ℤ-+ℤ : (a b c : ℤ) → a *ℤ (b +ℤ c) ≡ a *ℤ b +ℤ a *ℤ c
*ℤ-+ℤ a b c = rw (← diff-of a, ← diff-of b, ← diff-of c) (simp differences (diff-same _ _ _ _ (omega arith)))

pub +ℤ-*ℤ : (a b c : ℤ) → (a +ℤ b) *ℤ c ≡ a *ℤ c +ℤ b *ℤ c
+ℤ-*ℤ a b c = rw (← diff-of a, ← diff-of b, ← diff-of c) (simp differences (diff-same _ _ _ _ (omega arith)))

pub *ℤ_comm : (a b : ℤ) → a *ℤ b ≡ b *ℤ a
*ℤ_comm a b = rw (← diff-of a, ← diff-of b) (simp differences (diff-same _ _ _ _ (omega arith)))

pub *ℤ_assoc : (a b c : ℤ) → (a *ℤ b) *ℤ c ≡ a *ℤ (b *ℤ c)
*ℤ_assoc a b c = rw (← diff-of a, ← diff-of b, ← diff-of c) (simp differences (diff-same _ _ _ _ (omega arith)))

-- ---- absolute values

pub abs-+ℤ : (a b : ℤ) → unsigned_abs (a +ℤ b) ≤ unsigned_abs a + unsigned_abs b
abs-+ℤ a b = omega (arith, ints)

pub abs--ℤ : (a b : ℤ) → unsigned_abs (a -ℤ b) ≤ unsigned_abs a + unsigned_abs b
abs--ℤ a b = omega (arith, ints)

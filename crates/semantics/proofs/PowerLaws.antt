-- Laws of small powers.
use Rattle.std.proofs.Common.{◌≡◌, ℕ, ◌*◌, ◌^◌, ap, ◌∙◌, arith, pow-suc}
use Rattle.std.proofs.Math.Nat.{pow-zero}

pub one_is : (n : ℕ) → n ^ 1 ≡ n
one_is n = pow-suc n 0 ∙ rw pow-zero (omega arith)

pub pow-2 : (n : ℕ) → n ^ 2 ≡ n * n
pow-2 n = omega (arith, pow-suc n 1, ap (λ m. m * n) (one_is n))

pub pow-3 : (n : ℕ) → n ^ 3 ≡ n * (n * n)
pow-3 n = omega (arith, pow-suc n 2, ap (λ m. m * n) (pow-2 n))

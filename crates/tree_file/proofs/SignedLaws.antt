-- Two's complement of n bytes.
use Rattle.std.proofs.Common.{◌≡◌, ℕ, zero, suc, ◌+◌, ◌-◌, ◌*◌, ◌%◌, ◌^◌, ◌<◌, ◌≤◌, ℤ, pos, negsuc, refl, sym, ap, ◌∙◌, arith, inl, inr, take_all}
use Rattle.std.proofs.Math.Nat.{mod-eq_of_lt, pow-suc, pow-succ', one-le-pow}
use Rattle.std.proofs.lemmas.Nat.{pow-add, mod-mul-add}
use Rattle.std.proofs.lemmas.Bool.{cases_lt, lt-ltb, le-ltb}
use Rattle.std.proofs.lemmas.Int.{ints}
use Rattle.std.specs.Int.{w64, w128, cast_unsigned, cast_signed}
use Rattle.byteorder.specs.Endian.{twos_complement, low_bytes}
use Rattle.tree_file.specs.Bytes.{IsSignedOf, bytes_of, number_of, wrapped, unwrapped}
use Rattle.tree_file.specs.Laws.{UnsignedWritesBack, SignedReadsBack, SignedWritesBack}
use Rattle.tree_file.proofs.Digits.{number_of-bytes_of, bytes_of-number_of, number_of-lt}

-- two ways to write the size of n bytes
pow256 : (n : ℕ) → 256 ^ n ≡ 2 ^ (8 * n)
pow256 zero = refl
pow256 (suc n) =
    let e : 8 * suc n ≡ 8 * n + 8 = omega arith in
    rw (pow-suc 256 n, pow256 n, e, pow-add 2 (8 * n) 8) refl

-- the size of n bytes is twice the sign bit
twice : (n : ℕ) → 1 ≤ n → 256 ^ n ≡ 2 * 2 ^ (8 * n - 1)
twice n some =
    let whole : 8 * n ≡ suc (8 * n - 1) = omega arith in
    pow256 n ∙ ap (λ (e : ℕ). 2 ^ e) whole ∙ pow-succ' 2 (8 * n - 1)

pub wrapped-lt : (n : ℕ) (z : ℤ) → 1 ≤ n → IsSignedOf n z → wrapped n z < 256 ^ n
unfolding wrapped
wrapped-lt n (pos k) some fits = omega (arith, twice n some, fits)
wrapped-lt n (negsuc k) some fits = omega (arith, twice n some, fits)

pub unwrapped-wrapped : (n : ℕ) (z : ℤ) → 1 ≤ n → IsSignedOf n z → unwrapped n (wrapped n z) ≡ z
unfolding wrapped unwrapped
unwrapped-wrapped n (pos k) some fits = rw (lt-ltb k (2 ^ (8 * n - 1)) fits) refl
unwrapped-wrapped n (negsuc k) some fits =
    let back : 256 ^ n - suc (256 ^ n - suc k) ≡ k = omega (arith, twice n some, fits) in
    rw (le-ltb (256 ^ n - suc k) (2 ^ (8 * n - 1)) (omega (arith, twice n some, fits)), back) refl

pub wrapped-unwrapped : (n x : ℕ) → 1 ≤ n → x < 256 ^ n → wrapped n (unwrapped n x) ≡ x
unfolding wrapped unwrapped
wrapped-unwrapped n x some fits = elim (cases_lt x (2 ^ (8 * n - 1))) [
  | inl lt ↦ rw (lt-ltb x (2 ^ (8 * n - 1)) lt) refl
  | inr le ↦ rw (le-ltb x (2 ^ (8 * n - 1)) le) (omega (arith, fits))
]

-- the sign bit decides as in the library's own words
pub twos_complement-unwrapped : (n x : ℕ) → 1 ≤ n → x < 256 ^ n → twos_complement n x ≡ unwrapped n x
unfolding unwrapped
twos_complement-unwrapped n x some fits = elim (cases_lt x (2 ^ (8 * n - 1))) [
  | inl lt ↦ rw (lt-ltb x (2 ^ (8 * n - 1)) lt) refl
  | inr le ↦ rw (le-ltb x (2 ^ (8 * n - 1)) le) (omega (arith, ints, fits, pow256 n))
]

-- a multiple less one, and one more
one_less : (a m : ℕ) → 1 ≤ a → (a - 1) * m + m ≡ a * m
one_less zero m h = absurd (omega arith)
one_less (suc a) m h = grind arith

pub low_bytes-wrapped : (n : ℕ) (z : ℤ) → 1 ≤ n → n ≤ 16 → IsSignedOf n z → low_bytes w128 n z ≡ wrapped n z
unfolding wrapped
low_bytes-wrapped n (pos k) some few fits =
    let small : k < 2 ^ (8 * n) = omega (arith, twice n some, pow256 n, fits) in
    mod-eq_of_lt small
low_bytes-wrapped n (negsuc k) some few fits =
    let parts : 128 ≡ (128 - 8 * n) + 8 * n = omega arith in
    let times : 2 ^ 128 ≡ 2 ^ (128 - 8 * n) * 2 ^ (8 * n) = ap (λ (e : ℕ). 2 ^ e) parts ∙ pow-add 2 (128 - 8 * n) (8 * n) in
    let above = one-le-pow (128 - 8 * n) 2 (omega arith) in
    let less : (2 ^ (128 - 8 * n) - 1) * 2 ^ (8 * n) + 2 ^ (8 * n) ≡ 2 ^ (128 - 8 * n) * 2 ^ (8 * n) = one_less (2 ^ (128 - 8 * n)) (2 ^ (8 * n)) above in
    let whole : 2 ^ (8 * n) ≡ 2 * 2 ^ (8 * n - 1) = sym (pow256 n) ∙ twice n some in
    let split : 2 ^ 128 - suc k ≡ (2 ^ (128 - 8 * n) - 1) * 2 ^ (8 * n) + (2 ^ (8 * n) - suc k) = omega (arith, less, times, whole, fits) in
    let small : 2 ^ (8 * n) - suc k < 2 ^ (8 * n) = omega (arith, whole, fits) in
    ap (λ (x : ℕ). x % 2 ^ (8 * n)) split ∙ mod-mul-add (2 ^ (128 - 8 * n) - 1) (2 ^ (8 * n)) (2 ^ (8 * n) - suc k) small
    ∙ ap (λ (x : ℕ). x - suc k) (sym (pow256 n))

-- the casts of 64 bits
pub cast-wrapped : (z : ℤ) → cast_unsigned w64 z ≡ wrapped 8 z
unfolding wrapped
cast-wrapped (pos k) = refl
cast-wrapped (negsuc k) = refl

pub cast-unwrapped : (x : ℕ) → cast_signed w64 x ≡ unwrapped 8 x
unfolding unwrapped
cast-unwrapped x = refl

pub unsigned-written : UnsignedWritesBack
unsigned-written n bytes long are = bytes_of-number_of n bytes (omega (arith, long)) are ∙ take_all n bytes (omega (arith, long))

pub signed-read : SignedReadsBack
signed-read n z rest some fits = ap (unwrapped n) (number_of-bytes_of n (wrapped n z) rest (wrapped-lt n z some fits)) ∙ unwrapped-wrapped n z some fits

pub signed-written : SignedWritesBack
signed-written n bytes some long are = ap (bytes_of n) (wrapped-unwrapped n (number_of n bytes) some (number_of-lt n bytes are)) ∙ unsigned-written n bytes long are

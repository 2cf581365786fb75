-- Laws of quotients rounded down and up.
use Rattle.std.proofs.Common.{◌≡◌, ℕ, zero, suc, ◌+◌, ◌*◌, ◌/◌, ◌≤◌, ◌<◌, ℤ, pos, negsuc, ◌+ℤ◌, ◌-ℤ◌, ◌*ℤ◌, neg_ℤ, unsigned_abs, arith}
use Rattle.std.specs.Prelude.{◌≤ℤ◌}
use Rattle.std.proofs.Math.Nat.{le-div_iff_mul-le, div-lt_iff_lt-mul}
use Rattle.std.proofs.lemmas.Nat.{div_below}
use Rattle.std.proofs.lemmas.Int.{ints}
use Rattle.semantics.specs.Quotients.{floor_of, ceil_of}

least_div : (a m n : ℕ) → 0 < n → n * m ≤ a → m ≤ a / n
least_div a m n h k = (le-div_iff_mul-le h).1 (omega arith)

below_div : (a m n : ℕ) → 0 < n → a < n * m → a / n < m
below_div a m n h k = (div-lt_iff_lt-mul h).1 (omega arith)

-- what is at most z in n-folds is at most the floor
pub at_most_floor : (z v : ℤ) (n : ℕ) → 0 < n → (pos n *ℤ v) ≤ℤ z → v ≤ℤ floor_of z n
at_most_floor (pos a) (pos m) n h k = let r : n * m ≤ a = omega (arith, ints) in let q : m ≤ a / n = least_div a m n h (omega (arith, ints)) in omega (arith, ints)
at_most_floor (pos a) (negsuc m) n h k = omega (arith, ints)
at_most_floor (negsuc a) (pos m) n h k = absurd (omega (arith, ints))
at_most_floor (negsuc a) (negsuc m) n h k = let q : a / n < suc m = below_div a (suc m) n h (omega (arith, ints)) in omega (arith, ints)

-- the floor is at most z in n-folds
pub floor_at_most : (z : ℤ) (n : ℕ) → 0 < n → (pos n *ℤ floor_of z n) ≤ℤ z
floor_at_most (pos a) n h = omega (arith, ints)
floor_at_most (negsuc a) n h = omega (arith, ints)

times_negative : (n : ℕ) (v : ℤ) → pos n *ℤ neg_ℤ v ≡ neg_ℤ (pos n *ℤ v)
times_negative n (pos zero) = omega (arith, ints)
times_negative n (pos (suc m)) = omega (arith, ints)
times_negative n (negsuc m) = omega (arith, ints)

-- what is at least z in n-folds is at least the ceiling
pub at_least_ceil : (z v : ℤ) (n : ℕ) → 0 < n → z ≤ℤ (pos n *ℤ v) → ceil_of z n ≤ℤ v
at_least_ceil z v n h k =
    let e : pos n *ℤ neg_ℤ v ≡ neg_ℤ (pos n *ℤ v) = times_negative n v in
    omega (arith, ints, at_most_floor (neg_ℤ z) (neg_ℤ v) n h (rw e (omega (arith, ints))))

-- the ceiling is at least z in n-folds
pub ceil_at_least : (z : ℤ) (n : ℕ) → 0 < n → z ≤ℤ (pos n *ℤ ceil_of z n)
ceil_at_least z n h =
    let e = times_negative n (floor_of (neg_ℤ z) n) in
    let f = floor_at_most (neg_ℤ z) n h in
    rw e (omega (arith, ints))

-- a value whose n-fold is near an estimate lies between the quotients
pub contains_near : (v estimate : ℤ) (error n : ℕ) → 0 < n → unsigned_abs ((pos n *ℤ v) -ℤ estimate) ≤ error → (ceil_of (estimate -ℤ pos error) n ≤ℤ v) × (v ≤ℤ floor_of (estimate +ℤ pos error) n)
contains_near v estimate error n h k = (at_least_ceil (estimate -ℤ pos error) v n h (omega (arith, ints)), at_most_floor (estimate +ℤ pos error) v n h (omega (arith, ints)))

-- a quotient is no further from 0 than a multiple that bounds the dividend
pub abs-floor_of : (z : ℤ) (n m : ℕ) → 0 < n → unsigned_abs z ≤ m * n → unsigned_abs (floor_of z n) ≤ m
abs-floor_of (pos a) n m some h = omega (arith, div_below a n (m + 1) some (omega arith))
abs-floor_of (negsuc a) n m some h = omega (arith, div_below a n m some (omega arith))

-- a quotient is no further from 0 than the dividend
pub abs-floor_of-le : (z : ℤ) (n : ℕ) → 0 < n → unsigned_abs (floor_of z n) ≤ unsigned_abs z
abs-floor_of-le z n some = abs-floor_of z n (unsigned_abs z) some (grind arith)

-- The positions at which a run of positions lies in a window sum to at most the whole window.
use Rattle.std.proofs.Common.{◌≡◌, ℕ, zero, suc, ◌+◌, ◌≤◌, ℤ, pos, negsuc, ◌+ℤ◌, Bool, true, false, cond, ◌&&◌, nat_le, nat_lt, ◌==◌, ap, arith}
use Rattle.std.proofs.lemmas.Int.{ints}
use Rattle.std.proofs.lemmas.Bool.Decides.{nat_tests}
use Rattle.semantics.specs.Sums.{sum_below}
use Rattle.bounds.proofs.Sums.{sum_below-mono, sum_below-add, sum_below-zero}

-- in start .. start + len
abbrev pub in_window : ℕ → ℕ → ℤ → Bool
in_window start len (pos n) = nat_le start n && nat_lt n (start + len)
in_window start len (negsuc n) = false

-- at p
abbrev pub hits : ℕ → ℤ → Bool
hits p (pos n) = n == p
hits p (negsuc n) = false

-- behind p
abbrev pub passed : ℕ → ℤ → Bool
passed p (pos n) = nat_lt p n
passed p (negsuc n) = false

window_more_pos : (start len n : ℕ) (h : ℤ → ℕ) → cond (nat_le start n && nat_lt n (start + suc len)) (h (pos n)) 0 ≤ cond (nat_le start n && nat_lt n (start + len)) (h (pos n)) 0 + cond (n == (start + len)) (h (pos (start + len))) 0
window_more_pos start len n h = grind (arith, nat_tests)

-- one more
window_more : (start len : ℕ) (i : ℤ) (h : ℤ → ℕ) → cond (in_window start (suc len) i) (h i) 0 ≤ cond (in_window start len i) (h i) 0 + cond (hits (start + len) i) (h (pos (start + len))) 0
window_more start len (pos n) h = window_more_pos start len n h
window_more start len (negsuc n) h = omega arith

pass_pos : (n p c : ℕ) → cond (nat_lt p n) c 0 + cond (n == p) c 0 ≤ cond (nat_lt p (n + 1)) c 0
pass_pos n p c = grind (arith, nat_tests)

pass : (i : ℤ) (p c : ℕ) → cond (passed p i) c 0 + cond (hits p i) c 0 ≤ cond (passed p (i +ℤ pos 1)) c 0
pass (pos n) p c = pass_pos n p c
pass (negsuc n) p c = omega arith

plus_one : (b : ℤ) (n : ℕ) → b +ℤ pos n +ℤ pos 1 ≡ b +ℤ pos (suc n)
plus_one b n = omega (arith, ints)

-- at most one position is the one
one_hit : (n : ℕ) (b : ℤ) (p c : ℕ) → sum_below (λ j. cond (hits p (b +ℤ pos j)) c 0) n ≤ cond (passed p (b +ℤ pos n)) c 0
one_hit zero b p c = omega arith
one_hit (suc n) b p c =
    let e : cond (passed p (b +ℤ pos n +ℤ pos 1)) c 0 ≡ cond (passed p (b +ℤ pos (suc n))) c 0 = ap (λ i. cond (passed p i) c 0) (plus_one b n) in
    omega (arith, one_hit n b p c, pass (b +ℤ pos n) p c, e)

cond_at_most : (t : Bool) (c : ℕ) → cond t c 0 ≤ c
cond_at_most true c = omega arith
cond_at_most false c = omega arith

empty_window_pos : (start n x : ℕ) → cond (nat_le start n && nat_lt n (start + 0)) x 0 ≤ 0
empty_window_pos start n x = grind (arith, nat_tests)

empty_window : (start : ℕ) (i : ℤ) (x : ℕ) → cond (in_window start 0 i) x 0 ≤ 0
empty_window start (pos n) x = empty_window_pos start n x
empty_window start (negsuc n) x = omega arith

pub window_sum : (n : ℕ) (b : ℤ) (start len : ℕ) (h : ℤ → ℕ) → sum_below (λ j. cond (in_window start len (b +ℤ pos j)) (h (b +ℤ pos j)) 0) n ≤ sum_below (λ k. h (pos (start + k))) len
window_sum n b start zero h =
    omega (arith, sum_below-mono (λ j. cond (in_window start 0 (b +ℤ pos j)) (h (b +ℤ pos j)) 0) (λ _. 0) n (λ j _. empty_window start (b +ℤ pos j) (h (b +ℤ pos j))), sum_below-zero n)
window_sum n b start (suc len) h =
    let all : ℕ → ℕ = λ j. cond (in_window start (suc len) (b +ℤ pos j)) (h (b +ℤ pos j)) 0 in
    let less : ℕ → ℕ = λ j. cond (in_window start len (b +ℤ pos j)) (h (b +ℤ pos j)) 0 in
    let hit : ℕ → ℕ = λ j. cond (hits (start + len) (b +ℤ pos j)) (h (pos (start + len))) 0 in
    let step : sum_below all n ≤ sum_below (λ j. less j + hit j) n = sum_below-mono all (λ j. less j + hit j) n (λ j _. window_more start len (b +ℤ pos j) h) in
    omega (arith, step, sum_below-add less hit n, window_sum n b start len h, one_hit n b (start + len) (h (pos (start + len))), cond_at_most (passed (start + len) (b +ℤ pos n)) (h (pos (start + len))))

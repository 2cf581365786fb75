-- Counts of the calls that were to fail, over one more call.
use Rattle.std.proofs.Common.{◌≡◌, ◌≤◌, ◌+◌, ℕ, List, [], ◌∷◌, Some, None, Bool, true, false, cond, eqb, leb, ltb, refl, arith}
use Rattle.std.proofs.lemmas.Bool.Decides.{nat_tests}
use Rattle.std.specs.Prelude.{◌&&◌, ◌||◌}
use Rattle.std.specs.List.{list_any}
use Rattle.semantics.specs.Faults.{Rose}
use Rattle.outside.specs.Calls.{cut_at, cut_next, fails_next, faults_by, numbers_of}
use Rattle.outside.specs.Counts.{count_after, last_number}

faults_by-cons : (x c : ℕ) (xs : List ℕ) → faults_by (x ∷ xs) c ≡ cond (leb 1 x && leb x c) 1 0 + faults_by xs c
faults_by-cons x c xs = refl

one_more : (x c d : ℕ) → c ≤ d → cond (leb 1 x && leb x c) 1 0 ≤ cond (leb 1 x && leb x d) 1 0
one_more x c d h = grind (arith, nat_tests)

one_listed : (x c : ℕ) → eqb x (c + 1) ≡ true → cond (leb 1 x && leb x c) 1 0 + 1 ≤ cond (leb 1 x && leb x (c + 1)) 1 0
one_listed x c h = grind (arith, nat_tests)

-- more calls lose no fault
faults_by-grows : (xs : List ℕ) (c d : ℕ) → c ≤ d → faults_by xs c ≤ faults_by xs d
faults_by-grows [] c d h = omega arith
faults_by-grows (x ∷ xs) c d h = omega (arith, faults_by-cons x c xs, faults_by-cons x d xs, one_more x c d h, faults_by-grows xs c d h)

-- a listed call is a fault
faults_by-listed : (xs : List ℕ) (c : ℕ) → list_any (λ y. eqb y (c + 1)) xs ≡ true → faults_by xs c + 1 ≤ faults_by xs (c + 1)
faults_by-listed [] c h = cc
faults_by-listed (x ∷ xs) c h = by (eqb x (c + 1)) refl (faults_by-listed xs c) h
  where
    by : (b : Bool) → eqb x (c + 1) ≡ b → (list_any (λ y. eqb y (c + 1)) xs ≡ true → faults_by xs c + 1 ≤ faults_by xs (c + 1)) → (b || list_any (λ y. eqb y (c + 1)) xs) ≡ true → faults_by (x ∷ xs) c + 1 ≤ faults_by (x ∷ xs) (c + 1)
    by true e rest h = omega (arith, faults_by-cons x c xs, faults_by-cons x (c + 1) xs, one_listed x c e, faults_by-grows xs c (c + 1) (omega arith))
    by false e rest h = omega (arith, faults_by-cons x c xs, faults_by-cons x (c + 1) xs, one_more x c (c + 1) (omega arith), rest h)

-- one more call loses no fault
pub faults_stay : (listed : List ℕ) (calls : ℕ) → calls ≤ last_number → faults_by listed calls ≤ faults_by listed (count_after calls)
faults_stay listed calls h = faults_by-grows listed calls (count_after calls) (omega arith)

both : (a b : Bool) → (a && b) ≡ true → (a ≡ true) × (b ≡ true)
both true true h = (refl, refl)
both true false h = cc
both false b h = cc

-- a call that is to fail is a fault
pub fault_rises : (listed : List ℕ) (calls : ℕ) → fails_next listed calls ≡ true → Rose (faults_by listed calls) (faults_by listed (count_after calls))
fault_rises listed calls h =
    let parts = both (ltb calls last_number) (list_any (λ y. eqb y (calls + 1)) listed) h in
    let below : calls + 1 ≤ last_number = grind (arith, nat_tests, parts.0) in
    let same : count_after calls ≡ calls + 1 = omega arith in
    rw same (omega (arith, faults_by-listed listed calls parts.1))

cut_at-listed : (pairs : List (ℕ × ℕ)) (number cut : ℕ) → cut_at pairs number ≡ Some cut → list_any (λ k. eqb k number) (numbers_of pairs) ≡ true
cut_at-listed [] number cut h = cc
cut_at-listed (p ∷ pairs) number cut h = by (eqb p.0 number) h (cut_at-listed pairs number cut)
  where
    by : (b : Bool) → cond b (Some p.1) (cut_at pairs number) ≡ Some cut → (cut_at pairs number ≡ Some cut → list_any (λ k. eqb k number) (numbers_of pairs) ≡ true)
        → (b || list_any (λ k. eqb k number) (numbers_of pairs)) ≡ true
    by true h rest = refl
    by false h rest = rest h

fails_next-cut : (pairs : List (ℕ × ℕ)) (calls cut : ℕ) → cut_next pairs calls ≡ Some cut → fails_next (numbers_of pairs) calls ≡ true
fails_next-cut pairs calls cut h = by (ltb calls last_number) h
  where
    by : (b : Bool) → cond b (cut_at pairs (calls + 1)) None ≡ Some cut → (b && list_any (λ k. eqb k (calls + 1)) (numbers_of pairs)) ≡ true
    by true h = cut_at-listed pairs (calls + 1) cut h
    by false h = cc

-- a call with a pair of its number is a fault
pub cut_rises : (pairs : List (ℕ × ℕ)) (calls cut : ℕ) → cut_next pairs calls ≡ Some cut
    → Rose (faults_by (numbers_of pairs) calls) (faults_by (numbers_of pairs) (count_after calls))
cut_rises pairs calls cut h = fault_rises (numbers_of pairs) calls (fails_next-cut pairs calls cut h)

-- Plain queries, and what statistics come to, by computing.
use Rattle.std.proofs.Common.{◌≡◌, ℕ, ℤ, pos, neg_ℤ, List, [], ◌∷◌, Some, refl}
use Rattle.std.specs.Prelude.{codes}
use Rattle.semantics.specs.Plain.{plain}
use Rattle.semantics.specs.Term.{Term, base, times, shift, Range, number, sum, variance, covariance, mul, sub}
use Rattle.semantics.specs.Value.{query_value}

abbrev x : Term
x = base (codes "x")

abbrev whole : Range
whole = record { left = pos 0; right = pos 8 }

-- ---- the plain query

abbrev later : Term
later = shift x (pos 1)

abbrev from_one : Range
from_one = record { left = pos 1; right = pos 8 }

plain_covariance : plain (covariance x later from_one)
    ≡ sub (mul (number (pos 7)) (sum (times x later) (Some from_one))) (mul (sum x (Some from_one)) (sum later (Some from_one)))
plain_covariance = refl

-- ---- the value, over readings of 0 and 10 by turns, four times

abbrev by_turns : List ℕ → List ℤ
by_turns name = pos 0 ∷ pos 10 ∷ pos 0 ∷ pos 10 ∷ pos 0 ∷ pos 10 ∷ pos 0 ∷ pos 10 ∷ []

-- 8 * 400 - 40 * 40
variance_by_turns : query_value by_turns (variance x whole) ≡ pos 1600
variance_by_turns = refl

-- 7 * 0 - 40 * 30
covariance_by_turns : query_value by_turns (covariance x later from_one) ≡ neg_ℤ (pos 1200)
covariance_by_turns = refl

nothing : query_value by_turns (variance x (record { left = pos 3; right = pos 3 })) ≡ pos 0
nothing = refl

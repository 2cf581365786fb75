-- The definitions of value and admission at a few queries, by computing.
use Rattle.std.proofs.Common.{◌≡◌, ℕ, ◌+◌, ◌-◌, ◌^◌, ℤ, pos, neg_ℤ, List, [], ◌∷◌, Some, None, refl}
use Rattle.std.specs.Prelude.{codes}
use Rattle.semantics.specs.Admission.{Fact, unknown, high_rank, outside, too_great, refusal_of}
use Rattle.semantics.specs.Plain.{plain}
use Rattle.semantics.specs.Term.{Term, base, constant, bare, plus, minus, times, shift, QueryTerm, number, sum, variance, add, sub, mul}
use Rattle.semantics.specs.Value.{query_value}

-- ---- admission: x has 32 readings within 10, y has none

abbrev x : Term
x = base (codes "x")

abbrev y : Term
y = base (codes "y")

abbrev z : Term
z = base (codes "z")

abbrev known : List Fact
known = record { name = codes "x"; count = 32; greatest = 10 } ∷ record { name = codes "y"; count = 0; greatest = 0 } ∷ []

abbrev all : Term → QueryTerm
all t = sum t None

abbrev within : Term → ℤ → ℤ → QueryTerm
within t l r = sum t (Some (record { left = l; right = r }))

abbrev great : ℤ
great = pos (10 ^ 35)

whole : refusal_of known (all x) ≡ None
whole = refl

three_factors : refusal_of known (add (all (times x x)) (all (times (times x x) x))) ≡ Some (high_rank 2)
three_factors = refl

one_past : refusal_of known (within x (pos 0) (pos 33)) ≡ Some (outside 1 (pos 0) (pos 32))
one_past = refl

backwards : refusal_of known (within x (pos 2) (pos 1)) ≡ Some (outside 1 (pos 0) (pos 32))
backwards = refl

no_positions : refusal_of known (within x (pos (2 ^ 40)) (pos (2 ^ 40))) ≡ None
no_positions = refl

no_domain : refusal_of known (within (plus x (constant (pos 1) (pos 40) (pos 50))) (pos 0) (pos 1)) ≡ Some (outside 1 (pos 40) (pos 40))
no_domain = refl

unknown_first : refusal_of known (add (all (times (times x x) x)) (within (plus x z) (pos 0) (pos 99))) ≡ Some (unknown (codes "z"))
unknown_first = refl

rank_before_domain : refusal_of known (add (within x (pos 0) (pos 99)) (all (times (times x x) x))) ≡ Some (high_rank 2)
rank_before_domain = refl

greatest_number : refusal_of known (number (pos (2 ^ 125))) ≡ None
greatest_number = refl

one_more : refusal_of known (number (pos (2 ^ 125 + 1))) ≡ Some (too_great 1)
one_more = refl

great_product : refusal_of known (all (times x (bare great))) ≡ Some (too_great 1)
great_product = refl

-- where there are no positions, no units are too great
no_readings : refusal_of known (all (times y (bare great))) ≡ None
no_readings = refl

-- numbers and sums come before the operator over them
in_postorder : refusal_of known (add (number (pos 1)) (mul (number (pos (2 ^ 63))) (number (pos (2 ^ 63))))) ≡ Some (too_great 4)
in_postorder = refl

far_up : refusal_of known (all (shift x (pos (2 ^ 40)))) ≡ None
far_up = refl

far_down : refusal_of known (within (shift x (neg_ℤ (pos (2 ^ 40)))) (neg_ℤ (pos (2 ^ 40))) (neg_ℤ (pos (2 ^ 40 - 32)))) ≡ None
far_down = refl

-- ---- values: x is 3, -1, 4

abbrev readings : List ℕ → List ℤ
readings name = pos 3 ∷ neg_ℤ (pos 1) ∷ pos 4 ∷ []

of_all : query_value readings (all x) ≡ pos 6
of_all = refl

of_shifted : query_value readings (within (times x (shift x (pos 1))) (pos 1) (pos 3)) ≡ neg_ℤ (pos 7)
of_shifted = refl

of_common : query_value readings (all (plus x (shift x (pos 1)))) ≡ pos 5
of_common = refl

of_constant : query_value readings (sub (number (pos 1)) (all (minus x (constant (pos 5) (pos 0) (pos 2))))) ≡ pos 9
of_constant = refl

of_variance : query_value readings (variance x (record { left = pos 0; right = pos 3 })) ≡ pos 42
of_variance = refl

of_plain : query_value readings (plain (variance x (record { left = pos 0; right = pos 3 }))) ≡ pos 42
of_plain = refl

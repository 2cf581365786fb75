-- Laws of the rules of admission.
use Rattle.std.proofs.Common.{ℕ, suc, ◌≡◌, ◌+◌, ◌*◌, ◌^◌, ◌≤◌, max, false, nat_lt, List, [], ◌∷◌, ◌++◌, length, Option, Some, None, refl, sym, ap, ◌∙◌, arith, add-zero, length-append}
use Rattle.std.proofs.lemmas.Bool.Decides.{nat_tests}
use Rattle.std.specs.Option.{option_or}
use Rattle.semantics.specs.Admission.{Fact, NotAdmitted, sums_of, nodes_of, first_refusal, rank_rule, greatest_at, extent_of, is_too_great, HasLowRanks}
use Rattle.semantics.specs.Limits.{sums_in, nodes_in}
use Rattle.semantics.specs.Measures.{units_of, some_part, is_great_over}
use Rattle.semantics.specs.Term.{Term, base, constant, bare, plus, minus, times, shift, Range, QueryTerm, number, sum, variance, covariance, add, sub, mul}

option_or_assoc : {A : Type 0} (a b c : Option A) → option_or (option_or a b) c ≡ option_or a (option_or b c)
option_or_assoc None b c = refl
option_or_assoc (Some x) b c = refl

-- the second list is numbered behind the first
pub first_refusal-append : {A : Type 0} (rule : ℕ → A → Option NotAdmitted) (k : ℕ) (xs ys : List A) → first_refusal rule k (xs ++ ys) ≡ option_or (first_refusal rule k xs) (first_refusal rule (k + length xs) ys)
first_refusal-append rule k [] ys = ap (λ n. first_refusal rule n ys) (sym (add-zero k))
first_refusal-append rule k (x ∷ xs) ys =
    let counted : k + 1 + length xs ≡ k + suc (length xs) = omega arith in
    ap (λ later. option_or (rule k x) later) (first_refusal-append rule (k + 1) xs ys)
    ∙ sym (option_or_assoc (rule k x) (first_refusal rule (k + 1) xs) (first_refusal rule (k + 1 + length xs) ys))
    ∙ ap (λ n. option_or (option_or (rule k x) (first_refusal rule (k + 1) xs)) (first_refusal rule n ys)) counted

-- a node is numbered behind its parts
pub first_refusal-node : {A : Type 0} (rule : ℕ → A → Option NotAdmitted) (k : ℕ) (xs ys : List A) (x : A) → first_refusal rule k (xs ++ ys ++ x ∷ []) ≡ option_or (option_or (first_refusal rule k xs) (first_refusal rule (k + length xs) ys)) (first_refusal rule (k + length xs + length ys) (x ∷ []))
first_refusal-node rule k xs ys x =
    let counted : k + length (xs ++ ys) ≡ k + length xs + length ys = omega (arith, length-append xs ys) in
    first_refusal-append rule k (xs ++ ys) (x ∷ [])
    ∙ ap (λ o. option_or o (first_refusal rule (k + length (xs ++ ys)) (x ∷ []))) (first_refusal-append rule k xs ys)
    ∙ ap (λ n. option_or (option_or (first_refusal rule k xs) (first_refusal rule (k + length xs) ys)) (first_refusal rule n (x ∷ []))) counted

pub length-sums_of : (q : QueryTerm) → length (sums_of q) ≤ sums_in q
length-sums_of (number v) = omega arith
length-sums_of (sum t range) = omega arith
length-sums_of (variance t range) = omega arith
length-sums_of (covariance t u range) = omega arith
length-sums_of (add p q) = grind (arith, length-append, length-sums_of p, length-sums_of q)
length-sums_of (sub p q) = grind (arith, length-append, length-sums_of p, length-sums_of q)
length-sums_of (mul p q) = grind (arith, length-append, length-sums_of p, length-sums_of q)

pub length-nodes_of : (q : QueryTerm) → length (nodes_of q) ≤ nodes_in q
length-nodes_of (number v) = omega arith
length-nodes_of (sum t range) = omega arith
length-nodes_of (variance t range) = omega arith
length-nodes_of (covariance t u range) = omega arith
length-nodes_of (add p q) = simp length-append (omega (arith, length-nodes_of p, length-nodes_of q))
length-nodes_of (sub p q) = simp length-append (omega (arith, length-nodes_of p, length-nodes_of q))
length-nodes_of (mul p q) = simp length-append (omega (arith, length-nodes_of p, length-nodes_of q))

pub first_of_two : {A : Type 0} (rule : ℕ → A → Option NotAdmitted) (k : ℕ) (xs ys : List A) → first_refusal rule k (xs ++ ys) ≡ None → first_refusal rule k xs ≡ None
first_of_two rule k xs ys e =
    let split = sym (first_refusal-append rule k xs ys) ∙ e in
    elim (first_refusal rule k xs) as (λ o. option_or o (first_refusal rule (k + length xs) ys) ≡ None → o ≡ None) [ None ↦ λ h. refl | Some r ↦ λ h. h ] split

pub second_of_two : {A : Type 0} (rule : ℕ → A → Option NotAdmitted) (k : ℕ) (xs ys : List A) → first_refusal rule k (xs ++ ys) ≡ None → first_refusal rule (k + length xs) ys ≡ None
second_of_two rule k xs ys e =
    let split = sym (first_refusal-append rule k xs ys) ∙ e in
    rw (first_of_two rule k xs ys e) at split

pub HasLowRanks-admitted : (k : ℕ) (q : QueryTerm) → first_refusal rank_rule k (sums_of q) ≡ None → HasLowRanks q
HasLowRanks-admitted k (number v) e = tt
HasLowRanks-admitted k (sum t range) e = grind (arith, nat_tests)
HasLowRanks-admitted k (variance t range) e = tt
HasLowRanks-admitted k (covariance t u range) e = tt
HasLowRanks-admitted k (add p q) e = (HasLowRanks-admitted k p (first_of_two rank_rule k (sums_of p) (sums_of q) e), HasLowRanks-admitted (k + length (sums_of p)) q (second_of_two rank_rule k (sums_of p) (sums_of q) e))
HasLowRanks-admitted k (sub p q) e = (HasLowRanks-admitted k p (first_of_two rank_rule k (sums_of p) (sums_of q) e), HasLowRanks-admitted (k + length (sums_of p)) q (second_of_two rank_rule k (sums_of p) (sums_of q) e))
HasLowRanks-admitted k (mul p q) e = (HasLowRanks-admitted k p (first_of_two rank_rule k (sums_of p) (sums_of q) e), HasLowRanks-admitted (k + length (sums_of p)) q (second_of_two rank_rule k (sums_of p) (sums_of q) e))

-- over no positions no part is too great
great_over_none : (D : List ℕ → ℕ) (t : Term) → is_great_over D 0 t ≡ false
great_over_none D t = grind (arith, nat_tests)

pub some_part-great_over_none : (D : List ℕ → ℕ) (t : Term) → some_part (is_great_over D 0) t ≡ false
some_part-great_over_none D (base name) = great_over_none D (base name)
some_part-great_over_none D (constant v a b) = great_over_none D (constant v a b)
some_part-great_over_none D (bare v) = great_over_none D (bare v)
some_part-great_over_none D (plus u v) = rw (some_part-great_over_none D u, some_part-great_over_none D v) (great_over_none D (plus u v))
some_part-great_over_none D (minus u v) = rw (some_part-great_over_none D u, some_part-great_over_none D v) (great_over_none D (minus u v))
some_part-great_over_none D (times u v) = rw (some_part-great_over_none D u, some_part-great_over_none D v) (great_over_none D (times u v))
some_part-great_over_none D (shift u k) = rw (some_part-great_over_none D u) (great_over_none D (shift u k))

small_over_none : (units : ℕ) → nat_lt (2 ^ 125) (max 1 (2 * 0 * units)) ≡ false
small_over_none units = grind (arith, nat_tests)

-- a sum over no positions is not too great
pub is_too_great-none : (facts : List Fact) (t : Term) (range : Option Range) → extent_of facts t range ≡ 0 → is_too_great facts (sum t range) ≡ false
is_too_great-none facts t range e =
    rw (e, some_part-great_over_none (greatest_at facts) t) (small_over_none (units_of (greatest_at facts) t))

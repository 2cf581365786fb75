-- A plain query that no rule refuses is admitted sum by sum and node by node.
use Rattle.std.proofs.Common.{◌≡◌, ℕ, ◌+◌, ◌^◌, ◌≤◌, ℤ, ◌≤ℤ◌, ◌<ℤ◌, Bool, true, false, cond, not, ◌&&◌, ◌||◌, nat_lt, List, [], ◌∷◌, ◌++◌, length, Option, Some, None, refl, sym, ◌∙◌, arith}
use Rattle.std.proofs.lemmas.Bool.{ltb-false}
use Rattle.std.proofs.lemmas.Int.{ints}
use Rattle.std.specs.List.{All, find}
use Rattle.std.proofs.lemmas.List.Elements.{All-nil, All-cons}
use Rattle.std.proofs.lemmas.List.Folds.{find-append}
use Rattle.std.specs.Int.{int_max}
use Rattle.std.specs.Option.{option_or, option_map}
use Rattle.std.specs.Prelude.{int_lt, int_le}
use Rattle.semantics.specs.Admission.{Fact, NotAdmitted, is_unknown, count_at, greatest_at, series_names, query_names, sums_of, nodes_of, is_inside, is_outside, extent_of, bound_of, is_too_great, unknown, outside, too_great, rank_rule, domain_rule, range_rule, first_refusal, refusal_of}
use Rattle.semantics.specs.Admitted.{IsKnown, IsInDomain, IsAdmittedSum, IsAdmitted}
use Rattle.semantics.specs.Measures.{some_part, is_great_over, InRange}
use Rattle.semantics.specs.Term.{Term, base, constant, bare, plus, minus, times, shift, Range, QueryTerm, number, sum, variance, covariance, add, sub, mul}
use Rattle.semantics.specs.Value.{domain_of}
use Rattle.semantics.proofs.AdmissionLaws.{first_of_two, second_of_two, HasLowRanks-admitted}

or_left_false : (a b : Bool) → (a || b) ≡ false → a ≡ false
or_left_false false b e = refl
or_left_false true b e = e

or_right_false : (a b : Bool) → (a || b) ≡ false → b ≡ false
or_right_false false b e = e
or_right_false true b e = absurd (cc)

none_of_three : (a b c : Bool) → (a || b || c) ≡ false → (a ≡ false) × (b ≡ false) × (c ≡ false)
none_of_three a b c e = (or_left_false a b (or_left_false (a || b) c e), or_right_false a b (or_left_false (a || b) c e), or_right_false (a || b) c e)

-- no part is too great
pub InRange-parts : (D : List ℕ → ℕ) (n : ℕ) (t : Term) → some_part (is_great_over D n) t ≡ false → InRange D n t
InRange-parts D n (base name) e = ltb-false _ _ e
InRange-parts D n (constant v a b) e = ltb-false _ _ e
InRange-parts D n (bare v) e = ltb-false _ _ e
InRange-parts D n (plus u v) e = let p = none_of_three (some_part (is_great_over D n) u) (some_part (is_great_over D n) v) (is_great_over D n (plus u v)) e in (InRange-parts D n u p.0, InRange-parts D n v p.1, ltb-false _ _ p.2)
InRange-parts D n (minus u v) e = let p = none_of_three (some_part (is_great_over D n) u) (some_part (is_great_over D n) v) (is_great_over D n (minus u v)) e in (InRange-parts D n u p.0, InRange-parts D n v p.1, ltb-false _ _ p.2)
InRange-parts D n (times u v) e = let p = none_of_three (some_part (is_great_over D n) u) (some_part (is_great_over D n) v) (is_great_over D n (times u v)) e in (InRange-parts D n u p.0, InRange-parts D n v p.1, ltb-false _ _ p.2)
InRange-parts D n (shift u k) e = InRange-parts D n u (or_left_false (some_part (is_great_over D n) u) (is_great_over D n (shift u k)) e)

first_none : {A : Type 0} (a b : Option A) → option_or a b ≡ None → a ≡ None
first_none None b e = refl
first_none (Some x) b e = e

second_none : {A : Type 0} (a b : Option A) → option_or a b ≡ None → b ≡ None
second_none None b e = e
second_none (Some x) b e = absurd (cc)

-- no name is unknown
all_known : (facts : List Fact) (names : List (List ℕ)) → find (is_unknown facts) names ≡ None → All (IsKnown facts) names
all_known facts [] e = All-nil (IsKnown facts)
all_known facts (name ∷ names) e =
    elim (is_unknown facts name) as (λ b. is_unknown facts name ≡ b → cond b (Some name) (find (is_unknown facts) names) ≡ None → All (IsKnown facts) (name ∷ names)) [
      | true ↦ λ is found. absurd (cc)
      | false ↦ λ is found. All-cons (IsKnown facts) name names is (all_known facts names found)
    ] refl e

unmapped : (o : Option (List ℕ)) → option_map unknown o ≡ None → o ≡ None
unmapped None e = refl
unmapped (Some name) e = absurd (cc)

-- a test that refuses nothing did not pass
untested : (b : Bool) (r : NotAdmitted) → cond b (Some r) None ≡ None → b ≡ false
untested true r e = absurd (cc)
untested false r e = refl

is_least : (l r : ℤ) → int_lt r l ≡ false → l ≤ℤ r
is_least l r e = grind (arith, ints)

is_within : (l r a b : ℤ) → (int_lt l r && not (int_le a l && int_le r b)) ≡ false → l <ℤ r → (a ≤ℤ l) × (r ≤ℤ b)
is_within l r a b e some = (grind (arith, ints), grind (arith, ints))

not_outside : (range : Option Range) (domain : Range) → is_outside range domain ≡ false → IsInDomain range domain
not_outside None domain e = tt
not_outside (Some range) domain e =
    let backwards = int_lt range.right range.left in
    let beyond = int_lt range.left range.right && not (is_inside range domain) in
    (is_least range.left range.right (or_left_false backwards beyond e), is_within range.left range.right domain.left domain.right (or_right_false backwards beyond e))

-- what the four rules say of a query, wherever its numbers begin
record IsRefusedNowhere (facts : List Fact) (j k l : ℕ) (q : QueryTerm) : Type 0 where
  names : find (is_unknown facts) (query_names q) ≡ None
  ranks : first_refusal rank_rule j (sums_of q) ≡ None
  domains : first_refusal (domain_rule facts) k (sums_of q) ≡ None
  bounds : first_refusal (range_rule facts) l (nodes_of q) ≡ None

-- the rules of two parts
both_nowhere : (facts : List Fact) (j k l : ℕ) (p q r : QueryTerm) → find (is_unknown facts) (query_names p ++ query_names q) ≡ None → first_refusal rank_rule j (sums_of p ++ sums_of q) ≡ None → first_refusal (domain_rule facts) k (sums_of p ++ sums_of q) ≡ None → first_refusal (range_rule facts) l (nodes_of p ++ nodes_of q ++ r ∷ []) ≡ None
    → IsRefusedNowhere facts j k l p × IsRefusedNowhere facts (j + length (sums_of p)) (k + length (sums_of p)) (l + length (nodes_of p)) q × (is_too_great facts r ≡ false)
both_nowhere facts j k l p q r names ranks domains bounds =
    let found = sym (find-append (is_unknown facts) (query_names p) (query_names q)) ∙ names in
    let parts = first_of_two (range_rule facts) l (nodes_of p ++ nodes_of q) (r ∷ []) bounds in
    let whole = second_of_two (range_rule facts) l (nodes_of p ++ nodes_of q) (r ∷ []) bounds in (
      record {
        names = first_none _ _ found;
        ranks = first_of_two rank_rule j (sums_of p) (sums_of q) ranks;
        domains = first_of_two (domain_rule facts) k (sums_of p) (sums_of q) domains;
        bounds = first_of_two (range_rule facts) l (nodes_of p) (nodes_of q) parts;
      },
      record {
        names = second_none _ _ found;
        ranks = second_of_two rank_rule j (sums_of p) (sums_of q) ranks;
        domains = second_of_two (domain_rule facts) k (sums_of p) (sums_of q) domains;
        bounds = second_of_two (range_rule facts) l (nodes_of p) (nodes_of q) parts;
      },
      untested (is_too_great facts r) (too_great (l + length (nodes_of p ++ nodes_of q))) (first_none _ _ whole),
    )

within_bound : (facts : List Fact) (q : QueryTerm) → nat_lt (2 ^ 125) (bound_of facts q) ≡ false → bound_of facts q ≤ 2 ^ 125
within_bound facts q e = ltb-false _ _ e

IsAdmittedSum-rules : (facts : List Fact) (j k l : ℕ) (t : Term) (range : Option Range) → IsRefusedNowhere facts j k l (sum t range) → IsAdmittedSum facts t range
IsAdmittedSum-rules facts j k l t range h =
    let domain = domain_of (count_at facts) t in
    let parts = some_part (is_great_over (greatest_at facts) (extent_of facts t range)) t in
    let bound = nat_lt (2 ^ 125) (bound_of facts (sum t range)) in
    let small = untested (is_too_great facts (sum t range)) (too_great l) (first_none _ _ h.bounds) in
    record {
      known = all_known facts (series_names t) h.names;
      rank = HasLowRanks-admitted j (sum t range) h.ranks;
      inside = not_outside range domain (untested (is_outside range domain) (outside k domain.left (int_max domain.left domain.right)) (first_none _ _ h.domains));
      in_range = InRange-parts (greatest_at facts) (extent_of facts t range) t (or_left_false parts bound small);
      bound = within_bound facts (sum t range) (or_right_false parts bound small);
    }

IsAdmitted-rules : (facts : List Fact) (q : QueryTerm) (j k l : ℕ) → IsRefusedNowhere facts j k l q → IsAdmitted facts q
IsAdmitted-rules facts (number v) j k l h = within_bound facts (number v) (untested (is_too_great facts (number v)) (too_great l) (first_none _ _ h.bounds))
IsAdmitted-rules facts (sum t range) j k l h = IsAdmittedSum-rules facts j k l t range h
IsAdmitted-rules facts (variance t range) j k l h = tt
IsAdmitted-rules facts (covariance t u range) j k l h = tt
IsAdmitted-rules facts (add p q) j k l h = let both = both_nowhere facts j k l p q (add p q) h.names h.ranks h.domains h.bounds in (IsAdmitted-rules facts p j k l both.0, IsAdmitted-rules facts q _ _ _ both.1, within_bound facts (add p q) both.2)
IsAdmitted-rules facts (sub p q) j k l h = let both = both_nowhere facts j k l p q (sub p q) h.names h.ranks h.domains h.bounds in (IsAdmitted-rules facts p j k l both.0, IsAdmitted-rules facts q _ _ _ both.1, within_bound facts (sub p q) both.2)
IsAdmitted-rules facts (mul p q) j k l h = let both = both_nowhere facts j k l p q (mul p q) h.names h.ranks h.domains h.bounds in (IsAdmitted-rules facts p j k l both.0, IsAdmitted-rules facts q _ _ _ both.1, within_bound facts (mul p q) both.2)

-- a query that no rule refuses is admitted
pub IsAdmitted-unrefused : (facts : List Fact) (q : QueryTerm) → refusal_of facts q ≡ None → IsAdmitted facts q
IsAdmitted-unrefused facts q e =
    let names = unmapped (find (is_unknown facts) (query_names q)) (first_none _ _ e) in
    let after_names = second_none _ _ e in
    let after_ranks = second_none _ _ after_names in
    IsAdmitted-rules facts q 1 1 1
    (record {
      names = names;
      ranks = first_none _ _ after_names;
      domains = first_none _ _ after_ranks;
      bounds = second_none _ _ after_ranks;
    })

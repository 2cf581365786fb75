-- What the code finds from left to right is the choice.
use Rattle.std.proofs.Common.{◌≡◌, ℕ, zero, suc, ◌+◌, ◌-◌, ◌*◌, ◌/◌, ◌^◌, ◌<◌, ◌≤◌, true, false, inl, inr, ℤ, pos, negsuc, ◌-ℤ◌, ◌≤ℤ◌, ◌<ℤ◌, Option, Some, None, List, [], ◌∷◌, length, get_or, refl, sym, ap, subst, ◌∙◌, arith, length-append}
use Rattle.std.specs.Prelude.{nat_le, ◌==◌}
use Rattle.std.specs.Int.{int_max}
use Rattle.std.proofs.lemmas.Int.{ints, clamps}
use Rattle.std.specs.List.{All}
use Rattle.std.proofs.lemmas.Bool.{cases_lt, eq-eqb, ne_eqb}
use Rattle.std.proofs.lemmas.Bool.Decides.{nat_tests}
use Rattle.std.proofs.lemmas.List.Elements.{All-nil, All-cons, All-append}
use Rattle.std.proofs.Math.Nat.{div-lt_iff_lt-mul, mul-le-mul}
use Rattle.semantics.specs.Admission.{Fact, SumTerm, sums_of, bound_of, extent_of, greatest_at}
use Rattle.semantics.specs.Admitted.{IsAdmitted}
use Rattle.semantics.specs.Limits.{sums_in}
use Rattle.semantics.specs.Measures.{rank_of, units_of}
use Rattle.semantics.specs.Plain.{IsPlain}
use Rattle.semantics.specs.Readings.{from_zero, positions_in}
use Rattle.semantics.specs.Term.{Term, Range, QueryTerm, number, sum, variance, covariance, add, sub, mul}
use Rattle.segment.specs.Measure.{unit}
use Rattle.error_prop.specs.declared.query.SumIn.{SumIn}
use Rattle.error_prop.specs.declared.query.SumLine.{SumLine}
use Rattle.error_prop.specs.QueryOver.{sums_over, whole}
use Rattle.error_prop.specs.Queries.{first_sum, interval_over, left_sums, line_of, lines_of, most_in, right_sums, AreWithinFacts, IsAdmittedWith}
use Rattle.error_prop.proofs.QueryLaws.{bound_fits, fits, most_within}
use Rattle.descent.specs.Rows.{Cut, entries}
use Rattle.descent.specs.Sums.{sum_in}
use Rattle.descent.specs.Choice.{row_of as charged_by}
use Rattle.descent.specs.Choice.{At, Has, choice, pick_if, heavier, heaviest, Line, side_by_side, says_weight, weight_of, whole_error}
use Rattle.descent.specs.Charging.{weight_in, IsFirst, IsLight}
use Rattle.descent.proofs.Exact.{units-some}
use Rattle.descent.proofs.Heaviest.{heaviest-found}
use Rattle.descent.proofs.Lines.{AreOf, lines_are}
use Rattle.descent.proofs.Works.{counts}

-- ---- the first of the heaviest, from left to right

is-le : (m n : ℕ) → m ≤ n → nat_le m n ≡ true
is-le m n le = grind (arith, nat_tests)

not-le : (m n : ℕ) → n < m → nat_le m n ≡ false
not-le m n lt = grind (arith, nat_tests)

some-not : (n : ℕ) → 0 < n → (n == 0) ≡ false
some-not n some = ne_eqb n 0 (λ e. omega arith)

none-is : (n : ℕ) → n ≡ 0 → (n == 0) ≡ true
none-is n e = eq-eqb n 0 e

-- ---- the line that is found

at-front : {A : Type 0} → (w : A → ℕ) (x : A) (behind : List A) (o : Option A) → heaviest w behind ≡ o → 0 < w x → ((y : A) → Has y behind → w y ≤ w x) → heavier w x o ≡ Some x
at-front w x behind None e some all = rw (some-not (w x) some) refl
at-front w x behind (Some y) e some all = let found = heaviest-found w behind y e in rw (is-le (w y) (w x) (all y found.there)) refl

weight-has : (ss : List SumTerm) (ls : List SumLine) (n : ℕ) → ((j : ℕ) → j < length ls → weight_in ls j ≤ n) → (line : Line) → Has line (side_by_side ss ls) → weight_of line ≤ n
weight-has [] ls n all line h = absurd h
weight-has (s ∷ ss) [] n all line h = absurd h
weight-has (s ∷ ss) (l ∷ ls) n all line (inl e) = rw e (all zero (omega arith))
weight-has (s ∷ ss) (l ∷ ls) n all line (inr h) = weight-has ss ls n (λ j lt. all (suc j) (omega arith)) line h

pub record IsLineAt (ss : List SumTerm) (ls : List SumLine) (at : ℕ) : Type 0 where
  pub line : Line
  pub found : heaviest weight_of (side_by_side ss ls) ≡ Some line
  pub sum : At at line.sum ss
  pub weight : weight_of line ≡ weight_in ls at

pub line-at : (E : SumTerm → SumIn) (ss : List SumTerm) (ls : List SumLine) (at : ℕ) → AreOf E ss ls → IsFirst (weight_in ls) (length ls) at → IsLineAt ss ls at
line-at E [] [] at of is = let w = is.within in absurd (omega arith)
line-at E [] (l ∷ ls) at of is = absurd of
line-at E (s ∷ ss) [] at of is = absurd of
line-at E (s ∷ ss) (l ∷ ls) zero of is =
    let line : Line = record { sum = s; says = l } in
    record {
      line = line;
      found = at-front weight_of line (side_by_side ss ls) (heaviest weight_of (side_by_side ss ls)) refl is.some (weight-has ss ls (says_weight l) (λ j lt. is.no_heavier (suc j) (omega arith)));
      sum = refl;
      weight = refl;
    }
line-at E (s ∷ ss) (l ∷ ls) (suc at) of is =
    let w = is.within in
    let rest = line-at E ss ls at of.2 (record { within = omega arith; some = is.some; lighter = λ j lt. is.lighter (suc j) (omega arith); no_heavier = λ j lt. is.no_heavier (suc j) (omega arith) }) in
    let lt = is.lighter zero (omega arith) in
    let e = rest.weight in
    record {
      line = rest.line;
      found = ap (heavier weight_of (record { sum = s; says = l })) rest.found ∙ rw (not-le (weight_of rest.line) (says_weight l) (omega arith)) refl;
      sum = rest.sum;
      weight = rest.weight;
    }

pub no-line : (ss : List SumTerm) (ls : List SumLine) → ((j : ℕ) → weight_in ls j ≡ 0) → heaviest weight_of (side_by_side ss ls) ≡ None
no-line [] ls h = refl
no-line (s ∷ ss) [] h = refl
no-line (s ∷ ss) (l ∷ ls) h = ap (heavier weight_of (record { sum = s; says = l })) (no-line ss ls (λ j. h (suc j))) ∙ rw (none-is (says_weight l) (h zero)) refl

-- ---- the sums of a query

pub sums-length : (q : QueryTerm) → IsPlain q → length (sums_of q) ≡ sums_in q
sums-length (number v) p = refl
sums-length (sum t range) p = refl
sums-length (variance t range) p = absurd p
sums-length (covariance t u range) p = absurd p
sums-length (add p q) h = omega (arith, length-append (sums_of p) (sums_of q), sums-length p h.0, sums-length q h.1)
sums-length (sub p q) h = omega (arith, length-append (sums_of p) (sums_of q), sums-length p h.0, sums-length q h.1)
sums-length (mul p q) h = omega (arith, length-append (sums_of p) (sums_of q), sums-length p h.0, sums-length q h.1)

-- the positions of a whole domain
pub whole-count : (d : Range) → positions_in (whole d).left (whole d).right ≡ positions_in d.left d.right
whole-count d = go (d.right -ℤ d.left) (int_max d.left d.right -ℤ d.left) (omega (arith, ints, clamps)) (omega (arith, ints, clamps))
  where
    go : (y z : ℤ) → (pos 0 ≤ℤ y → z ≡ y) → (y <ℤ pos 0 → z ≡ pos 0) → from_zero z ≡ from_zero y
    go (pos n) z h g = ap from_zero (h (omega (arith, ints)))
    go (negsuc n) z h g = ap from_zero (g (omega (arith, ints)))

-- ---- the numbers of the lines are small

whole-le : (e u m : ℕ) → 0 < u → e ≤ u * m → (e + (u - 1)) / u ≤ m
whole-le e u m some le = let lt : (e + (u - 1)) / u < m + 1 = (div-lt_iff_lt-mul some).1 (omega arith) in omega arith

light-line : (facts : List Fact) (t : Term) (range : Option Range) (ss : List SumIn) (s : ℕ) → IsAdmitted facts (sum t range) → AreWithinFacts facts (sum t range) ss
    → s * bound_of facts (sum t range) ≤ 2 ^ 125 → IsLight (line_of t (first_sum ss) s)
light-line facts t range ss s a w k =
    let f = fits facts (sum t range) ss a w in
    let small = f.0 in
    let m = extent_of facts t range * units_of (greatest_at facts) t in
    let e = whole-le (first_sum ss).err (unit ^ rank_of t) m (units-some (rank_of t)) (omega (arith, w)) in
    let p : s * whole_error (line_of t (first_sum ss) s) ≤ s * m = mul-le-mul (omega arith) e in
    let q : s * m ≤ s * bound_of facts (sum t range) = mul-le-mul (omega arith) (omega arith) in
    record { rank = f.1; err = omega arith; weight = omega (arith, p, q) }

next_factor : (s m b c n : ℕ) → m ≤ c → s * (b * c) ≤ n → (s * m) * b ≤ n
next_factor s m b c n h k =
    let p : (s * b) * m ≤ (s * b) * c = mul-le-mul (omega arith) h in
    omega (arith, p)

part_of_sum : (s b c n : ℕ) → s * (b + c) ≤ n → (s * b ≤ n) × (s * c ≤ n)
part_of_sum s b c n h = (omega arith, omega arith)

light : (facts : List Fact) (q : QueryTerm) (ss : List SumIn) (s : ℕ) → IsPlain q → IsAdmitted facts q → AreWithinFacts facts q ss → s * bound_of facts q ≤ 2 ^ 125 → All IsLight (lines_of q ss s)
light facts (number v) ss s p a w k = All-nil IsLight
light facts (sum t range) ss s p a w k = All-cons IsLight (line_of t (first_sum ss) s) [] (light-line facts t range ss s a w k) (All-nil IsLight)
light facts (variance t range) ss s p a w k = absurd p
light facts (covariance t u range) ss s p a w k = absurd p
light facts (add p q) ss s pl a w k =
    let b = part_of_sum s (bound_of facts p) (bound_of facts q) (2 ^ 125) k in
    All-append IsLight (lines_of p (left_sums p ss) s) (lines_of q (right_sums p ss) s) (light facts p (left_sums p ss) s pl.0 a.0 w.0 b.0) (light facts q (right_sums p ss) s pl.1 a.1 w.1 b.1)
light facts (sub p q) ss s pl a w k =
    let b = part_of_sum s (bound_of facts p) (bound_of facts q) (2 ^ 125) k in
    All-append IsLight (lines_of p (left_sums p ss) s) (lines_of q (right_sums p ss) s) (light facts p (left_sums p ss) s pl.0 a.0 w.0 b.0) (light facts q (right_sums p ss) s pl.1 a.1 w.1 b.1)
light facts (mul p q) ss s pl a w k =
    let mp = most_in (interval_over p (left_sums p ss)) in
    let mq = most_in (interval_over q (right_sums p ss)) in
    let k' : s * (bound_of facts q * bound_of facts p) ≤ 2 ^ 125 = omega (arith, k) in
    All-append IsLight (lines_of p (left_sums p ss) (s * mq)) (lines_of q (right_sums p ss) (s * mp))
    (light facts p (left_sums p ss) (s * mq) pl.0 a.0 w.0 (next_factor s mq (bound_of facts p) (bound_of facts q) (2 ^ 125) (most_within facts q (right_sums p ss) w.1) k))
    (light facts q (right_sums p ss) (s * mp) pl.1 a.1 w.1 (next_factor s mp (bound_of facts q) (bound_of facts p) (2 ^ 125) (most_within facts p (left_sums p ss) w.0) k'))

pub light-over : (q : QueryTerm) (ss : List SumIn) (s : ℕ) → s ≤ 1 → IsPlain q → IsAdmittedWith q ss → All IsLight (lines_of q ss s)
light-over q ss s le p h =
    let b : s * bound_of h.facts q ≤ 1 * bound_of h.facts q = mul-le-mul le (omega arith) in
    light h.facts q ss s p h.admitted h.within (omega (arith, b, bound_fits h.facts q p h.admitted))

-- ---- the choice

of-length : (E : SumTerm → SumIn) (ss : List SumTerm) (ls : List SumLine) → AreOf E ss ls → length ls ≡ length ss
of-length E [] [] a = refl
of-length E [] (l ∷ ls) a = absurd a
of-length E (s ∷ ss) [] a = absurd a
of-length E (s ∷ ss) (l ∷ ls) a = ap suc (of-length E ss ls a.2)

pub lines-length : (cut : Cut) (q : QueryTerm) (k : ℕ) → IsPlain q → length (lines_of q (sums_over (entries cut) q) k) ≡ sums_in q
lines-length cut q k p = of-length (sum_in cut) (sums_of q) (lines_of q (sums_over (entries cut) q) k) (lines_are cut q k p) ∙ sums-length q p

pub first-at : (cut : Cut) (q : QueryTerm) (sums : List SumLine) (k : ℕ) → IsPlain q → sums ≡ lines_of q (sums_over (entries cut) q) (counts cut q) → IsFirst (weight_in sums) (length sums) k
    → IsLineAt (sums_of q) (lines_of q (sums_over (entries cut) q) (counts cut q)) k
first-at cut q sums k p e is =
    line-at (sum_in cut) (sums_of q) (lines_of q (sums_over (entries cut) q) (counts cut q)) k (lines_are cut q (counts cut q) p)
    (subst (λ ls. IsFirst (weight_in ls) (length ls) k) e is)

pub choice-none : (cut : Cut) (q : QueryTerm) (sums : List SumLine) → sums ≡ lines_of q (sums_over (entries cut) q) (counts cut q) → ((j : ℕ) → weight_in sums j ≡ 0) → choice q cut ≡ None
choice-none cut q sums e none =
    ap (λ o. pick_if (charged_by cut o)) (no-line (sums_of q) (lines_of q (sums_over (entries cut) q) (counts cut q)) (subst (λ ls. (j : ℕ) → weight_in ls j ≡ 0) e none))

-- ---- going over the lines

pub weight-at : (ls : List SumLine) (i : ℕ) (l : SumLine) → i < length ls → l ≡ get_or ls i l → weight_in ls i ≡ says_weight l
weight-at [] i l lt e = absurd (omega arith)
weight-at (x ∷ ls) zero l lt e = ap says_weight (sym e)
weight-at (x ∷ ls) (suc i) l lt e = weight-at ls i l (omega arith) e

pub weight-beyond : (ls : List SumLine) (j : ℕ) → length ls ≤ j → weight_in ls j ≡ 0
weight-beyond [] j le = refl
weight-beyond (x ∷ ls) zero le = absurd (omega arith)
weight-beyond (x ∷ ls) (suc j) le = weight-beyond ls j (omega arith)

pub most-more : (f : ℕ → ℕ) (i most next : ℕ) → ((j : ℕ) → j < i → f j ≤ most) → most ≤ next → f i ≤ next → (j : ℕ) → j < i + 1 → f j ≤ next
most-more f i most next all le last j lt = elim (cases_lt j i) [
  | inl less ↦ let a = all j less in omega arith
  | inr ge ↦ let e : i ≡ j = omega arith in subst (λ k. f k ≤ next) e last
]

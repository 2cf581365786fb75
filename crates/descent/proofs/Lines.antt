-- The lines of a query are those of its sums, in order.
use Rattle.std.proofs.Common.{◌≡◌, ℕ, ◌*◌, inl, inr, List, [], ◌∷◌, ◌++◌, refl, sym, subst}
use Rattle.std.specs.List.{All}
use Rattle.std.proofs.lemmas.List.Elements.{All-nil, All-cons, All-head, All-tail}
use Rattle.semantics.specs.Admission.{SumTerm, sums_of}
use Rattle.semantics.specs.Limits.{sums_in}
use Rattle.semantics.specs.Measures.{rank_of}
use Rattle.semantics.specs.Plain.{IsPlain}
use Rattle.semantics.specs.Term.{QueryTerm, number, sum, variance, covariance, add, sub, mul}
use Rattle.bounds.specs.Cut.{Entry}
use Rattle.bounds.proofs.ShapeLaws.{take_front, drop_front}
use Rattle.error_prop.specs.declared.query.SumIn.{SumIn}
use Rattle.error_prop.specs.declared.query.SumLine.{SumLine}
use Rattle.error_prop.specs.Queries.{interval_over, left_sums, lines_of, most_in, right_sums}
use Rattle.error_prop.specs.QueryOver.{sums_over}
use Rattle.error_prop.proofs.QueryOverLaws.{length-sums_over}
use Rattle.descent.specs.Rows.{Cut, entries}
use Rattle.descent.specs.Sums.{sum_in}
use Rattle.descent.specs.Choice.{Has, Line, side_by_side, weight_of}
use Rattle.descent.proofs.Exact.{IsNothing}

left_over : (es : List Entry) (p q : QueryTerm) → IsPlain p → left_sums p (sums_over es p ++ sums_over es q) ≡ sums_over es p
left_over es p q h = take_front (sums_over es p) (sums_over es q) (sums_in p) (length-sums_over es p h)

right_over : (es : List Entry) (p q : QueryTerm) → IsPlain p → right_sums p (sums_over es p ++ sums_over es q) ≡ sums_over es q
right_over es p q h = drop_front (sums_over es p) (sums_over es q) (sums_in p) (length-sums_over es p h)

-- lines of these sums, one each
abbrev pub AreOf : (SumTerm → SumIn) → List SumTerm → List SumLine → Type 0
AreOf E [] [] = Unit {0}
AreOf E [] (l ∷ ls) = ⊥
AreOf E (s ∷ ss) [] = ⊥
AreOf E (s ∷ ss) (l ∷ ls) = (l.err ≡ (E s).err) × (l.rank ≡ rank_of s.series) × AreOf E ss ls

of-append : (E : SumTerm → SumIn) (us vs : List SumTerm) (ls ms : List SumLine) → AreOf E us ls → AreOf E vs ms → AreOf E (us ++ vs) (ls ++ ms)
of-append E [] vs [] ms a b = b
of-append E [] vs (l ∷ ls) ms a b = absurd a
of-append E (s ∷ us) vs [] ms a b = absurd a
of-append E (s ∷ us) vs (l ∷ ls) ms a b = (a.0, a.1, of-append E us vs ls ms a.2 b)

both-of : (cut : Cut) (p q : QueryTerm) (j k : ℕ) → IsPlain p
    → AreOf (sum_in cut) (sums_of p) (lines_of p (sums_over (entries cut) p) j) → AreOf (sum_in cut) (sums_of q) (lines_of q (sums_over (entries cut) q) k)
    → AreOf (sum_in cut) (sums_of p ++ sums_of q)
    (lines_of p (left_sums p (sums_over (entries cut) p ++ sums_over (entries cut) q)) j ++ lines_of q (right_sums p (sums_over (entries cut) p ++ sums_over (entries cut) q)) k)
both-of cut p q j k plain a b =
    of-append (sum_in cut) (sums_of p) (sums_of q) _ _
    (subst (λ ss. AreOf (sum_in cut) (sums_of p) (lines_of p ss j)) (sym (left_over (entries cut) p q plain)) a)
    (subst (λ ss. AreOf (sum_in cut) (sums_of q) (lines_of q ss k)) (sym (right_over (entries cut) p q plain)) b)

pub lines_are : (cut : Cut) (q : QueryTerm) (k : ℕ) → IsPlain q → AreOf (sum_in cut) (sums_of q) (lines_of q (sums_over (entries cut) q) k)
lines_are cut (number v) k h = tt
lines_are cut (sum t range) k h = (refl, refl, tt)
lines_are cut (variance t range) k h = absurd h
lines_are cut (covariance t u range) k h = absurd h
lines_are cut (add p q) k h = both-of cut p q k k h.0 (lines_are cut p k h.0) (lines_are cut q k h.1)
lines_are cut (sub p q) k h = both-of cut p q k k h.0 (lines_are cut p k h.0) (lines_are cut q k h.1)
lines_are cut (mul p q) k h =
    let ss = sums_over (entries cut) p ++ sums_over (entries cut) q in
    both-of cut p q (k * most_in (interval_over q (right_sums p ss))) (k * most_in (interval_over p (left_sums p ss))) h.0
    (lines_are cut p (k * most_in (interval_over q (right_sums p ss))) h.0) (lines_are cut q (k * most_in (interval_over p (left_sums p ss))) h.1)

-- a line that stands beside a sum is of it
pub line-of-sum : (E : SumTerm → SumIn) (ss : List SumTerm) (ls : List SumLine) (line : Line) → AreOf E ss ls → Has line (side_by_side ss ls) → line.says.err ≡ (E line.sum).err
line-of-sum E [] ls line a h = absurd h
line-of-sum E (s ∷ ss) [] line a h = absurd h
line-of-sum E (s ∷ ss) (l ∷ ls) line a (inl e) = rw e a.0
line-of-sum E (s ∷ ss) (l ∷ ls) line a (inr h) = line-of-sum E ss ls line a.2 h

pub all-nothing : (E : SumTerm → SumIn) (ss : List SumTerm) (ls : List SumLine) → AreOf E ss ls → All (λ line. weight_of line ≡ 0) (side_by_side ss ls) → All IsNothing ls
all-nothing E [] [] a h = All-nil IsNothing
all-nothing E [] (l ∷ ls) a h = absurd a
all-nothing E (s ∷ ss) [] a h = All-nil IsNothing
all-nothing E (s ∷ ss) (l ∷ ls) a h =
    let line : Line = record { sum = s; says = l } in
    All-cons IsNothing l ls (All-head (λ line. weight_of line ≡ 0) line (side_by_side ss ls) h) (all-nothing E ss ls a.2 (All-tail (λ line. weight_of line ≡ 0) line (side_by_side ss ls) h))

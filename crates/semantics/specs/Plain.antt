-- The plain query, which has sums alone: no variance and no covariance.
use Rattle.std.specs.Prelude.{◌-ℤ◌, Some}
use Rattle.semantics.specs.Term.{Term, times, Range, QueryTerm, number, sum, variance, covariance, add, sub, mul}

-- N times the sum of the products, less the product of the sums
abbrev pub statistic : Term → Term → Range → QueryTerm
statistic t u range =
    sub (mul (number (range.right -ℤ range.left)) (sum (times t u) (Some range)))
    (mul (sum t (Some range)) (sum u (Some range)))

abbrev pub plain : QueryTerm → QueryTerm
plain (number v) = number v
plain (sum t range) = sum t range
plain (variance t range) = statistic t t range
plain (covariance t u range) = statistic t u range
plain (add p q) = add (plain p) (plain q)
plain (sub p q) = sub (plain p) (plain q)
plain (mul p q) = mul (plain p) (plain q)

abbrev pub IsPlain : QueryTerm → Type 0
IsPlain (number v) = Unit {0}
IsPlain (sum t range) = Unit {0}
IsPlain (variance t range) = ⊥
IsPlain (covariance t u range) = ⊥
IsPlain (add p q) = IsPlain p × IsPlain q
IsPlain (sub p q) = IsPlain p × IsPlain q
IsPlain (mul p q) = IsPlain p × IsPlain q

-- What the canonical text of a query is, read again.
use Rattle.std.specs.Prelude.{◌≡◌, ◌≤◌, ◌^◌, ◌||◌, Bool, List, ℕ, ℤ, length, true, Ok, Option, Some, None, unsigned_abs}
use Rattle.semantics.specs.Limits.{HasSmallNumbers, IsNearQuery, IsWithinLimits}
use Rattle.semantics.specs.Most.{most_text}
use Rattle.semantics.specs.Names.{is_name, is_word_byte}
use Rattle.semantics.specs.Term.{Term, base, constant, bare, plus, minus, times, shift, Range, QueryTerm, number, sum, variance, covariance, add, sub, mul}
use Rattle.expr_parse.specs.Canonical.{canonical_text}
use Rattle.expr_parse.specs.Parsed.{parsed, IsTextOf}
use Rattle.expr_parse.specs.Tokens.{is_sign}

-- each name that a series cites is a name
abbrev pub IsNamedSeries : Term → Type 0
IsNamedSeries (base name) = is_name name ≡ true
IsNamedSeries (constant v a b) = Unit {0}
IsNamedSeries (bare v) = Unit {0}
IsNamedSeries (plus u v) = IsNamedSeries u × IsNamedSeries v
IsNamedSeries (minus u v) = IsNamedSeries u × IsNamedSeries v
IsNamedSeries (times u v) = IsNamedSeries u × IsNamedSeries v
IsNamedSeries (shift u k) = IsNamedSeries u

abbrev pub IsNamedQuery : QueryTerm → Type 0
IsNamedQuery (number v) = Unit {0}
IsNamedQuery (sum t range) = IsNamedSeries t
IsNamedQuery (variance t range) = IsNamedSeries t
IsNamedQuery (covariance t u range) = IsNamedSeries t × IsNamedSeries u
IsNamedQuery (add p q) = IsNamedQuery p × IsNamedQuery q
IsNamedQuery (sub p q) = IsNamedQuery p × IsNamedQuery q
IsNamedQuery (mul p q) = IsNamedQuery p × IsNamedQuery q

-- a byte that a canonical text may have: a letter, a digit, `_` or a sign
abbrev pub is_query_byte : ℕ → Bool
is_query_byte c = is_word_byte c || is_sign c

-- a number of 128 bits
abbrev pub IsMachineNumber : ℤ → Type 0
IsMachineNumber v = unsigned_abs v ≤ 2 ^ 127

abbrev pub HasMachineEnds : Range → Type 0
HasMachineEnds range = IsMachineNumber range.left × IsMachineNumber range.right

-- each number of a series is one
abbrev pub HasMachineConstants : Term → Type 0
HasMachineConstants (base name) = Unit {0}
HasMachineConstants (constant v a b) = IsMachineNumber v × IsMachineNumber a × IsMachineNumber b
HasMachineConstants (bare v) = IsMachineNumber v
HasMachineConstants (plus u v) = HasMachineConstants u × HasMachineConstants v
HasMachineConstants (minus u v) = HasMachineConstants u × HasMachineConstants v
HasMachineConstants (times u v) = HasMachineConstants u × HasMachineConstants v
HasMachineConstants (shift u k) = HasMachineConstants u × IsMachineNumber k

abbrev pub HasMachineRange : Option Range → Type 0
HasMachineRange None = Unit {0}
HasMachineRange (Some range) = HasMachineEnds range

abbrev pub HasMachineNumbers : QueryTerm → Type 0
HasMachineNumbers (number v) = IsMachineNumber v
HasMachineNumbers (sum t range) = HasMachineConstants t × HasMachineRange range
HasMachineNumbers (variance t range) = HasMachineConstants t × HasMachineEnds range
HasMachineNumbers (covariance t u range) = HasMachineConstants t × HasMachineConstants u × HasMachineEnds range
HasMachineNumbers (add p q) = HasMachineNumbers p × HasMachineNumbers q
HasMachineNumbers (sub p q) = HasMachineNumbers p × HasMachineNumbers q
HasMachineNumbers (mul p q) = HasMachineNumbers p × HasMachineNumbers q

-- the grammar gives a query for its canonical text, where that is not too long
abbrev pub CanonicalIsText : Type 0
CanonicalIsText =
    (q : QueryTerm) → IsNamedQuery q → IsNearQuery q → HasSmallNumbers q
    → length (canonical_text q) ≤ most_text → IsTextOf (canonical_text q) q

-- and it is parsed as that query, where the query is within its limits
abbrev pub CanonicalIsParsed : Type 0
CanonicalIsParsed =
    (q : QueryTerm) → IsNamedQuery q → IsWithinLimits q → length (canonical_text q) ≤ most_text
    → parsed (canonical_text q) ≡ Ok q

-- no text of a query is shorter than its canonical text
abbrev pub CanonicalIsShortest : Type 0
CanonicalIsShortest = (text : List ℕ) (q : QueryTerm) → IsTextOf text q
    → length (canonical_text q) ≤ length text

-- a text that is parsed as a query is a text of it
abbrev pub ParsedIsText : Type 0
ParsedIsText = (text : List ℕ) (q : QueryTerm) → parsed text ≡ Ok q → IsTextOf text q

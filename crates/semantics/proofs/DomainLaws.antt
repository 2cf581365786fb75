-- Laws of domains: what is read at a position of a domain.
use Rattle.std.proofs.Common.{◌≡◌, ℕ, ℤ, pos, ◌+ℤ◌, ◌-ℤ◌, ◌*ℤ◌, ◌≤ℤ◌, ◌<ℤ◌, true, List, Option, Some, None, refl, ap₂, arith}
use Rattle.std.proofs.lemmas.Int.{ints}
use Rattle.semantics.specs.Admission.{Fact, count_at}
use Rattle.semantics.specs.Admitted.{IsInDomain, IsAdmittedSum}
use Rattle.semantics.specs.Reads.{IsIn, ReadsInside, is_in, within, ending_value}
use Rattle.semantics.specs.Term.{Term, base, constant, bare, plus, minus, times, shift, Range}
use Rattle.semantics.specs.Value.{common, moved, series_value, domain_of, range_or, count_of}

in_left : (a b : Range) (i : ℤ) → IsIn (common a b) i → IsIn a i
in_left a b i h = (grind (arith, ints), grind (arith, ints))

in_right : (a b : Range) (i : ℤ) → IsIn (common a b) i → IsIn b i
in_right a b i h = (grind (arith, ints), grind (arith, ints))

moved_back : (a : Range) (k i : ℤ) → IsIn (moved a k) i → IsIn a (i -ℤ k)
moved_back a k i h = (omega (arith, ints), omega (arith, ints))

-- at a position of its domain a series reads inside of the domains of its parts
pub ReadsInside-domain : (N : List ℕ → ℕ) (t : Term) (i : ℤ) → IsIn (domain_of N t) i → ReadsInside N t i
ReadsInside-domain N (base name) i h = h
ReadsInside-domain N (constant v a b) i h = h
ReadsInside-domain N (bare v) i h = h
ReadsInside-domain N (plus u v) i h = (ReadsInside-domain N u i (in_left (domain_of N u) (domain_of N v) i h), ReadsInside-domain N v i (in_right (domain_of N u) (domain_of N v) i h))
ReadsInside-domain N (minus u v) i h = (ReadsInside-domain N u i (in_left (domain_of N u) (domain_of N v) i h), ReadsInside-domain N v i (in_right (domain_of N u) (domain_of N v) i h))
ReadsInside-domain N (times u v) i h = (ReadsInside-domain N u i (in_left (domain_of N u) (domain_of N v) i h), ReadsInside-domain N v i (in_right (domain_of N u) (domain_of N v) i h))
ReadsInside-domain N (shift u k) i h = ReadsInside-domain N u (i -ℤ k) (moved_back (domain_of N u) k i h)

is_in-inside : (range : Range) (i : ℤ) → IsIn range i → is_in range i ≡ true
is_in-inside range i h = grind (arith, ints)

within-inside : (domain : Range) (v i : ℤ) → IsIn domain i → within domain v i ≡ v
within-inside domain v i h = rw (is_in-inside domain i h) refl

-- constants that end are read where they don't
pub ending_value-inside : (X : List ℕ → List ℤ) (t : Term) (i : ℤ) → ReadsInside (count_of X) t i → ending_value X t i ≡ series_value X t i
ending_value-inside X (base name) i h = refl
ending_value-inside X (constant v a b) i h = within-inside (record { left = a; right = b }) v i h
ending_value-inside X (bare v) i h = within-inside (domain_of (count_of X) (bare v)) v i h
ending_value-inside X (plus u v) i h = ap₂ ◌+ℤ◌ (ending_value-inside X u i h.0) (ending_value-inside X v i h.1)
ending_value-inside X (minus u v) i h = ap₂ ◌-ℤ◌ (ending_value-inside X u i h.0) (ending_value-inside X v i h.1)
ending_value-inside X (times u v) i h = ap₂ ◌*ℤ◌ (ending_value-inside X u i h.0) (ending_value-inside X v i h.1)
ending_value-inside X (shift u k) i h = ending_value-inside X u (i -ℤ k) h

pub ending_value-domain : (X : List ℕ → List ℤ) (t : Term) (i : ℤ) → IsIn (domain_of (count_of X) t) i → ending_value X t i ≡ series_value X t i
ending_value-domain X t i h = ending_value-inside X t i (ReadsInside-domain (count_of X) t i h)

in_given : (range domain : Range) (i : ℤ) → IsInDomain (Some range) domain → IsIn range i → IsIn domain i
in_given range domain i inside h =
    let some : range.left <ℤ range.right = omega (arith, ints) in
    let both = inside.1 some in
    (omega (arith, ints), omega (arith, ints))

-- a range that lies in a domain has positions of the domain alone
pub IsIn-domain : (range : Option Range) (domain : Range) (i : ℤ) → IsInDomain range domain → IsIn (range_or range domain) i → IsIn domain i
IsIn-domain None domain i inside h = h
IsIn-domain (Some range) domain i inside h = in_given range domain i inside h

pub ReadsInside-admitted : (facts : List Fact) (t : Term) (range : Option Range) (i : ℤ) → IsAdmittedSum facts t range → IsIn (range_or range (domain_of (count_at facts) t)) i → ReadsInside (count_at facts) t i
ReadsInside-admitted facts t range i admitted h =
    ReadsInside-domain (count_at facts) t i (IsIn-domain range (domain_of (count_at facts) t) i admitted.inside h)

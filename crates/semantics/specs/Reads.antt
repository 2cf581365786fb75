-- Where a series is read: at a position of its domain, each stored series and each constant inside of its own
-- positions.
use Rattle.std.specs.Prelude.{◌≡◌, ◌&&◌, ℕ, ℤ, pos, ◌+ℤ◌, ◌-ℤ◌, ◌*ℤ◌, ◌≤ℤ◌, ◌<ℤ◌, int_le, int_lt, if◌then◌else◌, Bool, List, Option}
use Rattle.semantics.specs.Admission.{Fact, count_at}
use Rattle.semantics.specs.Admitted.{IsAdmittedSum}
use Rattle.semantics.specs.Readings.{reading_at}
use Rattle.semantics.specs.Term.{Term, base, constant, bare, plus, minus, times, shift, Range}
use Rattle.semantics.specs.Value.{series_value, domain_of, range_or, count_of}

-- a position of a range
abbrev pub IsIn : Range → ℤ → Type 0
IsIn range i = (range.left ≤ℤ i) × (i <ℤ range.right)

-- a series at a position reads what it names, and its constants, inside of their domains
abbrev pub ReadsInside : (List ℕ → ℕ) → Term → ℤ → Type 0
ReadsInside N (base name) i = IsIn (domain_of N (base name)) i
ReadsInside N (constant v a b) i = IsIn (domain_of N (constant v a b)) i
ReadsInside N (bare v) i = IsIn (domain_of N (bare v)) i
ReadsInside N (plus u v) i = ReadsInside N u i × ReadsInside N v i
ReadsInside N (minus u v) i = ReadsInside N u i × ReadsInside N v i
ReadsInside N (times u v) i = ReadsInside N u i × ReadsInside N v i
ReadsInside N (shift u k) i = ReadsInside N u (i -ℤ k)

abbrev pub is_in : Range → ℤ → Bool
is_in range i = int_le range.left i && int_lt i range.right

-- a constant, and 0 outside of its domain
abbrev pub within : Range → ℤ → ℤ → ℤ
within domain v i = if is_in domain i then v else pos 0

-- the value of a series, where a constant is 0 outside of its domain, as a stored series is
abbrev pub ending_value : (List ℕ → List ℤ) → Term → ℤ → ℤ
ending_value X (base name) i = reading_at (X name) i
ending_value X (constant v a b) i = within (domain_of (count_of X) (constant v a b)) v i
ending_value X (bare v) i = within (domain_of (count_of X) (bare v)) v i
ending_value X (plus u v) i = ending_value X u i +ℤ ending_value X v i
ending_value X (minus u v) i = ending_value X u i -ℤ ending_value X v i
ending_value X (times u v) i = ending_value X u i *ℤ ending_value X v i
ending_value X (shift u k) i = ending_value X u (i -ℤ k)

-- ---- laws

-- in the domain of a series it makes no difference what constants are outside of theirs
abbrev pub ConstantsMayEnd : Type 0
ConstantsMayEnd =
    (X : List ℕ → List ℤ) (t : Term) (i : ℤ) → IsIn (domain_of (count_of X) t) i
    → ending_value X t i ≡ series_value X t i

-- an admitted sum reads stored series and constants inside of their domains alone
abbrev pub SumsReadInside : Type 0
SumsReadInside = (facts : List Fact) (t : Term) (range : Option Range) (i : ℤ) → IsAdmittedSum facts t range
    → IsIn (range_or range (domain_of (count_at facts) t)) i → ReadsInside (count_at facts) t i

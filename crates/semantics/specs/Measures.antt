-- How large a series can be.
use Rattle.std.specs.Prelude.{ℕ, ◌+◌, ◌*◌, ◌^◌, ◌≤◌, max, unsigned_abs, List, Bool, ◌||◌, nat_lt}
use Rattle.semantics.specs.Most.{range_limit, range_limit_at}
use Rattle.semantics.specs.Term.{Term, base, constant, bare, plus, minus, times, shift}

-- how many names a series has, each time counted
abbrev pub names_in : Term → ℕ
names_in (base name) = 1
names_in (constant v a b) = 0
names_in (bare v) = 0
names_in (plus u v) = names_in u + names_in v
names_in (minus u v) = names_in u + names_in v
names_in (times u v) = names_in u + names_in v
names_in (shift u k) = names_in u

-- the rank: how many stored series are multiplied at most
abbrev pub rank_of : Term → ℕ
rank_of (base name) = 1
rank_of (constant v a b) = 0
rank_of (bare v) = 0
rank_of (plus u v) = max (rank_of u) (rank_of v)
rank_of (minus u v) = max (rank_of u) (rank_of v)
rank_of (times u v) = rank_of u + rank_of v
rank_of (shift u k) = rank_of u

-- 1, or the greatest absolute reading of a name if that is more
abbrev pub top : (List ℕ → ℕ) → List ℕ → ℕ
top D name = max 1 (D name)

-- the units of a series, by the greatest absolute reading of each name
abbrev pub units_of : (List ℕ → ℕ) → Term → ℕ
units_of D (base name) = 128 * top D name
units_of D (constant v a b) = 2 * unsigned_abs v
units_of D (bare v) = 2 * unsigned_abs v
units_of D (plus u v) = units_of D u + units_of D v
units_of D (minus u v) = units_of D u + units_of D v
units_of D (times u v) = units_of D u * units_of D v
units_of D (shift u k) = units_of D u

-- whether some part of a series, the whole included, passes a test
abbrev pub some_part : (Term → Bool) → Term → Bool
some_part p (base name) = p (base name)
some_part p (constant v a b) = p (constant v a b)
some_part p (bare v) = p (bare v)
some_part p (plus u v) = some_part p u || some_part p v || p (plus u v)
some_part p (minus u v) = some_part p u || some_part p v || p (minus u v)
some_part p (times u v) = some_part p u || some_part p v || p (times u v)
some_part p (shift u k) = some_part p u || p (shift u k)

-- whether the units are too great
abbrev pub has_great_units : (List ℕ → ℕ) → Term → Bool
has_great_units D t = nat_lt range_limit (units_of D t)

-- whether the units, 16384-fold for each of the rank, come to too much over n positions
abbrev pub is_great_over : (List ℕ → ℕ) → ℕ → Term → Bool
is_great_over D n t = nat_lt (range_limit_at (rank_of t)) (16384 ^ rank_of t * n * units_of D t)

-- the units, 16384-fold for each of the rank, are within the limit over n positions
abbrev pub FitsOver : (List ℕ → ℕ) → ℕ → Term → Type 0
FitsOver D n t = 16384 ^ rank_of t * n * units_of D t ≤ range_limit_at (rank_of t)

-- so do those of the series and of each part of it
abbrev pub InRange : (List ℕ → ℕ) → ℕ → Term → Type 0
InRange D n (base name) = FitsOver D n (base name)
InRange D n (constant v a b) = FitsOver D n (constant v a b)
InRange D n (bare v) = FitsOver D n (bare v)
InRange D n (plus u v) = InRange D n u × InRange D n v × FitsOver D n (plus u v)
InRange D n (minus u v) = InRange D n u × InRange D n v × FitsOver D n (minus u v)
InRange D n (times u v) = InRange D n u × InRange D n v × FitsOver D n (times u v)
InRange D n (shift u k) = InRange D n u

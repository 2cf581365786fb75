-- Queries that pass several limits: the first of depth, sums and names is told.
use Rattle.std.specs.Prelude.{◌≡◌, ℕ, zero, suc, codes, None, Ok, Err, refl}
use Rattle.semantics.specs.Term.{Term, base, plus, QueryTerm, sum, add}
use Rattle.expr_parse.specs.declared.error.ParseErr.TheVariants as refusal
use Rattle.expr_parse.specs.Parsed.{limited}

-- 2 ^ n names, n steps below one another
abbrev pub wide : ℕ → Term
wide zero = base (codes "x")
wide (suc n) = plus (wide n) (wide n)

-- n + 1 names, each a step below the one before
abbrev pub deep : ℕ → Term
deep zero = base (codes "x")
deep (suc n) = plus (base (codes "x")) (deep n)

-- a query 2 ^ n times
abbrev pub repeated : ℕ → QueryTerm → QueryTerm
repeated zero q = q
repeated (suc n) q = add (repeated n q) (repeated n q)

-- 32 sums of 64 names
abbrev pub many_of_many : QueryTerm
many_of_many = repeated 5 (sum (wide 6) None)

sums-first : limited many_of_many ≡ Err refusal.TooManySums
sums-first = refl

-- one of them
names-alone : limited (sum (wide 6) None) ≡ Err refusal.TooManyNames
names-alone = refl

-- 32 sums of 71 names, each a step below the one before
depth-first : limited (repeated 5 (sum (deep 70) None)) ≡ Err refusal.TooDeep
depth-first = refl

-- 16 sums of 32 names are within the limits
within : limited (repeated 4 (sum (wide 5) None)) ≡ Ok (repeated 4 (sum (wide 5) None))
within = refl

use Rattle.std.proofs.Common.{◌≤◌, arith}
use Rattle.semantics.specs.Term.{Term, base, constant, bare, plus, minus, times, shift}
use Rattle.semantics.specs.Measures.{rank_of, names_in}

-- no rank is above the number of names
pub rank_le_names : (t : Term) → rank_of t ≤ names_in t
rank_le_names (base name) = omega arith
rank_le_names (constant v a b) = omega arith
rank_le_names (bare v) = omega arith
rank_le_names (plus u v) = omega (arith, rank_le_names u, rank_le_names v)
rank_le_names (minus u v) = omega (arith, rank_le_names u, rank_le_names v)
rank_le_names (times u v) = omega (arith, rank_le_names u, rank_le_names v)
rank_le_names (shift u k) = rank_le_names u

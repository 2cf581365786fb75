-- The units, and the units over so many positions, are at most their product with a power.
use Rattle.std.proofs.Common.{ℕ, ◌*◌, ◌^◌, ◌≤◌, arith}
use Rattle.std.proofs.Math.Nat.{mul-le-mul, one-le-pow}

pub spread_at_least : (rank n units : ℕ) → n * units ≤ 16384 ^ rank * n * units
spread_at_least rank n units =
    let power : 1 ≤ 16384 ^ rank = one-le-pow rank 16384 (omega arith) in
    let whole : 1 * (n * units) ≤ 16384 ^ rank * (n * units) = mul-le-mul power (omega arith) in
    omega (arith, whole)

pub at_least : (rank n units : ℕ) → 1 ≤ n → units ≤ 16384 ^ rank * n * units
at_least rank n units some =
    let whole : 1 * units ≤ n * units = mul-le-mul some (omega arith) in
    omega (arith, whole, spread_at_least rank n units)

pub ruleset products = (at_least, spread_at_least)

use Rattle.std.proofs.Common.{◌≡◌, ◌<◌, pos, ℤ, ◌*ℤ◌, length, List, arith, SFits, w64, rules, refl}
use Rattle.std.proofs.lemmas.Int.{to_z-of_z}
use Rattle.semantics.specs.Quotients.{floor_of}
use Rattle.semantics.specs.Sums.{total_below}
use Rattle.segment.specs.Measure.{unit, greatest_reading, IsBounded}
use Rattle.segment.specs.Fit.{in_block, flat_of}
use Rattle.segment.specs.declared.curves.Curve.{Curve}
use Rattle.segment.proofs.FitLaws.{in_block-all, flat-le}
use Rattle.segment.proofs.fitting.flat.Goals as goal

-- what the code computes is the curve of degree 0
level_is : (xs : List ℤ) (t a : ℤ) → t ≡ total_below (in_block xs 0) (length xs) → a ≡ floor_of (pos unit *ℤ t) (length xs) → ◌≡◌ {A = Curve} (record { a = a; b = pos 0; c = pos 0 }) (flat_of xs)
unfolding flat_of
level_is xs t a sum mean = rw (mean, sum, in_block-all xs (length xs)) refl

flat_bounded : (xs : List ℤ) → 0 < length xs → IsBounded (flat_of xs) (length xs) (greatest_reading xs)
unfolding flat_of
flat_bounded xs some = record { constant = omega (arith, flat-le xs some); linear = omega arith; square = omega arith }

pub returns-clause-curve : goal.returns-clause-curve
returns-clause-curve c =
    let g : SFits w64 c.mean-a.result = search rules in
    rw (to_z-of_z w64 c.mean-a.result g) (level_is c.args.xs.now c.args.sum c.mean-a.result c.requires.total (rw (to_z-of_z w64 c.args.sum c.ranges.sum) at c.mean-a.ensures.value))

pub returns-clause-bounded : goal.returns-clause-bounded
returns-clause-bounded c =
    let g : SFits w64 c.mean-a.result = search rules in
    rw (to_z-of_z w64 c.mean-a.result g, level_is c.args.xs.now c.args.sum c.mean-a.result c.requires.total (rw (to_z-of_z w64 c.args.sum c.ranges.sum) at c.mean-a.ensures.value)) (flat_bounded c.args.xs.now c.requires.some)

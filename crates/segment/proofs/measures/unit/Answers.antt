use Rattle.std.proofs.Common.{◌≡◌, pos, ◌*◌, ◌*ℤ◌, ap, SFits, w32, w64, arith, rules, ◌∙◌, to_z, of_z, unsigned_abs}
use Rattle.std.proofs.lemmas.Int.{to_z-of_z, unsigned_abs-mul}
use Rattle.segment.specs.Measure.{unit}
use Rattle.segment.proofs.UnitLaws.{unit-true}
use Rattle.segment.proofs.measures.unit.Goals as goal

pub returns-clause-true_of : goal.returns-clause-true_of
returns-clause-true_of c =
    let s : SFits w64 c.scaled.result = search rules in
    let level : to_z w64 (of_z w64 c.scaled.result) ≡ pos unit *ℤ c.args.x = to_z-of_z w64 c.scaled.result s ∙ c.scaled.ensures.value ∙ ap (λ z. pos unit *ℤ z) (to_z-of_z w32 c.args.x c.ranges.x) in
    let most : c.from.result ≡ unsigned_abs c.args.x = grind (arith, to_z-of_z) in
    let greatest_estimate : c.unsigned_abs-2.result ≡ unit * unsigned_abs c.args.x = grind (arith, to_z-of_z, unsigned_abs-mul (pos unit) c.args.x) in
    rw (level, most, greatest_estimate) (unit-true c.args.start c.args.x)

use Rattle.std.proofs.Common.{◌≡◌, ◌++◌, ◌∙◌, SFits, ap, rules}
use Rattle.std.specs.Fmt.{signed_decimal}
use Rattle.std.specs.Int.{w64}
use Rattle.std.proofs.lemmas.Int.{to_z-of_z}
use Rattle.expr_parse.proofs.Appended.{five}
use Rattle.expr_parse.proofs.canonical.write_range.Goals as goal

pub returns-clause-appended : goal.returns-clause-appended
returns-clause-appended c =
    let left : SFits w64 c.args.bounds.l = search rules in
    let right : SFits w64 c.args.bounds.r = search rules in
    let first : c.write_place.new.into.items ≡ c.put.new.into.items ++ signed_decimal c.args.bounds.l = c.in_ok-write_place.ensures.appended ∙ ap (λ z. c.put.new.into.items ++ signed_decimal z) (to_z-of_z w64 c.args.bounds.l left) in
    let second : c.write_place-2.new.into.items ≡ c.put-2.new.into.items ++ signed_decimal c.args.bounds.r = c.in_ok-write_place-2.ensures.appended ∙ ap (λ z. c.put-2.new.into.items ++ signed_decimal z) (to_z-of_z w64 c.args.bounds.r right) in
    five _ _ _ _ _ _ _ _ _ _ _ c.in_ok-put.ensures first c.in_ok-put-2.ensures second c.in_ok-put-3.ensures

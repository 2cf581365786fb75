use Rattle.std.proofs.Common.{w64, SFits, rules, drop, ap, ◌∙◌}
use Rattle.std.specs.Int.{cast_signed}
use Rattle.std.proofs.lemmas.Int.{to_z-of_z}
use Rattle.tree_file.specs.Bytes.{number_of}
use Rattle.tree_file.proofs.SignedLaws.{cast-unwrapped}
use Rattle.tree_file.proofs.records.signed_at.Goals as goal

pub returns : goal.returns
returns c =
    let fits : SFits w64 c.cast_signed.result = search rules in
    to_z-of_z w64 c.cast_signed.result fits ∙ c.cast_signed.ensures ∙ ap (cast_signed w64) c.get_at.ensures.number ∙ cast-unwrapped (number_of 8 (drop c.args.at c.args.bytes.now))

use Rattle.std.proofs.Common.{◌∙◌, SFits, append_assoc, rules}
use Rattle.std.specs.Int.{w128}
use Rattle.std.proofs.lemmas.Int.{to_z-of_z}
use Rattle.query_cli.proofs.steps.answer_line.text_of.Goals as goal

pub returns : goal.returns
returns c =
    let lo : SFits w128 c.args.lo = search rules in
    let hi : SFits w128 c.args.hi = search rules in
    c.in_ok-text.ensures.ok ∙ simp (to_z-of_z, append_assoc)

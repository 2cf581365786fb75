use Rattle.std.proofs.Common.{◌≡◌, ◌∙◌, SFits, ap, length, rules}
use Rattle.std.specs.Int.{w128}
use Rattle.std.proofs.lemmas.Int.{to_z-of_z}
use Rattle.descent.specs.Sums.{width_of}
use Rattle.semantics.specs.Readings.{from_zero}
use Rattle.query_cli.specs.Asked.{answer_line}
use Rattle.query_cli.proofs.steps.answer_line.line_of.Goals as goal

pub returns : goal.returns
returns c =
    let lo : SFits w128 c.lo-lo.result = search rules in
    let hi : SFits w128 c.hi-hi.result = search rules in
    let line = rw (to_z-of_z w128 c.lo-lo.result lo, to_z-of_z w128 c.hi-hi.result hi) at c.in_ok-text.ensures in
    let width : c.width-width.result ≡ width_of c.args.answer.now.iv = ap from_zero c.width-width.ensures.value in
    let nodes : c.as_slice-nodes.result.now ≡ c.args.answer.now.cut = c.as_slice-nodes.ensures in
    line ∙ (λ i. answer_line (c.lo-lo.ensures i) (c.hi-hi.ensures i) (width i) (length (nodes i)) c.args.answer.now.opened)

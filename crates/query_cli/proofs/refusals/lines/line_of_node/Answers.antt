use Rattle.std.proofs.Common.{◌∙◌, append_assoc}
use Rattle.query_cli.proofs.refusals.lines.line_of_node.Goals as goal

pub returns : goal.returns
returns c = c.in_ok-text.ensures.ok ∙ rw c.name_text-name.ensures (simp append_assoc)

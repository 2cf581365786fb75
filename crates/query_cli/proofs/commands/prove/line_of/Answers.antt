use Rattle.expr.specs.Terms.{query_term_of}
use Rattle.answer_check.specs.Certificate.{certificate_for}
use Rattle.query_cli.proofs.CommandLaws.Prove.{certificate-utf8}
use Rattle.query_cli.proofs.commands.prove.line_of.Goals as goal

pub text_of-text-requires : goal.text_of-text-requires
text_of-text-requires c =
    certificate-utf8 c.in-Ok.bytes.items
    (certificate_for c.deref.result.now (query_term_of c.args.answered.now.query) c.args.budget c.args.answered.now.answer)
    c.in-Ok.ensures.read_again

use Rattle.expr_parse.proofs.CanonicalParsed.{parsed_is_text}
use Rattle.expr_parse.proofs.canonical.parsed_is_text.Goals as goal

pub returns : goal.returns
returns c = parsed_is_text

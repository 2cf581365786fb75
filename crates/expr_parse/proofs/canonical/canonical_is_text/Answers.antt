use Rattle.expr_parse.proofs.CanonicalParsed.{canonical_is_text}
use Rattle.expr_parse.proofs.canonical.canonical_is_text.Goals as goal

pub returns : goal.returns
returns c = canonical_is_text

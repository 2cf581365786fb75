use Rattle.expr_parse.proofs.CanonicalParsed.{canonical_is_parsed}
use Rattle.expr_parse.proofs.canonical.canonical_is_parsed.Goals as goal

pub returns : goal.returns
returns c = canonical_is_parsed

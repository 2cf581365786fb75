use Rattle.expr_parse.proofs.CanonicalShort.{canonical_is_shortest}
use Rattle.expr_parse.proofs.canonical.canonical_is_shortest.Goals as goal

pub returns : goal.returns
returns c = canonical_is_shortest

use Rattle.expr_parse.proofs.ParsesLaws.{parses_alone}
use Rattle.expr_parse.proofs.laws.parses_alone.Goals as goal

pub returns : goal.returns
returns c = parses_alone

use Rattle.expr_parse.proofs.ParsesLaws.{parses_without_memory}
use Rattle.expr_parse.proofs.laws.parses_without_memory.Goals as goal

pub returns : goal.returns
returns c = parses_without_memory

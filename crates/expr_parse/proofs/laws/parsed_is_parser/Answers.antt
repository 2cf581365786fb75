use Rattle.expr_parse.proofs.ParsesLaws.{parsed_is_parser}
use Rattle.expr_parse.proofs.laws.parsed_is_parser.Goals as goal

pub returns : goal.returns
returns c = parsed_is_parser

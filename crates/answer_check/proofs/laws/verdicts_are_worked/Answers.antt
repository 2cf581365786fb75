use Rattle.std.proofs.Common.{refl}
use Rattle.expr_parse.specs.Parsed.{parsed}
use Rattle.expr_parse.specs.Reading.{tree_of}
use Rattle.expr_parse.specs.Tokens.{front, tokens_of}
use Rattle.segment.specs.Measure.{greatest_reading}
use Rattle.answer_check.specs.Verdict.{answer_of, cut_by, interval_of, plain_in}
use Rattle.answer_check.proofs.laws.verdicts_are_worked.Goals as goal

pub returns : goal.returns
unfolding answer_of cut_by interval_of plain_in parsed tokens_of front tree_of greatest_reading
returns c = record {
  holds = refl;
  root = refl;
  leaves = refl;
  more = refl;
  no_rows = refl;
  few_rows = refl;
  order = refl;
  twice = refl;
  no_node = refl;
  beyond = refl;
  inner = refl;
  no_list = refl;
  other_name = refl;
  further = refl;
  none_named = refl;
  high = refl;
  low = refl;
  crossed = refl;
  wide = refl;
  exact = refl;
  number = refl;
  statistic = refl;
  text = refl;
  name = refl;
  domain = refl;
}

use Rattle.std.proofs.Common.{refl}
use Rattle.expr_parse.specs.Parsed.{parsed}
use Rattle.expr_parse.specs.Reading.{tree_of}
use Rattle.expr_parse.specs.Tokens.{front, tokens_of}
use Rattle.segment.specs.Measure.{greatest_reading}
use Rattle.sessions.specs.Hub.{first_nodes, interval_of, next_nodes, plain_in}
use Rattle.sessions.proofs.laws.hubs_are_worked.Goals as goal

pub returns : goal.returns
unfolding first_nodes interval_of next_nodes plain_in parsed tokens_of front tree_of greatest_reading
returns c = record { at_once = refl; two_steps = refl; in_turn = refl; refused = refl }

use Rattle.std.proofs.Common.{◌≡◌, ◌+◌, ◌*◌, ◌^◌, ◌≤◌, drop}
use Rattle.expr.specs.Facts.{facts_of}
use Rattle.query_cli.specs.Commands.Check.{counted}
use Rattle.query_cli.proofs.commands.check.count_readings.Given as goal

abbrev pub invariant-loop-fact : goal.invariant-loop-fact
invariant-loop-fact l = record {
  rest : l.count + counted (facts_of (drop l.fact-index l.facts)) ≡ counted (facts_of l.facts);
  few : l.count ≤ l.fact-index * 2 ^ 20;
}

use Rattle.std.proofs.Common.{◌≡◌, ◌+◌, ◌^◌, ◌≤◌, suc, drop, add-one, arith}
use Rattle.expr.specs.Facts.{facts_of}
use Rattle.query_cli.specs.Commands.Check.{counted}
use Rattle.query_cli.proofs.CommandLaws.Check.Counts.{counted-drop, small-count}
use Rattle.query_cli.proofs.commands.check.count_readings.Goals as goal

pub loop-fact-preserved : goal.loop-fact-preserved
loop-fact-preserved c =
    let i = c.loop-fact.fact-index in
    let at : counted (facts_of (drop i c.args.facts.now)) ≡ c.fact-item.result.n + counted (facts_of (drop (suc i) c.args.facts.now)) = counted-drop c.args.facts.now i c.fact-item.result c.loop-fact-test.true c.fact-item.is in
    let few : c.fact-item.result.n ≤ 2 ^ 20 = small-count c.args.facts.now i c.fact-item.result c.loop-fact-test.true c.fact-item.is c.requires.small in
    record {
      rest = rw add-one (omega (arith, at, c.loop-fact.invariant.rest, c.from-count.ensures));
      few = omega (arith, few, c.loop-fact.invariant.few, c.from-count.ensures);
    }

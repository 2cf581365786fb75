use Rattle.std.proofs.Common.{ap, arith, length, subst, sym, ◌∙◌, ◌≡◌}
use Rattle.segment.specs.Measure.{AreReadings}
use Rattle.query_cli.proofs.GeneratedLaws.{generated-small, length-generated}
use Rattle.query_cli.proofs.generated.generated.Goals as goal

pub returns-clause-count : goal.returns-clause-count
returns-clause-count c =
    let end : c.loop-i.i ≡ c.args.count = omega arith in
    ap length c.loop-i.invariant.readings ∙ length-generated c.args.seed c.loop-i.i ∙ end

pub returns-clause-small : goal.returns-clause-small
returns-clause-small c = subst AreReadings (sym c.loop-i.invariant.readings) (generated-small c.args.seed c.loop-i.i)

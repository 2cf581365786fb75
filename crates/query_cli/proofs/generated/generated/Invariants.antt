use Rattle.std.proofs.Common.{◌≡◌}
use Rattle.query_cli.specs.Generated.{generated, state_after}
use Rattle.query_cli.proofs.generated.generated.Given as goal

abbrev pub invariant-loop-i : goal.invariant-loop-i
invariant-loop-i l = record {
  state : l.state ≡ state_after l.seed l.i;
  readings : l.xs.items ≡ generated l.seed l.i;
}

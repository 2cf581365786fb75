use Rattle.std.proofs.Common.{◌≡◌, ◌≤◌, ◌+◌, length}
use Rattle.expr_parse.specs.Nesting.{is_nested}
use Rattle.expr_parse.proofs.limits.is_nested.Given as goal

abbrev pub invariant-loop-first : goal.invariant-loop-first
invariant-loop-first l = record { same : is_nested l.opened l.closed l.rest ≡ is_nested 0 0 l.ts; opened : l.opened + length l.rest ≤ length l.ts; closed : l.closed + length l.rest ≤ length l.ts }

abbrev pub decreases-loop-first : goal.decreases-loop-first
decreases-loop-first l = length l.rest

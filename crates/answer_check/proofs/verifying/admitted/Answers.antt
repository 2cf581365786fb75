use Rattle.std.proofs.Common.{subst, sym}
use Rattle.expr.specs.Terms.{query_term_of}
use Rattle.semantics.specs.Limits.{IsWithinLimits}
use Rattle.semantics.specs.Plain.{IsPlain}
use Rattle.semantics.proofs.PlainLaws.{IsPlain-plain, IsWithinLimits-plain}
use Rattle.answer_check.proofs.verifying.admitted.Goals as goal

pub admit-requires-clause-plain : goal.admit-requires-clause-plain
admit-requires-clause-plain c = subst IsPlain (sym c.in_ok-plain.ensures) (IsPlain-plain (query_term_of c.args.q.now))

pub admit-requires-clause-limits : goal.admit-requires-clause-limits
admit-requires-clause-limits c =
    subst IsWithinLimits (sym c.in_ok-plain.ensures) (IsWithinLimits-plain (query_term_of c.args.q.now) c.requires)

pub returns-in-Ok-clause-plain : goal.returns-in-Ok-clause-plain
returns-in-Ok-clause-plain c = subst IsPlain (sym c.in_ok-plain.ensures) (IsPlain-plain (query_term_of c.args.q.now))

pub returns-in-Ok-clause-limits : goal.returns-in-Ok-clause-limits
returns-in-Ok-clause-limits c =
    subst IsWithinLimits (sym c.in_ok-plain.ensures) (IsWithinLimits-plain (query_term_of c.args.q.now) c.requires)

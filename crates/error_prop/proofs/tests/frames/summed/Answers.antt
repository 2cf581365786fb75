use Rattle.expr.specs.Facts.{facts_of}
use Rattle.expr.specs.Terms.{term_of}
use Rattle.error_prop.proofs.KnownFrames.{admits}
use Rattle.error_prop.proofs.tests.frames.summed.Goals as goal

pub sum_interval-requires-clause-admitted : goal.sum_interval-requires-clause-admitted
sum_interval-requires-clause-admitted c = admits (facts_of c.args.facts.now) c.args.f.now _ (term_of c.args.t.now) _ c.in_ok-copy.ensures c.in_ok-admit.ensures.admitted c.requires.known

use Rattle.std.proofs.Common.{subst, sym, [], ◌∷◌}
use Rattle.expr.specs.Facts.{facts_of}
use Rattle.expr.specs.Terms.{query_term_of}
use Rattle.error_prop.specs.Places.{IsShort}
use Rattle.error_prop.proofs.KnownFrames.{admits_query, are_known, roots_known, roots_short}
use Rattle.error_prop.proofs.tests.frames.queried.Goals as goal

pub query_interval-requires-clause-short : goal.query_interval-requires-clause-short
query_interval-requires-clause-short c = subst IsShort (sym c.in_ok-f.ensures) (roots_short c.args.root c.requires.few)

pub query_interval-requires-clause-admitted : goal.query_interval-requires-clause-admitted
query_interval-requires-clause-admitted c =
    admits_query (facts_of c.in_ok-facts.facts) c.in_ok-f.f (query_term_of c.args.q.now) c.in_ok-admit.ensures.admitted
    (are_known (facts_of c.in_ok-facts.facts) c.in_ok-f.f c.args.root.len (c.args.root ∷ []) c.in_ok-facts.ensures c.in_ok-f.ensures (roots_known c.args.root c.requires.sane))

use Rattle.std.proofs.Common.{subst, sym}
use Rattle.expr.specs.Facts.{facts_of}
use Rattle.error_prop.specs.Places.{IsShort}
use Rattle.error_prop.proofs.KnownFrames.{are_known, opened_known, opened_short, three}
use Rattle.error_prop.proofs.tests.frames.summed_opened.Goals as goal

pub summed-requires-clause-short : goal.summed-requires-clause-short
summed-requires-clause-short c = subst IsShort (sym c.in_ok-f.ensures) opened_short

pub summed-requires-clause-known : goal.summed-requires-clause-known
summed-requires-clause-known c = are_known (facts_of c.in_ok-facts.facts) c.in_ok-f.f 3 three c.in_ok-facts.ensures c.in_ok-f.ensures opened_known

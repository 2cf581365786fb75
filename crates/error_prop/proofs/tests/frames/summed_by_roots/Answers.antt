use Rattle.std.proofs.Common.{subst, sym, [], ◌∷◌}
use Rattle.expr.specs.Facts.{facts_of}
use Rattle.error_prop.specs.Places.{IsShort}
use Rattle.error_prop.proofs.KnownFrames.{are_known, roots_known, roots_short}
use Rattle.error_prop.proofs.tests.frames.summed_by_roots.Goals as goal

pub summed-requires-clause-short : goal.summed-requires-clause-short
summed-requires-clause-short c = subst IsShort (sym c.in_ok-f.ensures) (roots_short c.args.root c.requires.few)

pub summed-requires-clause-known : goal.summed-requires-clause-known
summed-requires-clause-known c =
    are_known (facts_of c.in_ok-facts.facts) c.in_ok-f.f c.args.root.len (c.args.root ∷ []) c.in_ok-facts.ensures c.in_ok-f.ensures (roots_known c.args.root c.requires.sane)

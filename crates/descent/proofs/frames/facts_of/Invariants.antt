use Rattle.std.proofs.Common.{◌≡◌, take}
use Rattle.expr.specs.Facts.{facts_of}
use Rattle.descent.specs.Known.{facts_in}
use Rattle.descent.proofs.frames.facts_of.Given as goal

abbrev pub invariant-loop-i : goal.invariant-loop-i
invariant-loop-i g l = facts_of l.facts.items ≡ facts_in (take l.i l.tables)

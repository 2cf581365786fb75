use Rattle.std.proofs.Common.{◌<◌}
use Rattle.descent.proofs.readers.other_place.Given as goal

abbrev pub invariant-loop-o : goal.invariant-loop-o
invariant-loop-o l = l.first < 16

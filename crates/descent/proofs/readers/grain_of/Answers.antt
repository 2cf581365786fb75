use Rattle.std.proofs.Common.{arith}
use Rattle.descent.proofs.ReaderLaws.{at-place}
use Rattle.descent.proofs.readers.grain_of.Goals as goal

pub returns-then-have_grain-2-clause-whole : goal.returns-then-have_grain-2-clause-whole
returns-then-have_grain-2-clause-whole c = record { some = omega arith; times = 2; whole = omega arith }

pub returns-then-have_grain-3-clause-whole : goal.returns-then-have_grain-3-clause-whole
returns-then-have_grain-3-clause-whole c = record { some = omega arith; times = 4; whole = omega arith }

pub returns-then-have_grain-4-clause-whole : goal.returns-then-have_grain-4-clause-whole
returns-then-have_grain-4-clause-whole c = record { some = omega arith; times = 8; whole = omega arith }

pub returns-else-have_grain-4-clause-whole : goal.returns-else-have_grain-4-clause-whole
returns-else-have_grain-4-clause-whole c = record { some = omega arith; times = 16; whole = omega arith }

pub returns-else-have_grain-4-clause-same : goal.returns-else-have_grain-4-clause-same
returns-else-have_grain-4-clause-same c = λ o lt. at-place c.args.readers.now o (c.requires o lt) (c.requires 0 (omega arith))

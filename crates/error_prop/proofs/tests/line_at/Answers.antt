use Rattle.std.proofs.Common.{ℕ, ◌≤◌, pos, List, [], ◌∷◌, arith}
use Rattle.std.proofs.lemmas.Int.{ints}
use Rattle.segment.specs.declared.segments.Seg.{Seg}
use Rattle.segment.specs.Measure.{IsSane}
use Rattle.error_prop.proofs.tests.line_at.Goals as goal

abbrev line : Seg
line = record { start = 0; len = 3; a = pos 16384; b = pos 16384; c = pos 0; l = 0; d = 3; f = 49152 }

line_sane : IsSane line 3
line_sane = record {
  bounded = record { constant = omega arith; linear = omega arith; square = omega arith };
  below_root = omega arith;
  root = omega arith;
  estimates = omega arith;
  misses = omega arith;
}

pub estimate_at-estimate-requires-clause-covered : goal.estimate_at-estimate-requires-clause-covered
estimate_at-estimate-requires-clause-covered c = (omega (arith, ints), omega (arith, ints))

pub estimate_at-estimate-requires-clause-in_range : goal.estimate_at-estimate-requires-clause-in_range
estimate_at-estimate-requires-clause-in_range c = record {
  greatest = λ name. 3;
  n = 3;
  some = omega arith;
  in_range = omega arith;
  sane = (line_sane, omega arith);
}

use Rattle.std.proofs.Common.{◌≡◌, ◌<◌, ◌≤◌, ℕ}
use Rattle.descent.specs.Charging.{weight_in}
use Rattle.descent.proofs.choosing.heaviest_line.Given as goal

abbrev pub invariant-loop-i : goal.invariant-loop-i
invariant-loop-i l = record {
  most : (j : ℕ) → j < l.i → weight_in l.lines j ≤ l.most;
  is : 0 < l.most → weight_in l.lines l.at ≡ l.most;
  within : 0 < l.most → l.at < l.i;
  lighter : (j : ℕ) → j < l.at → weight_in l.lines j < l.most;
}

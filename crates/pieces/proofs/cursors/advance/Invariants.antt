use Rattle.std.proofs.Common.{ℕ, ◌≤◌, ◌-◌}
use Rattle.std.specs.Prelude.{pos, ◌+ℤ◌}
use Rattle.pieces.specs.Refinement.{IsReadAt}
use Rattle.pieces.proofs.cursors.advance.Given as goal

abbrev pub invariant-loop-s : goal.invariant-loop-s
invariant-loop-s l = record {
  some : (s : ℕ) × (l.s ≤ s) × IsReadAt l.spans l.fn.occ (pos l.place +ℤ l.fn.occ.shift) s;
  later : l.cursor ≤ l.s;
}

abbrev pub decreases-loop-s : goal.decreases-loop-s
decreases-loop-s l = l.fn.occ.to - l.s

use Rattle.std.proofs.Common.{◌≡◌, drop}
use Rattle.std.specs.List.{find}
use Rattle.store_file.specs.Good.{is_bad}
use Rattle.store_file.proofs.truth.first_bad.Given as goal

-- the segments that are left decide
abbrev pub invariant-loop-seg : goal.invariant-loop-seg
invariant-loop-seg l = find (is_bad l.xs) (drop l.seg-index l.segs) ≡ find (is_bad l.xs) l.segs

use Rattle.std.proofs.Common.{◌≡◌, ◌++◌, ◌*◌, ◌-◌, drop}
use Rattle.tree_file.specs.Image.{words_in}
use Rattle.store_file.proofs.tree_reading.push_readings.Given as goal

-- what is read and what is left give the whole
abbrev pub invariant-loop-i : goal.invariant-loop-i
invariant-loop-i l = l.xs.items ++ words_in (l.n - l.i) (drop (4 * l.i) l.bytes) ≡ l.fn.xs.items ++ words_in l.n l.bytes

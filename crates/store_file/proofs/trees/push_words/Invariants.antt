use Rattle.std.proofs.Common.{◌≡◌, ◌++◌, drop}
use Rattle.tree_file.specs.Image.{words}
use Rattle.store_file.proofs.trees.push_words.Given as goal

-- what is written and what is left give the whole
abbrev pub invariant-loop-i : goal.invariant-loop-i
invariant-loop-i l = l.into.items ++ words (drop l.i l.xs) ≡ l.fn.into.items ++ words l.xs

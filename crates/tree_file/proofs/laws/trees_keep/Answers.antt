use Rattle.tree_file.proofs.OffsetLaws.{record-stands}
use Rattle.tree_file.proofs.TrueTrees.{tree-read, tree-written, tree-size}
use Rattle.tree_file.proofs.laws.trees_keep.Goals as goal

pub returns-clause-read : goal.returns-clause-read
returns-clause-read c = tree-read

pub returns-clause-written : goal.returns-clause-written
returns-clause-written c = tree-written

pub returns-clause-size : goal.returns-clause-size
returns-clause-size c = tree-size

pub returns-clause-stands : goal.returns-clause-stands
returns-clause-stands c = record-stands

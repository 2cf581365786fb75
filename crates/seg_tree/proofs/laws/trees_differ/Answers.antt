use Rattle.seg_tree.proofs.Adopted.{trees-differ}
use Rattle.seg_tree.proofs.laws.trees_differ.Goals as goal

pub returns : goal.returns
returns c = trees-differ

use Rattle.seg_tree.proofs.GrownSeries.{trees-grow, fitted-trees-grow}
use Rattle.seg_tree.proofs.laws.trees_grow.Goals as goal

pub returns-clause-trees : goal.returns-clause-trees
returns-clause-trees c = trees-grow

pub returns-clause-fitted : goal.returns-clause-fitted
returns-clause-fitted c = fitted-trees-grow

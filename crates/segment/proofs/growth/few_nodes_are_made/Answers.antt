use Rattle.segment.proofs.GrowthLaws.{few-made, made-self}
use Rattle.segment.proofs.growth.few_nodes_are_made.Goals as goal

pub returns : goal.returns
returns c = record { few = few-made; none = made-self }

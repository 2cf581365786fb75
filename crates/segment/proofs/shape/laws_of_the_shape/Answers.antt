use Rattle.segment.proofs.AlignedRanges.{shape-aligned, shape-stays}
use Rattle.segment.proofs.ShapeLaws.{shape-counted}
use Rattle.segment.proofs.shape.laws_of_the_shape.Goals as goal

pub returns : goal.returns
returns c = record { ranges = shape-aligned; count = shape-counted; growth = shape-stays }

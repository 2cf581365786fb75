use Rattle.segment.proofs.SanityLaws.{true-sane}
use Rattle.segment.proofs.sanity.every_true_segment_is_sane.Goals as goal

pub returns : goal.returns
returns c = true-sane

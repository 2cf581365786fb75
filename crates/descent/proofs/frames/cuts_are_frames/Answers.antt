use Rattle.descent.proofs.SoundLaws.{cuts_are_frames}
use Rattle.descent.proofs.frames.cuts_are_frames.Goals as goal

pub returns : goal.returns
returns c = cuts_are_frames

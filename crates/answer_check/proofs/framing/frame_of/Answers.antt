use Rattle.store_file.proofs.StoredLaws.{view-value}
use Rattle.answer_check.proofs.framing.frame_of.Goals as goal

pub returns-clause-value : goal.returns-clause-value
returns-clause-value c = view-value _ c.args.store.now c.store.view_is c.store.invariant

use Rattle.answer_check.proofs.Answering.{answers_hold}
use Rattle.answer_check.proofs.laws.answers_hold.Goals as goal

pub returns : goal.returns
returns c = answers_hold

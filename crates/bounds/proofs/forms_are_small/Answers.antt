use Rattle.bounds.proofs.SmallLaws.{forms_small}
use Rattle.bounds.proofs.forms_are_small.Goals as goal

pub returns : goal.returns
returns c = forms_small

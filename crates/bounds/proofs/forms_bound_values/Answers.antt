use Rattle.bounds.proofs.SumsWithin.{forms_bound}
use Rattle.bounds.proofs.forms_bound_values.Goals as goal

pub returns : goal.returns
returns c = forms_bound

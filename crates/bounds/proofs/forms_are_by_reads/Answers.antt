use Rattle.bounds.proofs.ShapeLaws.{form_by_reads}
use Rattle.bounds.proofs.forms_are_by_reads.Goals as goal

pub returns : goal.returns
returns c = form_by_reads

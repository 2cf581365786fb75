use Rattle.bounds.proofs.PieceLaws.{by_pieces}
use Rattle.bounds.proofs.forms_go_by_pieces.Goals as goal

pub returns : goal.returns
returns c = by_pieces

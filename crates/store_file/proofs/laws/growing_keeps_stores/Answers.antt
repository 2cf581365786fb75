use Rattle.store_file.proofs.GrownLaws.{growing-keeps}
use Rattle.store_file.proofs.laws.growing_keeps_stores.Goals as goal

pub returns : goal.returns
returns c = growing-keeps

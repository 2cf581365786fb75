use Rattle.store_file.proofs.AddedLaws.{adding-keeps}
use Rattle.store_file.proofs.laws.adding_keeps_stores.Goals as goal

pub returns : goal.returns
returns c = adding-keeps

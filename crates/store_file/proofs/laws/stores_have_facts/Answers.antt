use Rattle.store_file.proofs.FactLaws.{have-facts}
use Rattle.store_file.proofs.laws.stores_have_facts.Goals as goal

pub returns : goal.returns
returns c = have-facts

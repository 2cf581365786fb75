use Rattle.store_file.proofs.GrownLaws.{fitted-stay, fitted-one, appends-loads}
use Rattle.store_file.proofs.laws.appends_are_loads.Goals as goal

pub returns-clause-stay : goal.returns-clause-stay
returns-clause-stay c = fitted-stay

pub returns-clause-one : goal.returns-clause-one
returns-clause-one c = fitted-one

pub returns-clause-loads : goal.returns-clause-loads
returns-clause-loads c = appends-loads

use Rattle.store_file.proofs.Worked.{one-reading, six-fields, turns-bytes}
use Rattle.store_file.proofs.laws.small_stores_have_bytes.Goals as goal

pub returns-clause-one : goal.returns-clause-one
returns-clause-one c = one-reading

pub returns-clause-fields : goal.returns-clause-fields
returns-clause-fields c = six-fields

pub returns-clause-turns : goal.returns-clause-turns
returns-clause-turns c = turns-bytes

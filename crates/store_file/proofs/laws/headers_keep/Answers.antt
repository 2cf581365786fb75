use Rattle.store_file.proofs.HeaderLaws.{fixed-read, entry-read}
use Rattle.store_file.proofs.laws.headers_keep.Goals as goal

pub returns-clause-fixed : goal.returns-clause-fixed
returns-clause-fixed c = fixed-read

pub returns-clause-entry : goal.returns-clause-entry
returns-clause-entry c = entry-read

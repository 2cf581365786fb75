use Rattle.tree_file.proofs.RecordLaws.{record_of-seg_in, seg_in-record_of}
use Rattle.tree_file.proofs.laws.records_keep.Goals as goal

pub returns-clause-read : goal.returns-clause-read
returns-clause-read c = seg_in-record_of

pub returns-clause-written : goal.returns-clause-written
returns-clause-written c = record_of-seg_in

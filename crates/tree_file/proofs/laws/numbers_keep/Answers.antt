use Rattle.tree_file.proofs.Digits.{number_of-bytes_of}
use Rattle.tree_file.proofs.SignedLaws.{unsigned-written, signed-read, signed-written}
use Rattle.tree_file.proofs.laws.numbers_keep.Goals as goal

pub returns-clause-unsigned_read : goal.returns-clause-unsigned_read
returns-clause-unsigned_read c = number_of-bytes_of

pub returns-clause-unsigned_written : goal.returns-clause-unsigned_written
returns-clause-unsigned_written c = unsigned-written

pub returns-clause-signed_read : goal.returns-clause-signed_read
returns-clause-signed_read c = signed-read

pub returns-clause-signed_written : goal.returns-clause-signed_written
returns-clause-signed_written c = signed-written

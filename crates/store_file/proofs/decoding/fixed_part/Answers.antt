use Rattle.std.proofs.Common.{sym, ap, ◌∙◌}
use Rattle.store_file.specs.Header.{fixed_of}
use Rattle.store_file.proofs.DecodedLaws.{decode-short, decode-unfixed}
use Rattle.store_file.proofs.decoding.fixed_part.Goals as goal

pub returns-then-bytes-lt-FIXED-clause-err : goal.returns-then-bytes-lt-FIXED-clause-err
returns-then-bytes-lt-FIXED-clause-err c = decode-short c.args.bytes.now c.if-bytes-lt-FIXED.true

pub returns-in-Err-clause-err : goal.returns-in-Err-clause-err
returns-in-Err-clause-err c = decode-unfixed c.args.bytes.now c.in-Err.place c.if-bytes-lt-FIXED.false (ap fixed_of (sym c.copy_from_slice.ensures.after) ∙ sym c.in-Err.ensures)

use Rattle.std.proofs.Common.{◌≡◌, true}
use Rattle.csv.specs.Records.{fields_of}
use Rattle.series_csv.proofs.RowLaws.{plain-after, row-read}
use Rattle.series_csv.proofs.rows.next_row.Goals as goal

pub returns-clause-row : goal.returns-clause-row
returns-clause-row c =
    let old = c.args.rdr.now in
    let new = c.read_byte_record.new.self in
    let read = c.in-Ok.ensures.reads c.requires.plain c.requires.ready in
    (row-read old new c.in-Ok.found (fields_of c.read_byte_record.new.row) c.requires read).0

pub returns-clause-plain : goal.returns-clause-plain
returns-clause-plain c = λ e.
    let found : c.in-Ok.found ≡ true = cc in
    let read = c.in-Ok.ensures.reads c.requires.plain c.requires.ready in
    plain-after c.args.rdr.now c.read_byte_record.new.self c.in-Ok.found (fields_of c.read_byte_record.new.row) c.requires read (c.in-Ok.ensures.ready c.requires.plain) c.in-Ok.ensures.flexible found

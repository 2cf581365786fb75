use Rattle.std.proofs.Common.{◌≡◌, sym, true, rules, ◌∷◌}
use Rattle.csv.specs.Records.{fields_of}
use Rattle.series_csv.specs.Left.{rows_left}
use Rattle.series_csv.proofs.ColumnLaws.{at_column}
use Rattle.series_csv.proofs.column.read_under_header.Goals as goal

pub returns-clause-ok : goal.returns-clause-ok
returns-clause-ok c =
    let found : c.in_ok-found.found ≡ true = search rules in
    let rows : rows_left c.args.rdr.now ≡ fields_of c.next_row.new.row ∷ rows_left c.next_row.new.rdr = rw found at c.in_ok-found.ensures.row in
    let at = at_column c.args.column.now c.args.scale c.args.before _ _ _ c.in-Some.place rows (sym c.in-Some.ensures) in
    rw at c.read_rows.ensures.ok

pub returns-clause-refused : goal.returns-clause-refused
returns-clause-refused c =
    let found : c.in_ok-found.found ≡ true = search rules in
    let rows : rows_left c.args.rdr.now ≡ fields_of c.next_row.new.row ∷ rows_left c.next_row.new.rdr = rw found at c.in_ok-found.ensures.row in
    let at = at_column c.args.column.now c.args.scale c.args.before _ _ _ c.in-Some.place rows (sym c.in-Some.ensures) in
    rw at c.read_rows.ensures.refused

use Rattle.std.proofs.Common.{◌≡◌, ◌≤◌, ◌+◌, length}
use Rattle.series_csv.specs.Column.{readings_from}
use Rattle.series_csv.specs.Left.{IsPlain, rows_left}
use Rattle.series_csv.proofs.ColumnLaws.{after}
use Rattle.series_csv.proofs.column.read_rows.Given as goal

abbrev pub invariant-loop-number : goal.invariant-loop-number
invariant-loop-number l = record {
  plain : IsPlain l.rdr;
  counted : length l.readings.items + 1 ≡ l.number;
  within : l.number ≤ 1048577;
  so_far : readings_from l.place l.scale 1 l.fn.before (rows_left l.fn.rdr) ≡ after l.readings.items (readings_from l.place l.scale l.number l.last (rows_left l.rdr));
}

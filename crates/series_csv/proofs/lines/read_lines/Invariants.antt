use Rattle.std.proofs.Common.{◌≡◌, ◌≤◌, ◌+◌, length, true}
use Rattle.csv.specs.Reading.{default_config, records}
use Rattle.series_csv.specs.Column.{readings_from}
use Rattle.series_csv.specs.Lines.{is_plain_text}
use Rattle.series_csv.proofs.ColumnLaws.{after}
use Rattle.series_csv.proofs.lines.read_lines.Given as goal

abbrev pub invariant-loop-number : goal.invariant-loop-number
invariant-loop-number l = record {
  plain : is_plain_text l.rest ≡ true;
  counted : length l.readings.items + 1 ≡ l.number;
  within : l.number ≤ 1048577;
  so_far : readings_from l.place l.scale 1 l.fn.first (records default_config l.fn.text) ≡ after l.readings.items (readings_from l.place l.scale l.number l.last (records default_config l.rest));
}

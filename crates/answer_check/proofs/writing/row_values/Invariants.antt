use Rattle.std.proofs.Common.{◌≡◌, map, take}
use Rattle.std.specs.Prelude.{Some}
use Rattle.serde_json.specs.View.{view}
use Rattle.answer_check.specs.Certificate.{rows_for}
use Rattle.answer_check.specs.Json.{each, row_data, row_of}
use Rattle.answer_check.proofs.writing.row_values.Given as goal

abbrev pub invariant-loop-i : goal.invariant-loop-i
invariant-loop-i l = record {
  values : map view l.values.items ≡ map row_data (rows_for l.series (take l.i l.rows));
  again : each (map row_of (map row_data (rows_for l.series (take l.i l.rows)))) ≡ Some (rows_for l.series (take l.i l.rows));
}

use Rattle.std.proofs.Common.{◌≡◌, map, take}
use Rattle.std.specs.Prelude.{Some}
use Rattle.serde_json.specs.View.{view}
use Rattle.answer_check.specs.Json.{each, list_of}
use Rattle.answer_check.proofs.reading.lists_in.Given as goal

abbrev pub invariant-loop-value : goal.invariant-loop-value
invariant-loop-value l = each (map list_of (map view (take l.value-index l.values))) ≡ Some l.lists.items

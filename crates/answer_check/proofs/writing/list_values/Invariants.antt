use Rattle.std.proofs.Common.{◌≡◌, map, take}
use Rattle.expr.specs.Terms.{query_term_of}
use Rattle.serde_json.specs.View.{view}
use Rattle.answer_check.specs.Certificate.{lists_for}
use Rattle.answer_check.specs.Json.{list_data}
use Rattle.answer_check.specs.Written.{AreReadAgain}
use Rattle.answer_check.proofs.writing.list_values.Given as goal

abbrev pub invariant-loop-k : goal.invariant-loop-k
invariant-loop-k l = record {
  values : map view l.values.items ≡ map list_data (lists_for (query_term_of l.q) 0 (take l.k l.names) l.rows);
  lists : AreReadAgain (lists_for (query_term_of l.q) 0 (take l.k l.names) l.rows);
}

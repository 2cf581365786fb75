use Rattle.std.proofs.Common.{◌<◌, ◌∙◌, [], ◌∷◌, ap, arith, length, map, subst, sym, take}
use Rattle.std.proofs.lemmas.List.Elements.{All-append, All-cons, All-nil}
use Rattle.expr.specs.Terms.{query_term_of}
use Rattle.serde_json.specs.View.{view}
use Rattle.answer_check.specs.declared.certificate.CertList.{CertList}
use Rattle.answer_check.specs.Certificate.{lists_for, rows_for}
use Rattle.answer_check.specs.Json.{list_data}
use Rattle.answer_check.specs.Written.{AreReadAgain, IsReadAgain}
use Rattle.answer_check.proofs.Lists.{lists_other, lists_own, pushed}
use Rattle.answer_check.proofs.writing.list_values.Goals as goal

pub loop-k-preserved-then-not-is_in_query : goal.loop-k-preserved-then-not-is_in_query
loop-k-preserved-then-not-is_in_query c =
    let inv = c.loop-k.invariant in
    let lt : c.loop-k.k < length c.args.names.now = omega arith in
    let same = lists_other (query_term_of c.args.q.now) c.args.names.now c.loop-k.k c.index-names-k.result c.args.rows.now lt c.index-names-k.is (sym c.if-not-is_in_query.ensures) in
    record {
      values = inv.values ∙ ap (map list_data) (sym same);
      lists = subst AreReadAgain (sym same) inv.lists;
    }

pub loop-k-preserved : goal.loop-k-preserved
loop-k-preserved c =
    let inv = c.loop-k.invariant in
    let k = c.loop-k.k in
    let name = c.index-names-k.result in
    let lt : k < length c.args.names.now = omega arith in
    let before = lists_for (query_term_of c.args.q.now) 0 (take k c.args.names.now) c.args.rows.now in
    let list : CertList = record { name = name; rows = rows_for k c.args.rows.now } in
    let same = lists_own (query_term_of c.args.q.now) c.args.names.now k name c.args.rows.now lt c.index-names-k.is (sym c.if-not-is_in_query.ensures) in
    let again : IsReadAgain list = record { name = c.list_value.ensures.name; rows = c.in_ok-value.ensures.read_again } in
    record {
      values = ap (map view) c.in_ok-push.ensures.items ∙ pushed list_data c.loop-k.values.items c.in_ok-value.value before list inv.values c.in_ok-value.ensures.value ∙ ap (map list_data) (sym same);
      lists = subst AreReadAgain (sym same) (record { all = All-append IsReadAgain before (list ∷ []) inv.lists.all (All-cons IsReadAgain list [] again (All-nil IsReadAgain)) });
    }

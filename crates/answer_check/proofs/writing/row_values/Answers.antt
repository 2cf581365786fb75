use Rattle.std.proofs.Common.{◌<◌, ◌∙◌, ap, arith, length, map}
use Rattle.serde_json.specs.View.{view}
use Rattle.answer_check.proofs.RowSteps.{step_other, step_own}
use Rattle.answer_check.proofs.writing.row_values.Goals as goal

pub loop-i-preserved-then-not-is_of : goal.loop-i-preserved-then-not-is_of
loop-i-preserved-then-not-is_of c =
    let lt : c.loop-i.i < length c.args.rows.now = omega arith in
    let next = step_other c.args.series c.args.rows.now c.loop-i.i _ c.loop-i.values.items lt c.if-not-is_of.ensures c.loop-i.invariant.values c.loop-i.invariant.again in
    record { values = next.values; again = next.again }

pub loop-i-preserved : goal.loop-i-preserved
loop-i-preserved c =
    let lt : c.loop-i.i < length c.args.rows.now = omega arith in
    let next = step_own c.args.series c.args.rows.now c.loop-i.i _ c.loop-i.values.items c.in_ok-value.value lt c.if-not-is_of.ensures c.in_ok-value.ensures.value c.row_value.ensures.start c.row_value.ensures.len c.loop-i.invariant.values
    c.loop-i.invariant.again in
    record { values = ap (map view) c.in_ok-push.ensures.items ∙ next.values; again = next.again }

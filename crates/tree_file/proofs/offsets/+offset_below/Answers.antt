use Rattle.std.proofs.Common.{◌+◌, ◌-◌, sym, ap, ap₂, ◌∙◌, arith}
use Rattle.tree_file.specs.Offsets.{range, moved}
use Rattle.tree_file.proofs.OffsetLaws.{offset-root, offset-leaf, offset-left, offset-right, offset-small}
use Rattle.tree_file.proofs.PlanLaws.{split_some}
use Rattle.tree_file.proofs.offsets.+offset_below.Goals as goal

pub returns-then-is_same : goal.returns-then-is_same
returns-then-is_same t c = sym (offset-root c.args.from c.args.span (range c.args.start c.args.len) c.requires.some (sym c.is_same.ensures ∙ c.if-is_same.true))

pub moved-requires-clause-small : goal.moved-requires-clause-small
moved-requires-clause-small t c =
    let split = c.in-Some.ensures.1 in
    offset-small c.args.from c.in-Some.s (range c.args.start c.args.len) c.offset_below-left.result (split_some c.args.span c.in-Some.s split) (omega (arith, split.below, c.requires.few)) c.offset_below-left.ensures

pub moved-requires-else-start-from-clause-small : goal.moved-requires-else-start-from-clause-small
moved-requires-else-start-from-clause-small t c =
    let split = c.in-Some.ensures.1 in
    offset-small (c.args.from + c.in-Some.s) (c.args.span - c.in-Some.s) (range c.args.start c.args.len) c.offset_below-right.result (omega (arith, split.below)) (omega (arith, c.requires.few)) c.offset_below-right.ensures

pub returns-in-None : goal.returns-in-None
returns-in-None t c = sym (offset-leaf c.args.from c.args.span (range c.args.start c.args.len) c.in-None.ensures (sym c.is_same.ensures ∙ c.if-is_same.false))

pub returns-then-start-from : goal.returns-then-start-from
returns-then-start-from t c =
    c.moved.ensures ∙ ap (moved 56) c.offset_below-left.ensures
    ∙ sym (offset-left c.args.from c.args.span c.in-Some.s (range c.args.start c.args.len) c.in-Some.ensures.1 (sym c.is_same.ensures ∙ c.if-is_same.false) (omega (arith, c.if-start-from.true)))

pub returns-else-start-from : goal.returns-else-start-from
returns-else-start-from t c =
    c.moved-else-start-from.ensures ∙ ap₂ (λ k o. moved (56 + k) o) c.tree_bytes.ensures.value c.offset_below-right.ensures
    ∙ sym (offset-right c.args.from c.args.span c.in-Some.s (range c.args.start c.args.len) c.in-Some.ensures.1 (sym c.is_same.ensures ∙ c.if-is_same.false) (omega (arith, c.if-start-from.false)))

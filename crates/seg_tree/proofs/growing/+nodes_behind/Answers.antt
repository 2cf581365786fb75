use Rattle.std.proofs.Common.{◌+◌, ◌-◌, sym, arith}
use Rattle.segment.specs.Shape.{IsSplit}
use Rattle.segment.proofs.ShapeLaws.{count-plan}
use Rattle.segment.proofs.GrowthLaws.{behind_none, behind_all, behind_leaf, behind_parts}
use Rattle.seg_tree.proofs.growing.+nodes_behind.Goals as goal

pub returns-then-start-len-clause-value : goal.returns-then-start-len-clause-value
returns-then-start-len-clause-value t c = sym (behind_none c.args.old c.args.start c.args.len c.if-start-len.true)

pub returns-in-None-clause-value : goal.returns-in-None-clause-value
returns-in-None-clause-value t c = sym (behind_leaf c.args.old c.args.start c.args.len (omega (arith, c.if-start-len.false)) c.in-None.ensures)

pub returns-then-old-start-clause-value : goal.returns-then-old-start-clause-value
returns-then-old-start-clause-value t c =
    let split : IsSplit c.args.len c.in-Some.s = c.in-Some.ensures.1 in
    let n = behind_parts c.args.old c.args.start c.args.len c.in-Some.s (omega (arith, c.if-start-len.false)) split in
    let all = behind_all c.args.old (c.args.start + c.in-Some.s) (c.args.len - c.in-Some.s) c.if-old-start.true (omega (arith, split.below)) in
    let k = count-plan (c.args.start + c.in-Some.s) (c.args.len - c.in-Some.s) (omega (arith, split.below)) in
    omega (arith, n, all, k, c.nodes_behind.ensures.value, c.nodes_for.ensures.value)

pub returns-else-old-start-clause-value : goal.returns-else-old-start-clause-value
returns-else-old-start-clause-value t c =
    let split : IsSplit c.args.len c.in-Some.s = c.in-Some.ensures.1 in
    let n = behind_parts c.args.old c.args.start c.args.len c.in-Some.s (omega (arith, c.if-start-len.false)) split in
    let none = behind_none c.args.old c.args.start c.in-Some.s (omega (arith, c.if-old-start.false)) in
    omega (arith, n, none, c.nodes_behind-else-old-start.ensures.value)

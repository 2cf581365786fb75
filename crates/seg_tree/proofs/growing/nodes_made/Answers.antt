use Rattle.std.proofs.Common.{◌∙◌, ap, sym, arith}
use Rattle.segment.specs.Growth.{made, behind}
use Rattle.segment.proofs.ShapeLaws.{shape-plan}
use Rattle.segment.proofs.GrowthLaws.{made-whole, made-behind}
use Rattle.seg_tree.proofs.growing.nodes_made.Goals as goal

pub returns-then-old-eq0-clause-value : goal.returns-then-old-eq0-clause-value
returns-then-old-eq0-clause-value c = c.nodes_for.ensures.value ∙ sym (made-whole c.args.new) ∙ ap (λ n. made n c.args.new) (sym c.if-old-eq0.true)

pub returns-clause-value : goal.returns-clause-value
returns-clause-value c =
    c.nodes_behind.ensures.value ∙ sym (ap (behind c.args.old) (shape-plan c.args.new (omega (arith, c.if-new-eq0.false)))) ∙ sym (made-behind c.args.old c.args.new c.requires.more)

use Rattle.std.proofs.Common.{◌↔◌, ◌<◌, sym, subst, ◌∙◌, arith}
use Rattle.std.specs.Prelude.{IsSome}
use Rattle.std.specs.List.{Contains}
use Rattle.segment.specs.Shape.{shape}
use Rattle.tree_file.specs.Offsets.{range}
use Rattle.tree_file.proofs.OffsetLaws.{found-offset, offset-whole}
use Rattle.tree_file.proofs.offsets.offset_of.Goals as goal

pub returns-clause-found : goal.returns-clause-found
returns-clause-found c =
    let r = range c.args.start c.args.len in
    let some : 0 < c.args.n = omega arith in
    subst (λ o. IsSome o ↔ Contains (shape c.args.n) r) (sym (c.offset_below.ensures ∙ offset-whole c.args.n r some)) (found-offset c.args.n r)

use Rattle.std.proofs.Common.{rules, sym}
use Rattle.error_prop.specs.Sizes.{shape_at, MissNothing}
use Rattle.error_prop.proofs.Costs.{form_a}
use Rattle.error_prop.proofs.sizes.factors.Goals as goal

pub returns-then-miss_nothing-clause-weights : goal.returns-then-miss_nothing-clause-weights
returns-then-miss_nothing-clause-weights c =
    let m : MissNothing c.args.segs.now = search rules in
    rw c.raise.ensures.value (sym (form_a c.args.segs.now (shape_at c.args.u.now 0 c.args.us.now) (shape_at c.args.v.now 0 c.args.vs.now) m))

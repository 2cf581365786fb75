use Rattle.std.proofs.Common.{◌≡◌, ap, length, subst, sym}
use Rattle.std.proofs.lemmas.Int.{to_z-of_z}
use mir.Val.{SFits}
use mir.Syntax.{w64}
use Rattle.expr.specs.Terms.{term_of}
use Rattle.semantics.specs.Term.{Term, base}
use Rattle.error_prop.specs.Locals.{CanForm, IsFormed}
use Rattle.error_prop.proofs.local.weighed_head.Goals as goal

pub returns-in-Base : goal.returns-in-Base
returns-in-Base c =
    let e : term_of c.args.t.now ≡ base c.in-Base.field-0 = ap term_of c.in-Base.is in
    let f : SFits w64 c.args.from = c.ranges.from in
    let i = to_z-of_z w64 c.args.from f in
    let can : CanForm (base c.in-Base.field-0) c.args.segs.now (length c.args.weights.now) c.args.from c.args.len = subst (λ (x : Term). CanForm x c.args.segs.now (length c.args.weights.now) c.args.from c.args.len) e c.requires in
    subst (λ (x : Term). IsFormed x c.args.segs.now c.base_of.new.weights c.base_of.result c.args.from c.args.len) (sym e)
    (subst (λ j. IsFormed (base c.in-Base.field-0) c.args.segs.now c.base_of.new.weights c.base_of.result j c.args.len) i
    (c.base_of.ensures c.in-Base.field-0 (subst (λ j. CanForm (base c.in-Base.field-0) c.args.segs.now (length c.args.weights.now) j c.args.len) (sym i) can)))

use Rattle.std.proofs.Common.{◌≡◌, ap, length, subst, sym}
use Rattle.std.proofs.lemmas.Int.{to_z-of_z}
use mir.Val.{SFits}
use mir.Syntax.{w64}
use Rattle.expr.specs.Terms.{term_of}
use Rattle.semantics.specs.Term.{Term, base}
use Rattle.error_prop.specs.Locals.{CanForm}
use Rattle.error_prop.specs.Points.{IsFormedAt}
use Rattle.error_prop.proofs.points.weighed_point.Goals as goal

pub returns-in-Base : goal.returns-in-Base
returns-in-Base c =
    let e : term_of c.args.t.now ≡ base c.in-Base.field-0 = ap term_of c.in-Base.is in
    let f : SFits w64 c.args.position = c.ranges.position in
    let i = to_z-of_z w64 c.args.position f in
    let can : CanForm (base c.in-Base.field-0) c.args.segs.now (length c.args.weights.now) c.args.position 1 = subst (λ (x : Term). CanForm x c.args.segs.now (length c.args.weights.now) c.args.position 1) e c.requires in
    subst (λ (x : Term). IsFormedAt x c.args.segs.now c.stored_at.new.weights c.stored_at.result c.args.position) (sym e)
    (subst (λ j. IsFormedAt (base c.in-Base.field-0) c.args.segs.now c.stored_at.new.weights c.stored_at.result j) i
    (c.stored_at.ensures c.in-Base.field-0 (subst (λ j. CanForm (base c.in-Base.field-0) c.args.segs.now (length c.args.weights.now) j 1) (sym i) can)))

use Rattle.std.proofs.Common.{◌≡◌, ◌<◌, ◌+◌, suc, ◌++◌, ◌∷◌, [], length, take, get_or, sym, ap, ◌∙◌, arith, rules, pos, append_assoc}
use Rattle.std.proofs.lemmas.List.{get_or_default}
use Rattle.std.proofs.lemmas.Int.{to_z-of_z}
use mir.Val.{SFits}
use mir.Syntax.{w32}
use Rattle.segment.specs.Measure.{unit_seg}
use Rattle.descent.specs.Rows.{units}
use Rattle.answer_check.proofs.Cuts.{units-behind}
use Rattle.answer_check.proofs.cutting.push_units.Goals as goal

pub loop-i-preserved : goal.loop-i-preserved
loop-i-preserved c =
    let i = c.loop-i.i in
    let xs = c.args.readings.now in
    let lt : i < length xs = omega arith in
    let next : i + 1 ≡ suc i = omega arith in
    let x = get_or xs i (pos 0) in
    let fits : SFits w32 x = search rules in
    let seg : c.unit-seg.result ≡ unit_seg (c.args.start + i) x = c.unit-seg.ensures.seg ∙ ap (unit_seg (c.args.start + i)) (to_z-of_z w32 x fits) in
    let more = units-behind c.args.start i xs x lt (get_or_default xs i (pos 0) x lt) in
    rw next (c.in_ok-push.ensures.items ∙ ap (λ g. c.loop-i.segs.items ++ g ∷ []) seg ∙ ap (λ gs. gs ++ unit_seg (c.args.start + i) x ∷ []) c.loop-i.invariant
    ∙ append_assoc c.args.segs.now.items (units c.args.start (take i xs)) (unit_seg (c.args.start + i) x ∷ []) ∙ ap (λ gs. c.args.segs.now.items ++ gs) (sym more))

use Rattle.std.proofs.Common.{rules, arith, ap, ◌∙◌, ◌≡◌, ℕ, length, drop, List, [], ◌∷◌, ◌++◌}
use Rattle.std.proofs.lemmas.Int.{to_z-of_z}
use Rattle.std.proofs.lemmas.List.{map-append}
use mir.Val.{SFits, to_z}
use mir.Syntax.{w64}
use Rattle.pieces.specs.ViewOf.{view_all, view_of}
use Rattle.pieces.proofs.Sweeps.{sweep_more, sweep_same, written_back}
use Rattle.pieces.proofs.refinement.sweep.Goals as goal

pub loop-left-preserved : goal.loop-left-preserved
loop-left-preserved c =
    let f : SFits w64 c.moved-at.result = search rules in
    let w = written_back c.step-len.new.cursors (drop (length c.step-len.new.cursors) c.loop-left.cursors.items) c.loop-left.cursors.len (omega (arith, c.deref_mut.ensures.len, c.step-len.auto.cursors)) in
    let e : view_all c.push.new.self.items ≡ view_all c.loop-left.items.items ++ record { start = to_z w64 c.loop-left.at-bits; len = c.step-len.result; segs = c.step-len.new.cursors } ∷ [] =
    ap view_all c.in_ok-push.ensures.items ∙ map-append view_of c.loop-left.items.items _
    ∙ ap (λ (xs : List ℕ). view_all c.loop-left.items.items ++ record { start = to_z w64 c.loop-left.at-bits; len = c.step-len.result; segs = xs } ∷ []) (c.in_ok-segs.ensures.items ∙ c.as_slice.ensures.value ∙ w) in
    sweep_same c.args.spans.now c.args.occs.now _ _ _ _ _ c.step-len.new.cursors _ _ _
    (to_z-of_z w64 c.moved-at.result f ∙ c.moved-at.ensures)
    w
    e
    (sweep_more c.args.spans.now c.args.occs.now _ _ (to_z w64 c.loop-left.at-bits) c.loop-left.left c.loop-left.cursors.items (view_all c.loop-left.items.items) c.deref_mut.result.now c.step-len.new.cursors c.step-len.result c.loop-left.invariant c.requires.within c.loop-left-test.true c.step-len.ensures)

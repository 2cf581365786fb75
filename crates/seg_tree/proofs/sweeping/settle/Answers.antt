use Rattle.std.proofs.Common.{◌≡◌, ◌<◌, length, get_or, ap, sym, ◌∙◌, arith}
use Rattle.std.proofs.lemmas.List.{get_or_default}
use Rattle.seg_tree.specs.Slots.{settled, no_slot}
use Rattle.seg_tree.proofs.SweepLaws.{settled-stay, settled-go}
use Rattle.seg_tree.proofs.sweeping.settle.Goals.{then-not-stays, else-not-stays}
use Rattle.seg_tree.proofs.sweeping.settle.Goals as goal

pub loop-i-preserved : goal.loop-i-preserved
loop-i-preserved c =
    let inv = c.loop-i.invariant in
    let lt : c.loop-i.i < length c.args.slots.now = omega (arith, c.loop-i-test.true, c.loop-i.auto, inv.long) in
    let slot : c.settled.result ≡ settled c.loop-i.last (get_or c.loop-i.slots c.loop-i.i no_slot) = c.settled.ensures ∙ ap (settled c.loop-i.last) (get_or_default c.loop-i.slots c.loop-i.i _ no_slot (omega (arith, lt, inv.long))) in
    elim c.if-not-stays.branch [
      | then-not-stays w ↦ rw (w.last-is, w.vacancies-is, slot) (settled-go c.loop-i.i c.loop-i.slots _ c.loop-i.last c.loop-i.vacancies inv lt (sym c.is_marked-stays.ensures ∙ w.if-not-stays.true))
      | else-not-stays w ↦ rw (w.last-is, w.vacancies-is, slot) (settled-stay c.loop-i.i c.loop-i.slots _ c.loop-i.last c.loop-i.vacancies inv lt (sym c.is_marked-stays.ensures ∙ w.if-not-stays.false))
    ]

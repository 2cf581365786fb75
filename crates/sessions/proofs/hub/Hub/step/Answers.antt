use Rattle.std.proofs.Common.{subst, ◌∙◌}
use Rattle.sessions.specs.Applied.{Does, StepsSlot}
use Rattle.sessions.specs.Hub.{slot_at, steps}
use Rattle.sessions.specs.Kept.{HubView}
use Rattle.sessions.specs.Places.{hub_view}
use Rattle.sessions.proofs.HubLaws.{Tells, read-set, read-slot, slot-stands, step-does, step-hub, step-refused, with_kept}
use Rattle.sessions.proofs.hub.Hub.step.Goals as goal

pub step_slot-requires : goal.step_slot-requires
step_slot-requires c =
    let v : HubView = hub_view c.self.inside.store c.self.inside.slots.items in
    let x = c.index_mut.result.now in
    slot-stands v c.args.slot x c.self.invariant (read-slot v c.args.slot x c.self.invariant c.requires c.index_mut.ensures.value)

pub invariant_of-self-2 : goal.invariant_of-self-2
invariant_of-self-2 c =
    let v : HubView = hub_view c.self.inside.store c.self.inside.slots.items in
    let x = c.step_slot.new.held in
    let read = read-slot v c.args.slot c.index_mut.result.now c.self.invariant c.requires c.index_mut.ensures.value in
    step-hub v c.args.slot x (subst (λ o. StepsSlot v.store.arena.nodes o x) read c.in_ok-step_slot.ensures.step) c.self.invariant

pub returns-clause-does : goal.returns-clause-does
returns-clause-does c =
    let v : HubView = hub_view c.self.inside.store c.self.inside.slots.items in
    let k = c.args.slot in
    let x = c.step_slot.new.held in
    let r = c.reply_of.result in
    let read = read-slot v k c.index_mut.result.now c.self.invariant c.requires c.index_mut.ensures.value in
    let after = read-set v k x c.index.result.now c.self.invariant c.requires c.index.ensures in
    subst (λ w. Does w (with_kept v k x) r (λ h. steps h k (slot_at h k))) c.self.view_is
    (step-does v k x r (subst (λ o. StepsSlot v.store.arena.nodes o x) read c.in_ok-step_slot.ensures.step) (subst (λ o. Tells k o r) after c.reply_of.ensures))

pub returns-clause-refused : goal.returns-clause-refused
returns-clause-refused c =
    let v : HubView = hub_view c.self.inside.store c.self.inside.slots.items in
    let k = c.args.slot in
    let x = c.step_slot.new.held in
    let r = c.reply_of.result in
    let read = read-slot v k c.index_mut.result.now c.self.invariant c.requires c.index_mut.ensures.value in
    let after = read-set v k x c.index.result.now c.self.invariant c.requires c.index.ensures in
    λ refused. step-refused v k x r c.self.invariant (subst (λ o. StepsSlot v.store.arena.nodes o x) read c.in_ok-step_slot.ensures.step)
    (subst (λ o. Tells k o r) after c.reply_of.ensures) refused ∙ c.self.view_is

use Rattle.std.proofs.Common.{subst}
use Rattle.sessions.specs.Applied.{Does}
use Rattle.sessions.specs.Hub.{shows, slot_at}
use Rattle.sessions.specs.Kept.{HubView}
use Rattle.sessions.specs.Places.{hub_view}
use Rattle.sessions.proofs.HubLaws.{Tells, read-slot, show-does}
use Rattle.sessions.proofs.hub.Hub.show.Goals as goal

pub returns : goal.returns
returns c =
    let v : HubView = hub_view c.self.inside.store c.self.inside.slots.items in
    let k = c.args.slot in
    let r = c.reply_of.result in
    let read = read-slot v k c.index.result.now c.self.invariant c.requires c.index.ensures in
    subst (λ w. Does w w r (λ h. shows h k (slot_at h k))) c.self.view_is
    (show-does v k r (subst (λ o. Tells k o r) read c.reply_of.ensures))

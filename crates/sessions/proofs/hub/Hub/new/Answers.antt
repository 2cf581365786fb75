use Rattle.std.proofs.Common.{◌+◌, List, None, Option, replicate, subst, sym, ◌∙◌}
use Rattle.sessions.specs.Events.{last_slot}
use Rattle.sessions.specs.Kept.{IsHub, Kept}
use Rattle.sessions.specs.Places.{hub_view}
use Rattle.sessions.proofs.HubLaws.{Sweeps, new-hub}
use Rattle.sessions.proofs.hub.Hub.new.Goals as goal

pub invariant_of-result : goal.invariant_of-result
invariant_of-result c =
    let s = c.args.store in
    let t = c.sweep.new.store in
    let own = c.sweep.ensures in
    let ks : List (Option Kept) = replicate (last_slot + 1) None in
    let sweeps : Sweeps s t ks = subst (Sweeps s t) (c.deref.ensures.value ∙ c.in_ok-slots.ensures) (record { live = own.live; reached = own.reached; value = own.value }) in
    subst (λ ks. IsHub (hub_view t ks)) (sym c.in_ok-slots.ensures) (new-hub s t sweeps)

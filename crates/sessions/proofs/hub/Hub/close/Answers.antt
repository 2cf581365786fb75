use Rattle.std.proofs.Common.{◌≡◌, List, None, Option, ap, get_or, is_some, set, subst, sym, true, ◌∙◌}
use Rattle.std.specs.Prelude.{not}
use Rattle.std.specs.List.{All, flat_map}
use Rattle.seg_tree.specs.Trees.{IsTreeOf}
use Rattle.sessions.specs.declared.replies.Reply.TheVariants as reply
use Rattle.sessions.specs.Applied.{Does}
use Rattle.sessions.specs.Hub.{closes, slot_at}
use Rattle.sessions.specs.Kept.{HubView, Kept, trees_kept}
use Rattle.sessions.specs.Places.{HasFewTrees, hub_view}
use Rattle.sessions.proofs.HubLaws.{Sweeps, can-close, close-does, close-hub, free-does, none-free, read-slot}
use Rattle.sessions.proofs.hub.Hub.close.Goals as goal

pub returns-then-is_none-clause-does : goal.returns-then-is_none-clause-does
returns-then-is_none-clause-does c =
    let v : HubView = hub_view c.self.inside.store c.self.inside.slots.items in
    let k = c.args.slot in
    let read = read-slot v k c.index.result.now c.self.invariant c.requires c.index.ensures in
    let free = none-free (get_or v.slots k None) (ap is_some (sym read) ∙ c.is_none.ensures ∙ ap not c.if-is_none.true) in
    subst (λ w. Does w w (reply.SlotFree k) (λ h. closes h k (slot_at h k))) c.self.view_is (free-does v k free)

pub sweep-requires-clause-few : goal.sweep-requires-clause-few
sweep-requires-clause-few c =
    let v : HubView = hub_view c.self.inside.store c.self.inside.slots.items in
    subst (All HasFewTrees) (sym c.deref.ensures.value) (can-close v c.args.slot c.self.invariant).few

pub sweep-requires-clause-trees : goal.sweep-requires-clause-trees
sweep-requires-clause-trees c =
    let v : HubView = hub_view c.self.inside.store c.self.inside.slots.items in
    subst (λ ks. All (IsTreeOf v.store.arena.nodes) (flat_map trees_kept ks)) (sym c.deref.ensures.value) (can-close v c.args.slot c.self.invariant).trees

pub invariant_of-self : goal.invariant_of-self
invariant_of-self c =
    let v : HubView = hub_view c.self.inside.store c.self.inside.slots.items in
    let k = c.args.slot in
    let ks : List (Option Kept) = set v.slots k None in
    let t = c.sweep.new.store in
    let read = read-slot v k c.index.result.now c.self.invariant c.requires c.index.ensures in
    let taken : is_some (get_or v.slots k None) ≡ true = ap is_some (sym read) ∙ c.is_none.ensures ∙ ap not c.if-is_none.false in
    let own = c.sweep.ensures in
    let sweeps : Sweeps v.store t ks = subst (Sweeps v.store t) c.deref.ensures.value (record { live = own.live; reached = own.reached; value = own.value }) in
    close-hub v k t taken sweeps c.self.invariant

pub returns-clause-does : goal.returns-clause-does
returns-clause-does c =
    let v : HubView = hub_view c.self.inside.store c.self.inside.slots.items in
    let k = c.args.slot in
    let ks : List (Option Kept) = set v.slots k None in
    let t = c.sweep.new.store in
    let read = read-slot v k c.index.result.now c.self.invariant c.requires c.index.ensures in
    let taken : is_some (get_or v.slots k None) ≡ true = ap is_some (sym read) ∙ c.is_none.ensures ∙ ap not c.if-is_none.false in
    let own = c.sweep.ensures in
    let sweeps : Sweeps v.store t ks = subst (Sweeps v.store t) c.deref.ensures.value (record { live = own.live; reached = own.reached; value = own.value }) in
    subst (λ w. Does w (hub_view t ks) (reply.Closed k) (λ h. closes h k (slot_at h k))) c.self.view_is (close-does v k t taken sweeps)

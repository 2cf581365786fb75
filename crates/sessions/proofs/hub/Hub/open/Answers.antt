use Rattle.std.proofs.Common.{◌≡◌, None, Ok, Err, ap, get_or, is_some, subst, sym, true, ◌∙◌}
use Rattle.std.proofs.lemmas.Result.{IfOk-weaker}
use Rattle.expr.specs.Terms.{query_term_of}
use Rattle.sessions.specs.declared.replies.Reply.TheVariants as reply
use Rattle.sessions.specs.Applied.{Does}
use Rattle.sessions.specs.Hub.{opens, opens_by, plain_in, slot_at}
use Rattle.sessions.specs.Kept.{HubView}
use Rattle.sessions.specs.Places.{hub_view}
use Rattle.sessions.proofs.HubLaws.{accept-does, busy-does, none-free, read-slot, refuse-does}
use Rattle.store_file.specs.Stored.{store_value}
use Rattle.sessions.proofs.hub.Hub.open.Goals as goal

pub returns-then-is_some-clause-does : goal.returns-then-is_some-clause-does
returns-then-is_some-clause-does c =
    let v : HubView = hub_view c.self.inside.store c.self.inside.slots.items in
    let k = c.args.slot in
    let read = read-slot v k c.index.result.now c.self.invariant c.requires c.index.ensures in
    let taken : is_some (get_or v.slots k None) ≡ true = ap is_some (sym read) ∙ sym c.is_some.ensures ∙ c.if-is_some.true in
    subst (λ w. Does w w (reply.SlotBusy k) (λ h. opens h k c.args.budget c.args.text.now (slot_at h k))) c.self.view_is
    (busy-does v k c.args.budget c.args.text.now taken)

pub begin-requires-clause-free : goal.begin-requires-clause-free
begin-requires-clause-free c =
    let v : HubView = hub_view c.self.inside.store c.self.inside.slots.items in
    let k = c.args.slot in
    let read = read-slot v k c.index.result.now c.self.invariant c.requires c.index.ensures in
    subst (λ (w : HubView). get_or w.slots k None ≡ None) c.self.view_is (none-free (get_or v.slots k None) (ap is_some (sym read) ∙ sym c.is_some.ensures ∙ c.if-is_some.false))

pub returns-in-Ok-clause-does : goal.returns-in-Ok-clause-does
returns-in-Ok-clause-does c =
    let v : HubView = hub_view c.self.inside.store c.self.inside.slots.items in
    let k = c.args.slot in
    let q = query_term_of c.in-Ok.query in
    let read = read-slot v k c.index.result.now c.self.invariant c.requires c.index.ensures in
    let free : get_or v.slots k None ≡ None = none-free (get_or v.slots k None) (ap is_some (sym read) ∙ sym c.is_some.ensures ∙ c.if-is_some.false) in
    let plain : plain_in (store_value v.store) c.args.text.now ≡ Ok q = ap (plain_in (store_value v.store)) (sym c.as_slice.ensures) ∙ c.in-Ok.ensures.ok in
    IfOk-weaker c.begin.result (λ r. Does c.args.self.now c.begin.new.self r (λ h. opens_by h k c.args.budget (Ok q)))
    (λ r. Does c.args.self.now c.begin.new.self r (λ h. opens h k c.args.budget c.args.text.now (slot_at h k)))
    (λ r does. accept-does c.args.self.now c.begin.new.self r k c.args.budget c.args.text.now q
    (subst (λ (w : HubView). get_or w.slots k None ≡ None) c.self.view_is free)
    (subst (λ (w : HubView). plain_in (store_value w.store) c.args.text.now ≡ Ok q) c.self.view_is plain) does)
    c.begin.ensures.does

pub returns-in-Err-Refused-clause-does : goal.returns-in-Err-Refused-clause-does
returns-in-Err-Refused-clause-does c =
    let v : HubView = hub_view c.self.inside.store c.self.inside.slots.items in
    let k = c.args.slot in
    let cause = c.in-Err-Refused.cause in
    let read = read-slot v k c.index.result.now c.self.invariant c.requires c.index.ensures in
    let free : get_or v.slots k None ≡ None = none-free (get_or v.slots k None) (ap is_some (sym read) ∙ sym c.is_some.ensures ∙ c.if-is_some.false) in
    let refused : plain_in (store_value v.store) c.as_slice.result.now ≡ Err cause = rw c.in-Err-Refused.field-0-is at c.in-Err-Refused.ensures.refused in
    let plain : plain_in (store_value v.store) c.args.text.now ≡ Err cause = ap (plain_in (store_value v.store)) (sym c.as_slice.ensures) ∙ refused in
    subst (λ w. Does w w (reply.Refused cause) (λ h. opens h k c.args.budget c.args.text.now (slot_at h k))) c.self.view_is
    (refuse-does v k c.args.budget c.args.text.now cause free plain)

use Rattle.std.proofs.Common.{◌≡◌, None, Ok, Some, get_or, subst, sym}
use Rattle.expr.specs.Terms.{query_term_of}
use Rattle.semantics.specs.Admitted.{IsAdmitted}
use Rattle.sessions.specs.declared.replies.Reply.TheVariants as reply
use Rattle.sessions.specs.Applied.{Does}
use Rattle.sessions.specs.Hub.{opens_by}
use Rattle.sessions.specs.Kept.{HubView}
use Rattle.sessions.specs.Places.{hub_view}
use Rattle.sessions.proofs.HubLaws.{open-does, open-hub, with_kept}
use Rattle.store_file.specs.Facts.{facts_in}
use Rattle.store_file.specs.Stored.{store_value}
use Rattle.sessions.proofs.hub.Hub.begin.Goals as goal

pub open-requires-clause-admitted : goal.open-requires-clause-admitted
open-requires-clause-admitted c =
    subst (λ (w : HubView). IsAdmitted (facts_in (store_value w.store)) (query_term_of c.args.query)) (sym c.self.view_is) c.requires.admitted

pub invariant_of-self : goal.invariant_of-self
invariant_of-self c =
    let v : HubView = hub_view c.self.inside.store c.self.inside.slots.items in
    let k = c.args.slot in
    let free = subst (λ (w : HubView). get_or w.slots k None ≡ None) (sym c.self.view_is) c.requires.free in
    let own = c.in_ok-session.ensures in
    open-hub v k (query_term_of c.args.query) c.args.budget c.in_ok-session.session free (record { keeps = own.keeps; trees = own.trees }) c.self.invariant

pub returns-clause-does : goal.returns-clause-does
returns-clause-does c =
    let v : HubView = hub_view c.self.inside.store c.self.inside.slots.items in
    let k = c.args.slot in
    let q = query_term_of c.args.query in
    let x = c.in_ok-session.session in
    let own = c.in_ok-session.ensures in
    subst (λ w. Does w (with_kept v k (Some x)) (reply.Opened k c.interval.result) (λ h. opens_by h k c.args.budget (Ok q))) c.self.view_is
    (subst (λ iv. Does v (with_kept v k (Some x)) (reply.Opened k iv) (λ h. opens_by h k c.args.budget (Ok q))) (sym c.interval.ensures)
    (open-does v k q c.args.budget x (record { keeps = own.keeps; trees = own.trees })))

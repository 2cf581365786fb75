use Rattle.std.proofs.Common.{◌≡◌, Some, ap, length, subst, sym, ◌∙◌}
use Rattle.std.specs.Prelude.{IfOk, ◌⊎◌}
use Rattle.std.specs.List.{All, flat_map}
use Rattle.seg_tree.specs.Trees.{IsTreeOf}
use Rattle.sessions.specs.declared.replies.Reply.TheVariants as reply
use Rattle.sessions.specs.Kept.{HubView, trees_kept}
use Rattle.sessions.specs.Places.{HasFewTrees, hub_view}
use Rattle.sessions.proofs.HubLaws.{AppendDoes, Appends, Sweeps, append-does, append-hub, can-append, refusal-does}
use Rattle.store_file.specs.Grown.{append_refusal}
use Rattle.store_file.specs.declared.adding.SeriesErr.TheVariants as refusal
use Rattle.sessions.proofs.hub.Hub.append.Goals as goal

pub returns-in-Err-clause-does : goal.returns-in-Err-clause-does
returns-in-Err-clause-does c =
    let v : HubView = hub_view c.self.inside.store c.self.inside.slots.items in
    let w : HubView = hub_view c.append_series.new.self c.self.inside.slots.items in
    let name = c.args.name.now in
    let xs = c.args.xs.now in
    let e = c.in-Err.e in
    let same : w ≡ v = ap (λ s. hub_view s c.self.inside.slots.items) c.in-Err.ensures.kept in
    let why = subst (λ ys. (e ≡ refusal.Memory) ⊎ (append_refusal v.store name ys ≡ Some e)) c.as_slice.ensures c.in-Err.ensures.refused in
    subst (λ u. IfOk c.refusal.result (λ r. AppendDoes u w r name xs)) c.self.view_is
    (refusal-does v w name xs e c.refusal.result same c.refusal.ensures.said c.refusal.ensures.memory why)

pub sweep-requires-clause-few : goal.sweep-requires-clause-few
sweep-requires-clause-few c =
    let v : HubView = hub_view c.self.inside.store c.self.inside.slots.items in
    subst (All HasFewTrees) (sym c.deref.ensures.value) (can-append v c.append_series.new.self c.in-Ok.ensures.extends c.self.invariant).few

pub sweep-requires-clause-trees : goal.sweep-requires-clause-trees
sweep-requires-clause-trees c =
    let v : HubView = hub_view c.self.inside.store c.self.inside.slots.items in
    subst (λ ks. All (IsTreeOf c.append_series.new.self.arena.nodes) (flat_map trees_kept ks)) (sym c.deref.ensures.value)
    (can-append v c.append_series.new.self c.in-Ok.ensures.extends c.self.invariant).trees

pub invariant_of-self-2 : goal.invariant_of-self-2
invariant_of-self-2 c =
    let v : HubView = hub_view c.self.inside.store c.self.inside.slots.items in
    let grown = c.append_series.new.self in
    let t = c.sweep.new.store in
    let name = c.args.name.now in
    let xs = c.as_slice.result.now in
    let own = c.sweep.ensures in
    let put = c.in-Ok.ensures in
    let sweeps : Sweeps grown t v.slots = subst (Sweeps grown t) c.deref.ensures.value (record { live = own.live; reached = own.reached; value = own.value }) in
    let all : Appends v.store grown t v.slots name xs = record { value = put.grown; ok = put.ok; extends = put.extends; sweeps = sweeps } in
    append-hub v grown t name xs all c.self.invariant

pub returns-clause-does : goal.returns-clause-does
returns-clause-does c =
    let v : HubView = hub_view c.self.inside.store c.self.inside.slots.items in
    let grown = c.append_series.new.self in
    let t = c.sweep.new.store in
    let name = c.args.name.now in
    let xs = c.as_slice.result.now in
    let own = c.sweep.ensures in
    let put = c.in-Ok.ensures in
    let sweeps : Sweeps grown t v.slots = subst (Sweeps grown t) c.deref.ensures.value (record { live = own.live; reached = own.reached; value = own.value }) in
    let all : Appends v.store grown t v.slots name xs = record { value = put.grown; ok = put.ok; extends = put.extends; sweeps = sweeps } in
    let added = length c.as_slice-2.result.now in
    let total = c.in-Ok.total in
    let many : added ≡ length xs = ap length (c.as_slice-2.ensures ∙ sym c.as_slice.ensures) in
    let does = append-does v grown t name xs added total all c.self.invariant.live many put.len in
    subst (λ u. AppendDoes u (hub_view t v.slots) (reply.Appended name added total) name c.args.xs.now) c.self.view_is
    (subst (λ ys. AppendDoes v (hub_view t v.slots) (reply.Appended name added total) name ys) c.as_slice.ensures does)

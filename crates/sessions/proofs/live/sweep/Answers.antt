use Rattle.std.proofs.Common.{◌≤◌, ap, subst, sym, ◌∙◌}
use Rattle.std.specs.List.{All, flat_map}
use Rattle.seg_tree.specs.Linked.{used}
use Rattle.seg_tree.specs.Trees.{IsTreeOf}
use Rattle.sessions.specs.Kept.{live_trees, trees_kept}
use Rattle.sessions.specs.Places.{hub_view}
use Rattle.sessions.proofs.LiveLaws.{IsSwept, fewer-used, live-is, live-trees, store-left}
use Rattle.store_file.specs.Stored.{StoreParts, store_value}
use Rattle.sessions.proofs.live.sweep.Goals as goal

pub sweep-requires : goal.sweep-requires
sweep-requires c =
    let s : StoreParts = record { scale = c.store.inside.scale; degree = c.store.inside.degree; entries = c.store.inside.series.entries; arena = c.store.inside.arena } in
    let ks = c.args.slots.now in
    let is = live-is s ks c.as_slice.result.now c.push_kept.new.live c.push_stored.new.live c.new-live.result c.as_slice.ensures c.push_kept.ensures c.push_stored.ensures c.new-live.ensures in
    subst (All (IsTreeOf s.arena.nodes)) (sym is)
    (live-trees s ks c.store.invariant (subst (λ (t : StoreParts). All (IsTreeOf t.arena.nodes) (flat_map trees_kept ks)) (sym c.store.view_is) c.requires.trees))

pub invariant_of-store : goal.invariant_of-store
invariant_of-store c =
    let s : StoreParts = record { scale = c.store.inside.scale; degree = c.store.inside.degree; entries = c.store.inside.series.entries; arena = c.store.inside.arena } in
    let ks = c.args.slots.now in
    let is = live-is s ks c.as_slice.result.now c.push_kept.new.live c.push_stored.new.live c.new-live.result c.as_slice.ensures c.push_kept.ensures c.push_stored.ensures c.new-live.ensures in
    let swept : IsSwept s.arena.nodes c.sweep.new.self.nodes (live_trees (hub_view s ks)) =
    subst (IsSwept s.arena.nodes c.sweep.new.self.nodes) is (record { reached = c.sweep.ensures.reached; kept = c.sweep.ensures.kept }) in
    (store-left s c.sweep.new.self ks c.store.invariant swept c.sweep.ensures.degree).sound

pub returns-clause-live : goal.returns-clause-live
returns-clause-live c =
    let s : StoreParts = record { scale = c.store.inside.scale; degree = c.store.inside.degree; entries = c.store.inside.series.entries; arena = c.store.inside.arena } in
    let ks = c.args.slots.now in
    let is = live-is s ks c.as_slice.result.now c.push_kept.new.live c.push_stored.new.live c.new-live.result c.as_slice.ensures c.push_kept.ensures c.push_stored.ensures c.new-live.ensures in
    let swept : IsSwept s.arena.nodes c.sweep.new.self.nodes (live_trees (hub_view s ks)) =
    subst (IsSwept s.arena.nodes c.sweep.new.self.nodes) is (record { reached = c.sweep.ensures.reached; kept = c.sweep.ensures.kept }) in
    (store-left s c.sweep.new.self ks c.store.invariant swept c.sweep.ensures.degree).live

pub returns-clause-fewer : goal.returns-clause-fewer
returns-clause-fewer c =
    let s : StoreParts = record { scale = c.store.inside.scale; degree = c.store.inside.degree; entries = c.store.inside.series.entries; arena = c.store.inside.arena } in
    subst (λ (t : StoreParts). used c.sweep.new.self.nodes ≤ used t.arena.nodes) c.store.view_is (fewer-used s.arena.nodes c.sweep.new.self.nodes c.sweep.ensures.kept)

pub returns-clause-value : goal.returns-clause-value
returns-clause-value c =
    let s : StoreParts = record { scale = c.store.inside.scale; degree = c.store.inside.degree; entries = c.store.inside.series.entries; arena = c.store.inside.arena } in
    let ks = c.args.slots.now in
    let is = live-is s ks c.as_slice.result.now c.push_kept.new.live c.push_stored.new.live c.new-live.result c.as_slice.ensures c.push_kept.ensures c.push_stored.ensures c.new-live.ensures in
    let swept : IsSwept s.arena.nodes c.sweep.new.self.nodes (live_trees (hub_view s ks)) =
    subst (IsSwept s.arena.nodes c.sweep.new.self.nodes) is (record { reached = c.sweep.ensures.reached; kept = c.sweep.ensures.kept }) in
    (store-left s c.sweep.new.self ks c.store.invariant swept c.sweep.ensures.degree).value ∙ ap store_value c.store.view_is

use Rattle.std.proofs.Common.{◌≡◌, ◌∙◌, Err, refl, sym, ap}
use Rattle.descent.specs.Descents.{cut_of}
use Rattle.expr.specs.Terms.{query_term_of}
use Rattle.seg_tree.specs.Reached.{forest_of}
use Rattle.sessions.specs.Kept.{reached_from}
use Rattle.sessions.proofs.SessionLaws.{means_own, same_reached, still_tracks}
use Rattle.sessions.proofs.StoreNodes.{are_handed, handed_admitted, handed_all, handed_apart, handed_by, handed_known, handed_roots}
use Rattle.sessions.proofs.session.first_cut.Goals as goal

pub new-nodes-requires-clause-of_arena : goal.new-nodes-requires-clause-of_arena
new-nodes-requires-clause-of_arena c = (are_handed _ c.args.store.now c.args.trees.now c.store.view_is c.store.invariant c.requires.trees).all

pub roots-requires-clause-apart : goal.roots-requires-clause-apart
roots-requires-clause-apart c =
    handed_apart c.args.store.now c.deref.result.now c.new-nodes.result
    (handed_by _ c.args.store.now c.deref.result.now c.new-nodes.result c.store.view_is c.store.invariant (c.deref.ensures.value ∙ c.in_ok-names.ensures) c.new-nodes.ensures.nodes (c.new-nodes.ensures.trees ∙ c.requires.trees))

pub roots-requires-clause-known : goal.roots-requires-clause-known
roots-requires-clause-known c =
    handed_known (query_term_of c.args.query.now) c.args.store.now c.deref.result.now c.new-nodes.result
    (handed_by _ c.args.store.now c.deref.result.now c.new-nodes.result c.store.view_is c.store.invariant (c.deref.ensures.value ∙ c.in_ok-names.ensures) c.new-nodes.ensures.nodes (c.new-nodes.ensures.trees ∙ c.requires.trees))

pub roots-requires-clause-admitted : goal.roots-requires-clause-admitted
roots-requires-clause-admitted c =
    handed_admitted (query_term_of c.args.query.now) c.args.store.now c.deref.result.now c.new-nodes.result
    (handed_by _ c.args.store.now c.deref.result.now c.new-nodes.result c.store.view_is c.store.invariant (c.deref.ensures.value ∙ c.in_ok-names.ensures) c.new-nodes.ensures.nodes (c.new-nodes.ensures.trees ∙ c.requires.trees))
    c.requires.admitted

pub returns-in-Ok-clause-rows : goal.returns-in-Ok-clause-rows
returns-in-Ok-clause-rows c =
    let r = c.new-nodes.result in
    let h = handed_by _ c.args.store.now c.deref.result.now r c.store.view_is c.store.invariant (c.deref.ensures.value ∙ c.in_ok-names.ensures) c.new-nodes.ensures.nodes (c.new-nodes.ensures.trees ∙ c.requires.trees) in
    let same = same_reached r c.new-source.result (c.new-nodes.ensures.nodes ∙ sym c.new-source.ensures.nodes) (c.new-nodes.ensures.trees ∙ sym c.new-source.ensures.trees) in
    c.in-Ok.ensures.cut (forest_of r) (same, means_own r (handed_all c.args.store.now c.deref.result.now r h))
    ∙ ap cut_of (handed_roots (query_term_of c.args.query.now) c.args.store.now c.deref.result.now r h)

pub returns-in-Ok-clause-tracks : goal.returns-in-Ok-clause-tracks
returns-in-Ok-clause-tracks c =
    let r = c.new-nodes.result in
    let h = handed_by _ c.args.store.now c.deref.result.now r c.store.view_is c.store.invariant (c.deref.ensures.value ∙ c.in_ok-names.ensures) c.new-nodes.ensures.nodes (c.new-nodes.ensures.trees ∙ c.requires.trees) in
    let same = same_reached r c.new-source.result (c.new-nodes.ensures.nodes ∙ sym c.new-source.ensures.nodes) (c.new-nodes.ensures.trees ∙ sym c.new-source.ensures.trees) in
    let is : r ≡ reached_from c.args.store.now.arena.nodes c.args.trees.now = h.is ∙ ap (reached_from c.args.store.now.arena.nodes) (sym c.requires.trees) in
    still_tracks c.args.store.now.arena.nodes c.args.trees.now r c.roots.new.nodes c.new-source.result c.roots.new.source c.in-Ok.cut.tracks is same c.roots.ensures.lasting
    (are_handed c.args.store.now c.args.store.now c.args.trees.now refl h.sound c.requires.trees).all c.roots.ensures.means c.in-Ok.ensures.of

pub unreachable-requires-in-Err-Bad : goal.unreachable-requires-in-Err-Bad
unreachable-requires-in-Err-Bad c =
    let r = c.new-nodes.result in
    let h = handed_by _ c.args.store.now c.deref.result.now r c.store.view_is c.store.invariant (c.deref.ensures.value ∙ c.in_ok-names.ensures) c.new-nodes.ensures.nodes (c.new-nodes.ensures.trees ∙ c.requires.trees) in
    let same = same_reached r c.new-source.result (c.new-nodes.ensures.nodes ∙ sym c.new-source.ensures.nodes) (c.new-nodes.ensures.trees ∙ sym c.new-source.ensures.trees) in
    c.roots.ensures.bad (c.in-Err-Bad.is ∙ ap Err c.in-Err-Bad.field-0-is) (forest_of r) (same, means_own r (handed_all c.args.store.now c.deref.result.now r h))

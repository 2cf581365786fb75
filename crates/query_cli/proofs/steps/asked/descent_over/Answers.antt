use Rattle.std.proofs.Common.{◌∙◌, ap, subst}
use Rattle.expr.specs.Terms.{query_term_of}
use Rattle.descent.specs.Descents.{Nodes}
use Rattle.descent.specs.Told.{Tells}
use Rattle.seg_tree.specs.Reached.{forest_of}
use Rattle.sessions.specs.Hub.{first_nodes}
use Rattle.sessions.specs.Kept.{trees_of}
use Rattle.sessions.proofs.SessionLaws.{means_own}
use Rattle.sessions.proofs.SteadyLaw.{series_forest}
use Rattle.sessions.proofs.StoreNodes.{are_handed, handed_admitted, handed_all, handed_apart, handed_by, handed_known, handed_roots, values_same}
use Rattle.store_file.specs.Stored.{store_value}
use Rattle.store_file.proofs.StoredLaws.{view-value}
use Rattle.query_cli.proofs.AskedLaws.{holds}
use Rattle.query_cli.proofs.steps.asked.descent_over.Goals as goal

pub new-nodes-requires-clause-of_arena : goal.new-nodes-requires-clause-of_arena
new-nodes-requires-clause-of_arena c =
    (are_handed _ c.args.store.now c.deref.result.now c.store.view_is c.store.invariant (c.deref.ensures.value ∙ c.in_ok-trees.ensures ∙ values_same c.store.inside.series.entries ∙ ap trees_of c.store.view_is)).all

pub descend-requires-clause-apart : goal.descend-requires-clause-apart
descend-requires-clause-apart c =
    let trees = c.new-nodes.ensures.trees ∙ c.deref.ensures.value ∙ c.in_ok-trees.ensures ∙ values_same c.store.inside.series.entries ∙ ap trees_of c.store.view_is in
    handed_apart c.args.store.now c.deref-2.result.now c.new-nodes.result
    (handed_by _ c.args.store.now c.deref-2.result.now c.new-nodes.result c.store.view_is c.store.invariant (c.deref-2.ensures.value ∙ c.in_ok-names.ensures) c.new-nodes.ensures.nodes trees)

pub descend-requires-clause-known : goal.descend-requires-clause-known
descend-requires-clause-known c =
    let trees = c.new-nodes.ensures.trees ∙ c.deref.ensures.value ∙ c.in_ok-trees.ensures ∙ values_same c.store.inside.series.entries ∙ ap trees_of c.store.view_is in
    handed_known (query_term_of c.args.q.now) c.args.store.now c.deref-2.result.now c.new-nodes.result
    (handed_by _ c.args.store.now c.deref-2.result.now c.new-nodes.result c.store.view_is c.store.invariant (c.deref-2.ensures.value ∙ c.in_ok-names.ensures) c.new-nodes.ensures.nodes trees)

pub descend-requires-clause-admitted : goal.descend-requires-clause-admitted
descend-requires-clause-admitted c =
    let trees = c.new-nodes.ensures.trees ∙ c.deref.ensures.value ∙ c.in_ok-trees.ensures ∙ values_same c.store.inside.series.entries ∙ ap trees_of c.store.view_is in
    handed_admitted (query_term_of c.args.q.now) c.args.store.now c.deref-2.result.now c.new-nodes.result
    (handed_by _ c.args.store.now c.deref-2.result.now c.new-nodes.result c.store.view_is c.store.invariant (c.deref-2.ensures.value ∙ c.in_ok-names.ensures) c.new-nodes.ensures.nodes trees)
    c.requires.admitted

pub returns-in-Ok-clause-told : goal.returns-in-Ok-clause-told
unfolding first_nodes
returns-in-Ok-clause-told c =
    let q = query_term_of c.args.q.now in
    let r = c.new-nodes.result in
    let trees = c.new-nodes.ensures.trees ∙ c.deref.ensures.value ∙ c.in_ok-trees.ensures ∙ values_same c.store.inside.series.entries ∙ ap trees_of c.store.view_is in
    let h = handed_by _ c.args.store.now c.deref-2.result.now r c.store.view_is c.store.invariant (c.deref-2.ensures.value ∙ c.in_ok-names.ensures) c.new-nodes.ensures.nodes trees in
    subst (λ (first : Nodes). Tells q first c.args.budget c.in-Ok.answer) (handed_roots q c.args.store.now c.deref-2.result.now r h)
    (c.in-Ok.ensures.last (forest_of r) (means_own r (handed_all c.args.store.now c.deref-2.result.now r h)))

pub returns-in-Ok-clause-holds : goal.returns-in-Ok-clause-holds
returns-in-Ok-clause-holds c =
    let m = store_value c.args.store.now in
    holds (query_term_of c.args.q.now) m _ c.args.budget c.in-Ok.answer (series_forest m.series (view-value _ c.args.store.now c.store.view_is c.store.invariant).trees) c.requires.plain
    (returns-in-Ok-clause-told c)

use Rattle.std.proofs.Common.{◌∙◌, ℕ, map, sym, ap, subst}
use Rattle.descent.specs.Held.{CutView}
use Rattle.expr.specs.Terms.{query_term_of}
use Rattle.sessions.specs.Kept.{AreTracksIn, entry_tree, reached_from}
use Rattle.sessions.proofs.SessionLaws.{has_interval, keeps_opened}
use Rattle.sessions.proofs.StoreNodes.{values_same}
use Rattle.store_file.specs.Stored.{IsSound, StoreParts, store_value}
use Rattle.store_file.proofs.StoredLaws.{view-value}
use Rattle.sessions.proofs.session.Session.open.Goals as goal

pub first_cut-requires-clause-trees : goal.first_cut-requires-clause-trees
first_cut-requires-clause-trees c = c.deref.ensures.value ∙ c.in_ok-trees.ensures ∙ values_same c.store.inside.series.entries ∙ ap (λ (p : StoreParts). map entry_tree p.entries) c.store.view_is

pub interval_of-requires-clause-interval : goal.interval_of-requires-clause-interval
interval_of-requires-clause-interval c =
    has_interval (store_value c.args.store.now) (query_term_of c.args.query) c.in_ok-cut.cut c.requires.plain
    (record { store = view-value _ c.args.store.now c.store.view_is c.store.invariant; steps = 0; rows = c.in_ok-cut.ensures.rows })

pub returns-clause-trees : goal.returns-clause-trees
returns-clause-trees c = c.in_ok-trees.ensures ∙ values_same c.store.inside.series.entries ∙ ap (λ (p : StoreParts). map entry_tree p.entries) c.store.view_is

pub returns-clause-keeps : goal.returns-clause-keeps
returns-clause-keeps c =
    let q = query_term_of c.args.query in
    let same = c.in_ok-running.ensures.same in
    keeps_opened c.args.store.now _ q c.in_ok-cut.cut (subst IsSound c.store.view_is c.store.invariant) c.in_ok-cut.ensures.cut c.in_ok-cut.ensures.rows
    (subst (λ ts. AreTracksIn (reached_from c.args.store.now.arena.nodes ts) c.in_ok-cut.cut.tracks) c.deref.ensures.value c.in_ok-cut.ensures.tracks)
    (record { query = ap (λ (v : CutView ℕ). v.query) (sym same); tracks = ap (λ (v : CutView ℕ). v.tracks) (sym same); own = c.in_ok-cut.ensures.cut.query })
    (returns-clause-trees c) c.in_ok-running.ensures.interval

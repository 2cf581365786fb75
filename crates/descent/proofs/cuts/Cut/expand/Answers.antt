use Rattle.std.proofs.Common.{◌≡◌, Some, arith, ◌<◌, refl, sym, ap, subst, ◌∙◌, length, get_or, set, List}
use Rattle.std.proofs.lemmas.List.{length-set}
use Rattle.std.proofs.lemmas.List.Elements.{All-set, All-weaker}
use Rattle.semantics.specs.Admission.{sums_of}
use Rattle.expr.specs.Terms.{query_term_of}
use Rattle.descent.specs.declared.cuts.Change.{Change}
use Rattle.descent.specs.declared.cuts.State.{State}
use Rattle.descent.specs.CutFields.{IsKeptAs}
use Rattle.descent.specs.Rows.{Track, with_rows}
use Rattle.descent.specs.Known.{AreApart}
use Rattle.descent.specs.Sound.{IsSoundTrack}
use Rattle.descent.specs.Held.{row_in, head_of, heads, CutView, Held, IsClosedAt, IsTrackOf, AreTracksOf, shown, steps_in, steps_left}
use Rattle.descent.specs.Laid.{held, restored}
use Rattle.descent.specs.Spent.{opened_among, opened_in, rows_in, Spends}
use Rattle.descent.proofs.SpentLaws.{spends-set}
use Rattle.descent.specs.Stepped.{IsClosedFrom}
use Rattle.descent.proofs.Steps.{track-later}
use Rattle.descent.proofs.Tracks.{has-at, closed-from, names-set, rising-set, heads-set, steps_left-set, expanded-at}
use Rattle.descent.proofs.Backs.{back-at, restored-at, whole-again}
use Rattle.descent.proofs.KeepingLaws.{kept-after}
use Rattle.descent.proofs.cuts.Cut.expand.Goals as goal

pub unreachable-requires : goal.unreachable-requires
unreachable-requires g c =
    let at = c.requires.at in
    let h = has-at at.track c.args.self.now.tracks at.there in
    let e : c.deref.result.now ≡ c.args.self.now.tracks = c.deref.ensures.value ∙ (ap (λ (v : CutView g.row.I.Denot). v.tracks) c.self.view_is) in
    c.in_default.ensures.none refl h.0 at.track (rw e h.1) (rw e (ap (λ (t : Track (Held g.row.I.Denot)). t.series) (h.2 at.track) ∙ at.series))

pub expand_row-requires-clause-at : goal.expand_row-requires-clause-at
expand_row-requires-clause-at g c =
    let xs = c.self.inside.tables.items in
    let t = c.index_mut.result.now in
    let k = c.in-Some.k in
    let lt : k < length xs = rw c.deref.ensures.value at c.in-Some.ensures.some.0 in
    let is : IsClosedAt xs c.args.at = subst (λ (ys : List (Track (Held g.row.I.Denot))). IsClosedAt ys c.args.at) (sym (ap (λ (v : CutView g.row.I.Denot). v.tracks) c.self.view_is)) c.requires.at in
    let s : (get_or xs k t).series ≡ c.args.at.series = rw c.deref.ensures.value at (c.in-Some.ensures.some.1 t) in
    closed-from xs c.args.at k t c.self.invariant.rising is lt (sym c.index_mut.ensures.value) (ap (λ (q : Track (Held g.row.I.Denot)). q.series) c.index_mut.ensures.value ∙ s)

pub invariant_of-self-2 : goal.invariant_of-self-2
invariant_of-self-2 g c =
    let xs = c.self.inside.tables.items in
    let t = c.index_mut.result.now in
    let k = c.in-Some.k in
    let new = c.expand_row.new.table in
    let lt : k < length xs = rw c.deref.ensures.value at c.in-Some.ensures.some.0 in
    let n = length-set xs k new in
    let v = c.index_mut.ensures.value in
    let same : new ≡ record (get_or xs k t) { rows = new.rows } = c.expand_row.ensures.same ∙ ap (λ (q : Track (Held g.row.I.Denot)). let u : Track (Held g.row.I.Denot) = record q { rows = new.rows } in u) v in
    let back : restored (held c.in_ok-row.row) new.rows ≡ (get_or xs k t).rows = c.in_ok-row.ensures.restored ∙ ap (λ (q : Track (Held g.row.I.Denot)). q.rows) v in
    let change : Change g.row.I.Denot = record { table = k; row = c.in_ok-row.row } in
    let ss = sums_of (query_term_of c.self.inside.query) in
    let ks = c.self.inside.kept.items in
    record {
      few = omega (arith, c.self.invariant.few, n);
      rising = rising-set 0 xs k new t c.self.invariant.rising lt (ap (λ (q : Track (Held g.row.I.Denot)). q.series) c.expand_row.ensures.same ∙ ap (λ (q : Track (Held g.row.I.Denot)). q.series) c.index_mut.ensures.value);
      apart = subst AreApart (sym (names-set xs k new t lt (ap (λ (q : Track (Held g.row.I.Denot)). q.name) c.expand_row.ensures.same ∙ ap (λ (q : Track (Held g.row.I.Denot)). q.name) c.index_mut.ensures.value))) c.self.invariant.apart;
      back = back-at xs k c.in_ok-row.row new lt c.in_ok-row.ensures.back
          (subst (λ (q : Track (Held g.row.I.Denot)). IsSoundTrack (with_rows row_in q)) (sym (whole-again t new (restored (held c.in_ok-row.row) new.rows) c.expand_row.ensures.same c.in_ok-row.ensures.restored)) c.expand_row.ensures.sound);
      kept = subst (λ (s : State). IsKeptAs s (set xs k new) (Some change) ss ks) (sym c.after-self-inside.ensures)
          (kept-after c.self.inside.state xs (set xs k new) c.self.inside.last change ss ks (restored-at xs k (held c.in_ok-row.row) new t lt same back) c.self.invariant.kept);
    }

pub returns-clause-step : goal.returns-clause-step
returns-clause-step g c =
    let xs = c.self.inside.tables.items in
    let t = c.index_mut.result.now in
    let new = c.expand_row.new.table in
    let k = c.in-Some.k in
    let lt : k < length xs = rw c.deref.ensures.value at c.in-Some.ensures.some.0 in
    let s : (get_or xs k t).series ≡ c.args.at.series = rw c.deref.ensures.value at (c.in-Some.ensures.some.1 t) in
    let v = c.index_mut.ensures.value in
    (λ forest ns means nodes same.
    expanded-at forest c.args.at 0 xs ns k new t c.self.invariant.rising lt s
    (c.expand_row.ensures.same ∙ ap (λ (q : Track (Held g.row.I.Denot)). record q { rows = new.rows }) v)
    (subst (λ q. Rattle.descent.specs.Stepped.StepsTrack forest c.args.at.start q new) v (c.in_ok-row.ensures.step forest means))
    nodes (ap shown (ap (λ (v : CutView g.row.I.Denot). v.tracks) c.self.view_is) ∙ same))

pub returns-clause-of : goal.returns-clause-of
returns-clause-of g c =
    let xs = c.self.inside.tables.items in
    let of = subst (λ (ys : List (Track (Held g.row.I.Denot))). AreTracksOf (g.N.Nodes.lengths c.args.nodes.now) (g.N.Nodes.roots c.args.nodes.now) (g.N.Nodes.stands c.args.nodes.now c.args.source.now) ys) (sym (ap (λ (v : CutView g.row.I.Denot). v.tracks) c.self.view_is)) c.requires.of in
    let before = IsTrackOf (g.N.Nodes.lengths c.args.nodes.now) (g.N.Nodes.roots c.args.nodes.now) (g.N.Nodes.stands c.args.nodes.now c.args.source.now) in
    let after = IsTrackOf (g.N.Nodes.lengths c.expand_row.new.nodes) (g.N.Nodes.roots c.expand_row.new.nodes) (g.N.Nodes.stands c.expand_row.new.nodes c.expand_row.new.source) in
    (All-set after xs c.in-Some.k c.expand_row.new.table c.in_ok-row.ensures.of
    (All-weaker before after (track-later (g.N.Nodes.lengths c.args.nodes.now) (g.N.Nodes.lengths c.expand_row.new.nodes) (g.N.Nodes.roots c.args.nodes.now) (g.N.Nodes.roots c.expand_row.new.nodes)
    (g.N.Nodes.stands c.args.nodes.now c.args.source.now) (g.N.Nodes.stands c.expand_row.new.nodes c.expand_row.new.source) c.expand_row.ensures.lengths c.expand_row.ensures.roots c.expand_row.ensures.ids) xs of))

pub returns-clause-less : goal.returns-clause-less
returns-clause-less g c =
    let xs = c.self.inside.tables.items in
    let t = c.index_mut.result.now in
    let k = c.in-Some.k in
    let lt : k < length xs = rw c.deref.ensures.value at c.in-Some.ensures.some.0 in
    (subst (λ (ys : List (Track (Held g.row.I.Denot))). steps_left (set xs k c.expand_row.new.table) < steps_left ys) (ap (λ (v : CutView g.row.I.Denot). v.tracks) c.self.view_is)
    (steps_left-set xs k c.expand_row.new.table t lt (subst (λ (q : Track (Held g.row.I.Denot)). steps_in c.expand_row.new.table.rows < steps_in q.rows) c.index_mut.ensures.value c.in_ok-row.ensures.less)))

pub returns-clause-heads : goal.returns-clause-heads
returns-clause-heads g c =
    let xs = c.self.inside.tables.items in
    let t = c.index_mut.result.now in
    let k = c.in-Some.k in
    let lt : k < length xs = rw c.deref.ensures.value at c.in-Some.ensures.some.0 in
    heads-set xs k c.expand_row.new.table t lt (ap (λ (q : Track (Held g.row.I.Denot)). head_of q) c.expand_row.ensures.same ∙ ap (λ (q : Track (Held g.row.I.Denot)). head_of q) c.index_mut.ensures.value)
    ∙ ap (λ (v : CutView g.row.I.Denot). heads v.tracks) c.self.view_is

pub returns-clause-before : goal.returns-clause-before
returns-clause-before g c =
    let xs = c.self.inside.tables.items in
    let t = c.index_mut.result.now in
    let k = c.in-Some.k in
    let new = c.expand_row.new.table in
    let lt : k < length xs = rw c.deref.ensures.value at c.in-Some.ensures.some.0 in
    let v = c.index_mut.ensures.value in
    let same : new ≡ record (get_or xs k t) { rows = new.rows } = c.expand_row.ensures.same ∙ ap (λ (q : Track (Held g.row.I.Denot)). let u : Track (Held g.row.I.Denot) = record q { rows = new.rows } in u) v in
    let back : restored (held c.in_ok-row.row) new.rows ≡ (get_or xs k t).rows = c.in_ok-row.ensures.restored ∙ ap (λ (q : Track (Held g.row.I.Denot)). q.rows) v in
    ap Some (restored-at xs k (held c.in_ok-row.row) new t lt same back ∙ ap (λ (w : CutView g.row.I.Denot). w.tracks) c.self.view_is)

pub returns-clause-spent : goal.returns-clause-spent
returns-clause-spent g c =
    let xs = c.self.inside.tables.items in
    let t = c.index_mut.result.now in
    let k = c.in-Some.k in
    let new = c.expand_row.new.table in
    let lt : k < length xs = rw c.deref.ensures.value at c.in-Some.ensures.some.0 in
    let before = g.N.Nodes.handed c.args.source.now in
    let now = g.N.Nodes.handed c.expand_row.new.source in
    let own = subst (λ (u : Track (Held g.row.I.Denot)). Spends (length u.rows) (opened_among u.rows) (length new.rows) (opened_among new.rows) before now) c.index_mut.ensures.value c.in_ok-row.ensures.spent in
    subst (λ (v : List (Track (Held g.row.I.Denot))). Spends (rows_in v) (opened_in v) (rows_in (set xs k new)) (opened_in (set xs k new)) before now)
    (ap (λ (w : CutView g.row.I.Denot). w.tracks) c.self.view_is) (spends-set xs k new t before now lt own)

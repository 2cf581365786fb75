use Rattle.std.proofs.Common.{refl, subst}
use Rattle.expr.specs.Terms.{query_term_of}
use Rattle.sessions.proofs.SessionLaws.{IsNext, has_row, keeps_stepped, keeps_view, kept_for, kept_in, kept_next, shares, wide_from}
use Rattle.sessions.proofs.session.Session.step.Goals as goal

pub next_interval-requires-clause-cut : goal.next_interval-requires-clause-cut
next_interval-requires-clause-cut c =
    let h = keeps_view c.args.arena.now.nodes _ c.args.self.now c.requires.0 c.self.view_is c.requires.1 in
    kept_for c.args.arena.now.nodes _ c.requires.0 (query_term_of c.self.inside.query) c.self.inside.cut h (record { query = refl; tracks = refl; own = c.self.invariant })

pub next_interval-requires-clause-nodes : goal.next_interval-requires-clause-nodes
next_interval-requires-clause-nodes c =
    let h = keeps_view c.args.arena.now.nodes _ c.args.self.now c.requires.0 c.self.view_is c.requires.1 in
    kept_in c.args.arena.now.nodes _ c.requires.0 (query_term_of c.self.inside.query) c.self.inside.cut c.deref.result.now h (record { query = refl; tracks = refl; own = c.self.invariant }) c.deref.ensures.value

pub next_interval-requires-clause-row : goal.next_interval-requires-clause-row
next_interval-requires-clause-row c =
    let h = keeps_view c.args.arena.now.nodes _ c.args.self.now c.requires.0 c.self.view_is c.requires.1 in
    has_row c.args.arena.now.nodes _ c.requires.0 (query_term_of c.self.inside.query) c.self.inside.cut h (record { query = refl; tracks = refl; own = c.self.invariant })
    (wide_from c.args.arena.now.nodes c.args.self.now c.requires.0 c.is_done.result c.requires.1 c.is_done.ensures c.if-is_done.false)

pub met-self-inside-requires : goal.met-self-inside-requires
met-self-inside-requires c =
    let h = keeps_view c.args.arena.now.nodes _ c.args.self.now c.requires.0 c.self.view_is c.requires.1 in
    shares c.args.arena.now.nodes _ c.requires.0 (query_term_of c.self.inside.query) c.self.inside.cut c.next_interval.new.cut c.in_ok-iv.iv h (record { query = refl; tracks = refl; own = c.self.invariant })
    (kept_next c.args.arena.now.nodes _ c.requires.0 (query_term_of c.self.inside.query) c.self.inside.cut c.next_interval.new.cut c.deref.result.now h (record { query = refl; tracks = refl; own = c.self.invariant }) c.deref.ensures.value c.in_ok-iv.ensures.follows)
    c.in_ok-iv.ensures.interval

pub returns-clause-stepped : goal.returns-clause-stepped
returns-clause-stepped c = λ s held.
    let places = c.args.arena.now.nodes in
    let q = query_term_of c.self.inside.query in
    let h = keeps_view places _ c.args.self.now s c.self.view_is held in
    let is = c.in_ok-iv.ensures in
    let next : IsNext places c.deref.result.now q c.self.inside.cut c.next_interval.new.cut c.in_ok-iv.iv = record {
      follows = is.follows;
      tracks = is.tracks;
      same = is.heads;
      query = is.query;
      interval = is.interval;
    } in
    keeps_stepped places _ s q c.self.inside.cut c.next_interval.new.cut c.in_ok-iv.iv c.met-self-inside.result h (record { query = refl; tracks = refl; own = c.self.invariant })
    (wide_from places c.args.self.now s c.is_done.result held c.is_done.ensures c.if-is_done.false)
    (subst (λ ts. IsNext places ts q c.self.inside.cut c.next_interval.new.cut c.in_ok-iv.iv) c.deref.ensures.value next) c.met-self-inside.ensures

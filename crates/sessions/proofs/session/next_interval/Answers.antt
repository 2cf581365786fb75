use Rattle.expr.specs.Terms.{query_term_of}
use Rattle.sessions.proofs.SessionLaws.{cut_with, has_interval, next_over}
use Rattle.sessions.proofs.session.next_interval.Goals as goal

pub interval_of-requires-clause-cut : goal.interval_of-requires-clause-cut
interval_of-requires-clause-cut c = cut_with (query_term_of c.args.query.now) c.args.cut.now c.expand.new.cut c.requires.cut c.in_ok-expand.ensures.query c.in_ok-expand.ensures.heads

pub interval_of-requires-clause-interval : goal.interval_of-requires-clause-interval
interval_of-requires-clause-interval c =
    let is = c.requires.nodes in
    has_interval is.store (query_term_of c.args.query.now) c.expand.new.cut c.requires.cut.plain
    (next_over c.args.arena.now.nodes c.args.trees.now is.store (query_term_of c.args.query.now) c.args.cut.now c.expand.new.cut is.forest is.over c.in_ok-expand.ensures.follows)

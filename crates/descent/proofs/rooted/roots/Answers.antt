use Rattle.std.proofs.Common.{arith}
use Rattle.expr.specs.Terms.{query_term_of}
use Rattle.descent.proofs.Admits.{admitted-there}
use Rattle.descent.proofs.RootLaws.{few-tracks, tracks-apart}
use Rattle.descent.proofs.rooted.roots.Goals as goal

pub returns-clause-admitted : goal.returns-clause-admitted
returns-clause-admitted g c =
    admitted-there (query_term_of c.args.q.now) (g.N.Nodes.lengths c.args.nodes.now) (g.N.Nodes.roots c.args.nodes.now) c.args.names.now c.in_ok-tables.tables.items c.in_ok-tables.ensures.heads c.requires.admitted

pub invariant_of-result : goal.invariant_of-result
invariant_of-result g c =
    let is = c.in_ok-tables.ensures in
    let few = few-tracks (query_term_of c.args.q.now) (g.N.Nodes.lengths c.args.nodes.now) (g.N.Nodes.roots c.args.nodes.now) c.args.names.now c.in_ok-tables.tables.items is.heads in
    let names = c.requires.few in
    let apart = tracks-apart (query_term_of c.args.q.now) (g.N.Nodes.lengths c.args.nodes.now) (g.N.Nodes.roots c.args.nodes.now) c.args.names.now c.in_ok-tables.tables.items is.heads c.requires.apart in
    record { few = omega arith; rising = is.rising; apart = apart; back = tt; kept = tt }

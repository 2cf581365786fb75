use Rattle.std.proofs.Common.{arith, rules, refl, find, None, ◌≡◌}
use Rattle.semantics.proofs.AdmissionLaws.{length-sums_of, length-nodes_of, HasLowRanks-admitted}
use Rattle.semantics.proofs.AdmittedLaws.{IsAdmitted-unrefused}
use Rattle.semantics.specs.Admission.{is_unknown, query_names, refusal_of}
use Rattle.expr.specs.Facts.{facts_of}
use Rattle.expr.specs.Terms.{query_term_of}
use Rattle.expr.proofs.admission.admit.Goals as goal

pub test_ranks-requires-clause-room : goal.test_ranks-requires-clause-room
test_ranks-requires-clause-room c = omega (arith, c.requires.limits.sums, length-sums_of (query_term_of c.args.q.now))

pub test_bounds-requires-clause-ranks : goal.test_bounds-requires-clause-ranks
test_bounds-requires-clause-ranks c = HasLowRanks-admitted 1 (query_term_of c.args.q.now) c.in_ok-test_ranks.ensures.passed

pub test_bounds-requires-clause-room : goal.test_bounds-requires-clause-room
test_bounds-requires-clause-room c = omega (arith, c.requires.limits.nodes, length-nodes_of (query_term_of c.args.q.now))

pub returns-clause-admitted : goal.returns-clause-admitted
returns-clause-admitted c =
    let facts = facts_of c.args.facts.now in
    let q = query_term_of c.args.q.now in
    let named : find (is_unknown facts) (query_names q) ≡ None = search rules in
    let unrefused : refusal_of facts q ≡ None =
    rw (named, c.in_ok-test_ranks.ensures.passed, c.in_ok-test_domains.ensures.passed, c.in_ok-test_bounds.ensures.passed) refl in
    IsAdmitted-unrefused facts q unrefused

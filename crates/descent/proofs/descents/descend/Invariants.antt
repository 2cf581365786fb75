use Rattle.std.proofs.Common.{◌≡◌, ◌≤◌}
use Rattle.std.specs.Prelude.{◌↔◌}
use Rattle.semantics.specs.Admitted.{IsAdmitted}
use Rattle.expr.specs.Terms.{query_term_of}
use Rattle.segment.specs.Nodes.{Forest, Place, KeepsRoots}
use Rattle.descent.specs.Descents as tree
use Rattle.descent.specs.Held.{AreTracksOf, steps_left}
use Rattle.descent.specs.Known.{facts_in}
use Rattle.descent.specs.Spent.{opened_in, roots_in, rows_in, HasSpent}
use Rattle.descent.specs.Spelled.{spelled}
use Rattle.descent.proofs.Reached.{Reached}
use Rattle.descent.proofs.descents.descend.Given as goal

abbrev pub invariant-loop-cut : goal.invariant-loop-cut
invariant-loop-cut g l = record {
  reached : Reached (query_term_of l.q) (λ forest. tree.roots (query_term_of l.q) forest l.names) (g.N.Nodes.means l.fn.nodes l.fn.source) l.budget l.cut.tracks;
  of : AreTracksOf (g.N.Nodes.lengths l.nodes) (g.N.Nodes.roots l.nodes) (g.N.Nodes.stands l.nodes l.source) l.cut.tracks;
  spent : HasSpent (roots_in (query_term_of l.q) (g.N.Nodes.lengths l.fn.nodes) 0 l.names) (rows_in l.cut.tracks) (opened_in l.cut.tracks) (g.N.Nodes.handed l.fn.source) (g.N.Nodes.handed l.source);
  admitted : IsAdmitted (facts_in l.cut.tracks) (query_term_of l.q);
  query : l.cut.query ≡ spelled (query_term_of l.q);
  means : (forest : Forest) → g.N.Nodes.means l.fn.nodes l.fn.source forest ↔ g.N.Nodes.means l.nodes l.source forest;
  later : g.N.Nodes.faults l.fn.source ≤ g.N.Nodes.faults l.source;
  ids : (i : _) (p : Place) → g.N.Nodes.stands l.fn.nodes l.fn.source i p → g.N.Nodes.stands l.nodes l.source i p;
  roots : KeepsRoots (g.N.Nodes.roots l.fn.nodes) (g.N.Nodes.roots l.nodes);
  lasting : g.N.Nodes.lasting l.source ≡ g.N.Nodes.lasting l.fn.source;
  lengths : g.N.Nodes.lengths l.nodes ≡ g.N.Nodes.lengths l.fn.nodes;
}

abbrev pub decreases-loop-cut : goal.decreases-loop-cut
decreases-loop-cut g l = steps_left l.cut.tracks

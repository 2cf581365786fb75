use Rattle.std.proofs.Common.{◌≡◌, ◌≤◌, take}
use Rattle.std.specs.Prelude.{◌↔◌}
use Rattle.expr.specs.Terms.{query_term_of}
use Rattle.segment.specs.Nodes.{Forest, HandsOut, KeepsRoots, Place}
use Rattle.descent.specs.Descents as tree
use Rattle.descent.specs.Held.{AreTracksOf, heads, shown}
use Rattle.descent.specs.Known.{heads_from}
use Rattle.descent.specs.Spent.{opened_in, roots_in, rows_in}
use Rattle.descent.proofs.RootLaws.{RiseTo}
use Rattle.descent.proofs.rooted.root_tables.Given as goal

abbrev pub invariant-loop-k : goal.invariant-loop-k
invariant-loop-k g l = record {
  cut : (forest : Forest) → g.N.Nodes.means l.fn.nodes l.fn.source forest → shown l.tables.items ≡ tree.cut_of (tree.roots (query_term_of l.q) forest (take l.k l.names));
  of : AreTracksOf (g.N.Nodes.lengths l.nodes) (g.N.Nodes.roots l.nodes) (g.N.Nodes.stands l.nodes l.source) l.tables.items;
  heads : heads l.tables.items ≡ heads_from (query_term_of l.q) (g.N.Nodes.lengths l.fn.nodes) (g.N.Nodes.roots l.fn.nodes) 0 (take l.k l.names);
  rows : rows_in l.tables.items ≡ roots_in (query_term_of l.q) (g.N.Nodes.lengths l.fn.nodes) 0 (take l.k l.names);
  closed : opened_in l.tables.items ≡ 0;
  handed : HandsOut 0 (g.N.Nodes.handed l.fn.source) (g.N.Nodes.handed l.source);
  rising : RiseTo 0 l.tables.items l.k;
  means : (forest : Forest) → g.N.Nodes.means l.fn.nodes l.fn.source forest ↔ g.N.Nodes.means l.nodes l.source forest;
  later : g.N.Nodes.faults l.fn.source ≤ g.N.Nodes.faults l.source;
  ids : (i : _) (p : Place) → g.N.Nodes.stands l.fn.nodes l.fn.source i p → g.N.Nodes.stands l.nodes l.source i p;
  roots : KeepsRoots (g.N.Nodes.roots l.fn.nodes) (g.N.Nodes.roots l.nodes);
  lasting : g.N.Nodes.lasting l.source ≡ g.N.Nodes.lasting l.fn.source;
  lengths : g.N.Nodes.lengths l.nodes ≡ g.N.Nodes.lengths l.fn.nodes;
}

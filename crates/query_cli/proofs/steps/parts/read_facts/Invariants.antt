use Rattle.std.proofs.Common.{◌≡◌, ◌*◌, ◌<◌, ◌≤◌, ℕ, length, take}
use Rattle.std.specs.Prelude.{◌↔◌}
use Rattle.descent.specs.Known.{node_facts}
use Rattle.expr.specs.Facts.{facts_of}
use Rattle.lazy_tree.specs.Opened.{Means}
use Rattle.segment.specs.Nodes.{Forest, HandsOut}
use Rattle.query_cli.specs.Parted.{IsRootKnown}
use Rattle.query_cli.proofs.steps.parts.read_facts.Given as goal

abbrev pub invariant-loop-name : goal.invariant-loop-name
invariant-loop-name g l = record {
  facts : facts_of l.facts.items ≡ node_facts (take l.name-index l.names) l.nodes.lengths l.nodes.roots;
  count : length l.facts.items ≡ l.name-index;
  known : (k : ℕ) → k < l.name-index → IsRootKnown l.nodes.lengths l.nodes.roots k;
  lengths : l.nodes.lengths ≡ l.fn.nodes.lengths;
  means : (forest : Forest) → Means l.fn.nodes (g.S.Shelf.files l.fn.shelf) forest
      ↔ Means l.nodes (g.S.Shelf.files l.shelf) forest;
  files : g.S.Shelf.files l.shelf ≡ g.S.Shelf.files l.fn.shelf;
  fetches : g.S.Shelf.fetches l.shelf ≡ g.S.Shelf.fetches l.fn.shelf;
  replaces : g.S.Shelf.replace_faults l.shelf ≡ g.S.Shelf.replace_faults l.fn.shelf;
  later : g.S.Shelf.read_faults l.fn.shelf ≤ g.S.Shelf.read_faults l.shelf;
  handed : HandsOut (56 * l.name-index) (g.S.Shelf.handed l.fn.shelf) (g.S.Shelf.handed l.shelf);
}

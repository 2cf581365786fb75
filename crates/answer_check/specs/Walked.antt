-- Nodes of an arena as nodes of a cut, and the frame of a cut.
use Rattle.std.specs.Prelude.{◌≡◌, ℕ, List, map, Result, Ok}
use Rattle.semantics.specs.Term.{QueryTerm}
use Rattle.segment.specs.declared.segments.Seg.{Seg}
use Rattle.segment.specs.Shape.{plan}
use Rattle.segment.specs.Tree.{SegTree, plan_of}
use Rattle.bounds.specs.Cut.{Entry}
use Rattle.seg_tree.specs.Linked.{Places, IsLinked, tree_at}
use Rattle.store_file.specs.StoreValue.{Series, name_of}
use Rattle.descent.specs.Rows.{Track, entries, segs_of_rows}
use Rattle.descent.specs.Descents.{Node, Nodes, cut_of, row_of}
use Rattle.answer_check.specs.declared.certificate.CertList.{CertList}
use Rattle.answer_check.specs.Certificate.{Triple}
use Rattle.answer_check.specs.Verdict.{cut_from, tree_of}

-- the tree over len positions from start whose nodes are those from a place on
abbrev pub tree_over : Places → ℕ → ℕ → ℕ → SegTree
tree_over nodes p start len = tree_at nodes p (plan start len)

-- the nodes from a place on are a tree over len positions from start
pub record IsOver (nodes : Places) (p start len : ℕ) : Type 0 where
  pub linked : IsLinked nodes p (plan start len)
  pub shaped : plan_of (tree_over nodes p start len) ≡ plan start len

-- the node of a row, at a place
abbrev pub node_over : Places → Triple → ℕ → Node
node_over nodes row p = record { tree = tree_over nodes p row.0 row.1; opened = row.2 }

-- the segments of nodes
abbrev pub segs_under : List Node → List Seg
segs_under nodes = segs_of_rows (map row_of nodes)

abbrev pub segs_of_track : Track Node → List Seg
segs_of_track track = segs_under track.rows

-- the cut that lists are of some series
abbrev pub cut_in : List Series → QueryTerm → List CertList → Result Nodes ℕ
cut_in ss q lists = cut_from q (map tree_of ss) 0 0 (map name_of ss) lists

-- the entries are those of the cut that lists are
pub record IsFrameOf (ss : List Series) (q : QueryTerm) (lists : List CertList) (es : List Entry) : Type 0 where
  pub nodes : Nodes
  pub cut : cut_in ss q lists ≡ Ok nodes
  pub same : es ≡ entries (cut_of nodes)

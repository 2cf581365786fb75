-- The descent: from the roots, the chosen row gives way to those below it, until the interval is no wider than a
-- budget.
use Rattle.std.specs.Prelude.{◌≡◌, ℕ, zero, suc, ◌+◌, ◌<◌, ◌==◌, ◌&&◌, not, Bool, true, false, if◌then◌else◌, Option, Some, None, List, [], ◌∷◌, ◌++◌, length, map}
use Rattle.std.specs.List.{list_any}
use Rattle.semantics.specs.Admission.{query_names}
use Rattle.semantics.specs.Names.{same_name}
use Rattle.semantics.specs.Term.{QueryTerm}
use Rattle.segment.specs.Nodes.{Forest, tree_in}
use Rattle.segment.specs.Tree.{SegTree, tip, node, readings_of, root_of, all_readings}
use Rattle.descent.specs.declared.Pick.{Pick}
use Rattle.descent.specs.Rows.{Row, Track, Cut, with_rows}
use Rattle.descent.specs.Sums.{interval_in, IsWithin}
use Rattle.descent.specs.Choice.{choice}

-- ---- cuts of trees

-- a node of a tree that stands in a cut, with all that is below it; a leaf may be opened
pub record Node : Type 0 where
  pub tree : SegTree
  pub opened : Bool

abbrev pub closed : SegTree → Node
closed t = record { tree = t; opened = false }

abbrev pub opened : SegTree → Node
opened t = record { tree = t; opened = true }

abbrev pub Nodes : Type 0
Nodes = List (Track Node)

-- what is below a node: its two children, or the leaf itself, opened
abbrev pub below : SegTree → List Node
below (tip g xs) = opened (tip g xs) ∷ []
below (node g left right) = closed left ∷ closed right ∷ []

-- the row that a node gives
abbrev pub row_of : Node → Row
row_of n = record { seg = root_of n.tree; readings = if n.opened then Some (readings_of n.tree) else None }

-- the cut that nodes give
abbrev pub cut_of : Nodes → Cut
cut_of nodes = map (with_rows row_of) nodes

-- ---- the roots

abbrev pub root_nodes : Option SegTree → List Node
root_nodes None = []
root_nodes (Some t) = closed t ∷ []

abbrev pub greatest_of : Option SegTree → ℕ
greatest_of None = 0
greatest_of (Some t) = (root_of t).d

abbrev pub root_track : ℕ → List ℕ → Option SegTree → Track Node
root_track k name t = record {
  series = k;
  name = name;
  len = length (all_readings t);
  greatest = greatest_of t;
  rows = root_nodes t;
}

-- the roots of the series that a query names, where the series from the k-th on have these names
abbrev pub roots_from : QueryTerm → Forest → ℕ → List (List ℕ) → Nodes
roots_from q forest k [] = []
roots_from q forest k (name ∷ names) =
    if list_any (same_name name) (query_names q)
    then root_track k name (tree_in forest k) ∷ roots_from q forest (k + 1) names
    else roots_from q forest (k + 1) names

abbrev pub roots : QueryTerm → Forest → List (List ℕ) → Nodes
roots q forest names = roots_from q forest 0 names

-- ---- a step

abbrev pub is_at : ℕ → Node → Bool
is_at start n = not n.opened && ((root_of n.tree).start == start)

-- the closed node from a position gives way to those below it
abbrev pub expanded_row : ℕ → List Node → List Node
expanded_row start [] = []
expanded_row start (n ∷ ns) = if is_at start n then below n.tree ++ ns else n ∷ expanded_row start ns

abbrev pub expanded_track : Pick → Track Node → Track Node
expanded_track at track =
    if track.series == at.series then record track { rows = expanded_row at.start track.rows } else track

abbrev pub expanded : Pick → Nodes → Nodes
expanded at nodes = map (expanded_track at) nodes

abbrev pub expanded_if : Option Pick → Nodes → Nodes
expanded_if None nodes = nodes
expanded_if (Some at) nodes = expanded at nodes

-- the next cut: the chosen row gives way to those below it
abbrev pub next : QueryTerm → Nodes → Nodes
next q nodes = expanded_if (choice q (cut_of nodes)) nodes

-- the cut after so many steps
abbrev pub after : QueryTerm → Nodes → ℕ → Nodes
after q nodes zero = nodes
after q nodes (suc k) = next q (after q nodes k)

-- the interval of a query is there, and no wider than a budget
abbrev pub Meets : ℕ → QueryTerm → Nodes → Type 0
Meets budget q nodes = IsWithin budget (interval_in (cut_of nodes) q)

-- the first cut of the descent whose interval is no wider than the budget
pub record IsLast (q : QueryTerm) (first : Nodes) (budget : ℕ) (last : Nodes) : Type 0 where
  pub steps : ℕ
  pub reached : last ≡ after q first steps
  pub within : Meets budget q last
  pub before : (k : ℕ) → k < steps → Meets budget q (after q first k) → ⊥

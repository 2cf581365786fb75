-- What a cut holds: rows with the ids of their nodes.
use Rattle.std.specs.Prelude.{◌≡◌, ℕ, ◌+◌, ◌<◌, ◌≤◌, ◌==◌, ◌&&◌, not, Bool, is_some, if◌then◌else◌, Option, Some, None, List, [], ◌∷◌, length, map, slice_index}
use Rattle.std.specs.List.{All}
use Rattle.segment.specs.declared.segments.Seg.{Seg}
use Rattle.segment.specs.Nodes.{Forest, Place, known_root, tree_in}
use Rattle.segment.specs.Shape.{plan, node_count}
use Rattle.segment.specs.Tree.{SegTree, root_of, plan_of, IsPartOf}
use Rattle.descent.specs.declared.Pick.{Pick}
use Rattle.descent.specs.Rows.{Row, Track, Cut, with_rows}
use Rattle.descent.specs.Choice.{Has}
use Rattle.descent.specs.Descents.{Node, Nodes}
use Rattle.descent.specs.Spelled.{Token}

pub record Held (I : Type 0) : Type 0 where
  pub id : I
  pub row : Row

-- what contracts see of a cut: the query for which it was made, the rows of each series that this names, and what
-- these were before
-- the last step, where there was one that was not taken back
pub record CutView (I : Type 0) : Type 0 where
  pub query : List Token
  pub tracks : List (Track (Held I))
  pub before : Option (List (Track (Held I)))

abbrev pub row_in : {I : Type 0} → Held I → Row
row_in h = h.row

-- the cut without the ids
abbrev pub shown : {I : Type 0} → List (Track (Held I)) → Cut
shown tracks = map (with_rows row_in) tracks

-- what stays of the tracks whatever their rows are
abbrev pub head_of : {R : Type 0} → Track R → Track R
head_of track = record track { rows = [] }

abbrev pub heads : {R : Type 0} → List (Track R) → List (Track R)
heads tracks = map head_of tracks

-- ---- whose nodes they are

abbrev pub place_of : ℕ → Row → Place
place_of series row = record { series = series; range = record { start = row.seg.start; len = row.seg.len } }

-- the id stands for the row's node
abbrev pub StandsFor : {I : Type 0} → (I → Place → Type 0) → ℕ → Held I → Type 0
StandsFor stands series h = stands h.id (place_of series h.row)

-- a track is of the nodes: the length and the greatest reading are those of its series, and the ids stand for the
-- rows' nodes
pub record IsTrackOf {I : Type 0} (lengths : List ℕ) (roots : List (Option Seg))
    (stands : I → Place → Type 0) (track : Track (Held I)) : Type 0 where
  pub within : track.series < length lengths
  pub len : track.len ≡ slice_index lengths track.series
  pub rooted : 0 < track.len → (g : Seg) × (known_root roots track.series ≡ Some g) × (track.greatest ≡ g.d)
  pub stand : All (StandsFor stands track.series) track.rows

abbrev pub AreTracksOf : {I : Type 0} → List ℕ → List (Option Seg) → (I → Place → Type 0)
    → List (Track (Held I)) → Type 0
AreTracksOf lengths roots stands tracks = All (IsTrackOf lengths roots stands) tracks

-- a node is a part of the tree of its series
pub record IsNodeOf (forest : Forest) (series : ℕ) (n : Node) : Type 0 where
  pub whole : SegTree
  pub found : tree_in forest series ≡ Some whole
  pub part : IsPartOf n.tree whole
  pub shaped : plan_of n.tree ≡ plan (root_of n.tree).start (root_of n.tree).len

abbrev pub AreNodesOf : Forest → Nodes → Type 0
AreNodesOf forest nodes = All (λ (track : Track Node). All (IsNodeOf forest track.series) track.rows) nodes

-- ---- how far a cut can be expanded

abbrev pub is_closed_at : {I : Type 0} → ℕ → Held I → Bool
is_closed_at start h = not (is_some h.row.readings) && (h.row.seg.start == start)

-- a closed row of a series, from a position on
pub record IsClosedAt {I : Type 0} (tracks : List (Track (Held I))) (at : Pick) : Type 0 where
  pub track : Track (Held I)
  pub there : Has track tracks
  pub series : track.series ≡ at.series
  pub held : Held I
  pub among : Has held track.rows
  pub closed : held.row.readings ≡ None
  pub starts : held.row.seg.start ≡ at.start

-- the series of the tracks, from the k-th on, go up
abbrev pub AreRising : {R : Type 0} → ℕ → List (Track R) → Type 0
AreRising k [] = Unit {0}
AreRising k (track ∷ tracks) = (k ≤ track.series) × AreRising (track.series + 1) tracks

-- how many steps are left below a row: as many as there are nodes
abbrev pub steps_below : {I : Type 0} → Held I → ℕ
steps_below h = if is_some h.row.readings then 0 else node_count h.row.seg.len

abbrev pub steps_in : {I : Type 0} → List (Held I) → ℕ
steps_in [] = 0
steps_in (h ∷ hs) = steps_below h + steps_in hs

abbrev pub steps_left : {I : Type 0} → List (Track (Held I)) → ℕ
steps_left [] = 0
steps_left (track ∷ tracks) = steps_in track.rows + steps_left tracks

-- The readings below the nodes of a cut.
use Rattle.std.specs.Prelude.{ℕ, ℤ, if◌then◌else◌, List, [], ◌∷◌, ◌++◌}
use Rattle.semantics.specs.Names.{same_name}
use Rattle.segment.specs.Tree.{readings_of}
use Rattle.descent.specs.Descents.{Node, Nodes}

abbrev pub readings_in : List Node → List ℤ
readings_in [] = []
readings_in (n ∷ ns) = readings_of n.tree ++ readings_in ns

-- those of each name
abbrev pub readings_by : Nodes → List ℕ → List ℤ
readings_by [] name = []
readings_by (track ∷ tracks) name =
    if same_name track.name name then readings_in track.rows else readings_by tracks name

-- What an arena and a map hold of the series that bytes write.
use Rattle.std.specs.Prelude.{◌≡◌, ℕ, List}
use Rattle.std.specs.Map.{keys_of}
use Rattle.seg_tree.specs.Linked.{Places}
use Rattle.store_file.specs.Decoded.{bad_in, names_of, series_in}
use Rattle.store_file.specs.Stored.{series_of, AreOf}
use Rattle.store_file.specs.declared.header.Entry.{Entry}
use Rattle.store_file.specs.declared.store.Stored.{Stored}
use Rattle.std.specs.Prelude.{None}

-- the map has these series, whose trees are of these nodes and true of their readings
pub record HoldsSeries (nodes : Places) (map : List (List ℕ × Stored)) (es : List Entry)
    (bytes : List ℕ) : Type 0 where
  pub series : series_of nodes map ≡ series_in es bytes
  pub trees : AreOf nodes map
  pub names : keys_of map ≡ names_of es
  pub good : bad_in (series_in es bytes) ≡ None

-- A map from names to bytes, as files.
use Rattle.std.specs.Prelude.{ℕ, List, map, string_bytes}
use Rattle.std.specs.FinMap as finite
use Rattle.std.specs.BTreeMap.{BTreeMap}
use Rattle.std.specs.declared.string.String.{String}
use Rattle.std.specs.declared.alloc.Global.{Global}
use Rattle.semantics.specs.Files.{Files}

-- the files of a map
abbrev pub files_of : BTreeMap (String Global) (List ℕ) → Files
files_of m = finite.from_entries (map (λ e. (string_bytes e.0, e.1)) m.entries)

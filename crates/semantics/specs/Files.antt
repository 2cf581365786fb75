-- The files of a shelf, where it tells them: a finite map from names to bytes.
use Rattle.std.specs.Prelude.{ℕ, List, Option, Some, None}
use Rattle.std.specs.FinMap as map
use Rattle.std.specs.Ordering.{nat_cmp}
use Rattle.std.specs.Cmp.Lexicographic.{slice_cmp}

-- the bytes of each file, by the bytes of its name
abbrev pub Files : Type 0
Files = map.FinMap (slice_cmp nat_cmp) (List ℕ)

-- the file of a name
abbrev pub file_of : Files → List ℕ → Option (List ℕ)
file_of files name = map.get files name

-- the files with one written anew, whatever stood there
abbrev pub with_file : Files → List ℕ → List ℕ → Files
with_file files name bytes = map.insert files name bytes

-- a fact of the files, where they are told
abbrev pub IfTold : Option Files → (Files → Type 0) → Type 0
IfTold None P = Unit {0}
IfTold (Some files) P = P files

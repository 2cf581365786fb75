-- What a fetch answers, by the file.
use Rattle.std.specs.Prelude.{◌≡◌, ℕ, ◌<◌, ◌≤◌, List, length, Option, Some, None}
use Rattle.outside.specs.declared.shelves.Fetched.{Fetched}
use Rattle.outside.specs.declared.shelves.Fetched.TheVariants.{Whole, Absent, OverLimit}

-- the file whole; no such file; a file that is longer than the limit
abbrev pub IsFetched : Option (List ℕ) → ℕ → Fetched → List ℕ → Type 0
IsFetched file limit Whole into = (file ≡ Some into) × (length into ≤ limit)
IsFetched file limit Absent into = file ≡ None
IsFetched file limit OverLimit into = (bytes : List ℕ) × (file ≡ Some bytes) × (limit < length bytes)

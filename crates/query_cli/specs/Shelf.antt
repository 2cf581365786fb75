-- What a command does to the shelf.
use Rattle.std.specs.Prelude.{◌≡◌, ◌≢◌, ℕ, ◌+◌, ◌≤◌, Option, Some, None, Result, Err, OnErr}
use Rattle.semantics.specs.Faults.{Rose}
use Rattle.semantics.specs.Files.{Files}
use Rattle.query_cli.specs.declared.stop.Fault.TheVariants.{Reading, Replacing}
use Rattle.query_cli.specs.declared.stop.Halt.{Halt}
use Rattle.query_cli.specs.declared.stop.Halt.TheVariants.{Faulted}

-- it only reads: the files and the count of faults of replacing stay, and each fault is one of reading that was counted
pub record OnlyReads {W A : Type 0} (files : W → Option Files) (reads replaces : W → ℕ) (old new : W)
    (r : Result A Halt) : Type 0 where
  pub files_stay : files new ≡ files old
  pub reads_rise : reads old ≤ reads new
  pub replaces_stay : replaces new ≡ replaces old
  pub read_fault : r ≡ Err (Faulted Reading) → Rose (reads old) (reads new)
  pub replace_fault : r ≢ Err (Faulted Replacing)

-- it replaces a file: with an error the files stay, and each fault was counted
pub record Replaces {W A : Type 0} (files : W → Option Files) (reads replaces : W → ℕ) (old new : W)
    (r : Result A Halt) : Type 0 where
  pub kept : OnErr r (files new ≡ files old)
  pub untold : files old ≡ None → files new ≡ None
  pub reads_rise : reads old ≤ reads new
  pub replaces_rise : replaces old ≤ replaces new
  pub read_fault : r ≡ Err (Faulted Reading) → Rose (reads old) (reads new)
  pub replace_fault : r ≡ Err (Faulted Replacing) → Rose (replaces old) (replaces new)

-- no count of faults of the shelf rose: of reading, of replacing
abbrev pub NoFault : {W : Type 0} (reads replaces : W → ℕ) (old new : W) → Type 0
NoFault reads replaces old new = (¬ Rose (reads old) (reads new)) × (¬ Rose (replaces old) (replaces new))

-- a count that is told rose by at most so many
abbrev pub RoseAtMost : ℕ → Option ℕ → Option ℕ → Type 0
RoseAtMost n before now = (b : ℕ) → now ≡ Some b → (a : ℕ) × (before ≡ Some a) × (b ≤ a + n)

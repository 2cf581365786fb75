-- What is known of a file where a shelf tells its files.
use Rattle.std.specs.Prelude.{◌≡◌, ℕ, List, Option, Some, Result, IfOk}
use Rattle.semantics.specs.Files.{Files, IfTold, file_of}

-- a fact of the bytes of a file, where they are told
abbrev pub IfHeld : Option Files → List ℕ → (List ℕ → Type 0) → Type 0
IfHeld files name P = IfTold files (λ m. (bytes : List ℕ) → file_of m name ≡ Some bytes → P bytes)

-- the same of the bytes and of what was read
abbrev pub OkIfHeld : {T E : Type 0} → Result T E → Option Files → List ℕ → (List ℕ → T → Type 0)
    → Type 0
OkIfHeld result files name P =
    IfTold files (λ m. IfOk result (λ v. (bytes : List ℕ) → file_of m name ≡ Some bytes → P bytes v))

-- What reading a part of a file answers.
use Rattle.std.specs.Prelude.{◌≡◌, ℕ, ◌+◌, ◌<◌, Bool, true, false, List, length, take, drop, Option, Some, None, Result, Ok, Err}

-- the bytes of the file from a place on; or the file ends before, or there is none
abbrev pub IsPartRead : Option (List ℕ) → ℕ → Bool → List ℕ → List ℕ → Type 0
IsPartRead None at true before after = ⊥
IsPartRead None at false before after = after ≡ before
IsPartRead (Some bytes) at true before after = take (length before) (drop at bytes) ≡ after
IsPartRead (Some bytes) at false before after = (length bytes < at + length before) × (after ≡ before)

-- a number rose by n; where it is told now, it was told before
abbrev pub RisesBy : ℕ → Option ℕ → Option ℕ → Type 0
RisesBy n before now = (b : ℕ) → now ≡ Some b → (a : ℕ) × (before ≡ Some a) × (b ≡ a + n)

-- a part that was found was handed out
abbrev pub HandedBy : {E : Type 0} → Result Bool E → ℕ → Option ℕ → Option ℕ → Type 0
HandedBy (Ok true) n before now = RisesBy n before now
HandedBy (Ok false) n before now = now ≡ before
HandedBy (Err e) n before now = now ≡ before

-- Readings that a seed determines: noise on a wave of 1024 readings.
use Rattle.std.specs.Prelude.{◌≡◌, ℕ, zero, suc, ◌+◌, ◌-◌, ◌*◌, ◌/◌, ◌%◌, ◌^◌, List, [], ◌∷◌, ◌++◌, nat_lt, if◌then◌else◌, ℤ, pos, negsuc, ◌-ℤ◌, refl}

-- the state behind another
abbrev pub next_state : ℕ → ℕ
next_state s = (s * 6364136223846793005 + 1442695040888963407) % 2 ^ 64

-- the state after so many steps from the seed
abbrev pub state_after : ℕ → ℕ → ℕ
state_after seed zero = seed
state_after seed (suc i) = next_state (state_after seed i)

-- the wave, which rises for 512 readings and falls for as many
abbrev pub wave : ℕ → ℕ
wave i = if nat_lt (i % 1024) 512 then i % 1024 else 1024 - i % 1024

-- a reading by its place and the state behind its step: ten times the wave, and the upper byte of the state around 0
abbrev pub reading_of : ℕ → ℕ → ℤ
reading_of i state = pos (10 * wave i + state / 2 ^ 56) -ℤ pos 128

-- the first n readings of a seed, each after a step of its own
abbrev pub generated : ℕ → ℕ → List ℤ
generated seed zero = []
generated seed (suc i) = generated seed i ++ reading_of i (state_after seed (suc i)) ∷ []

-- no reading is further from 0
abbrev pub most_generated : ℕ
most_generated = 5247

first-of-zero : generated 0 1 ≡ negsuc 107 ∷ []
first-of-zero = refl

first-of-seven : generated 7 3 ≡ negsuc 1 ∷ pos 126 ∷ pos 124 ∷ []
first-of-seven = refl

wave-turns : wave 511 ∷ wave 512 ∷ wave 513 ∷ wave 1023 ∷ wave 1024 ∷ []
    ≡ 511 ∷ 512 ∷ 511 ∷ 1 ∷ 0 ∷ []
wave-turns = refl

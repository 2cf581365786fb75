-- Fits of small series, computed.
use Rattle.std.proofs.Common.{◌≡◌, ℕ, zero, suc, ◌+◌, List, [], ◌∷◌, ◌++◌, ℤ, pos, refl}
use Rattle.segment.specs.Fit.{fit_of, flat_of, line_of, parabola_of}
use Rattle.segment.specs.Measure.{miss, greatest_estimate, greatest_reading}

-- squares lie on their parabola
squares : List ℤ
squares = pos 0 ∷ pos 1 ∷ pos 4 ∷ pos 9 ∷ pos 16 ∷ pos 25 ∷ pos 36 ∷ pos 49 ∷ pos 64 ∷ []

squares-fit : fit_of 2 0 squares ≡ record { start = 0; len = 9; a = pos 0; b = pos 0; c = pos 16384; l = 0; d = 64; f = 1048576 }
unfolding squares flat_of line_of parabola_of miss greatest_estimate greatest_reading
squares-fit = refl

-- 0 and 10 in turn
turns : ℕ → List ℤ
turns zero = []
turns (suc n) = pos 0 ∷ pos 10 ∷ turns n

-- 32 readings in turn, and five behind them
longer : List ℤ
longer = turns 16 ++ pos 1 ∷ pos 2 ∷ pos 3 ∷ pos 4 ∷ pos 5 ∷ []

longer-fit : fit_of 0 0 longer ≡ record { start = 0; len = 37; a = pos 77491; b = pos 0; c = pos 0; l = 2771993; d = 10; f = 77491 }
unfolding longer turns flat_of line_of parabola_of miss greatest_estimate greatest_reading
longer-fit = refl

-- n numbers from a first one on, each three more than the one before it
steps : ℕ → ℕ → List ℤ
steps zero first = []
steps (suc n) first = pos first ∷ steps n (first + 3)

-- a line is fitted by degree 1, also where degree 2 is allowed
line-fit : fit_of 2 0 (steps 64 10) ≡ record { start = 0; len = 64; a = pos 163840; b = pos 49152; c = pos 0; l = 0; d = 199; f = 3260416 }
unfolding steps flat_of line_of parabola_of miss greatest_estimate greatest_reading
line-fit = refl

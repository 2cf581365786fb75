-- Numbered calls, some of which are to fail.
use Rattle.std.specs.Prelude.{ℕ, ◌+◌, ◌&&◌, ◌==◌, Bool, nat_lt, nat_le, List, [], ◌∷◌, map, Option, Some, None, if◌then◌else◌}
use Rattle.std.specs.List.{list_any}
use Rattle.outside.specs.Counts.{last_number}

-- whether the call after so many calls is to fail, which is where its number is listed
abbrev pub fails_next : List ℕ → ℕ → Bool
fails_next listed calls = nat_lt calls last_number && list_any (λ k. k == calls + 1) listed

-- what the first pair of a number says
abbrev pub cut_at : List (ℕ × ℕ) → ℕ → Option ℕ
cut_at [] number = None
cut_at (p ∷ pairs) number = if p.0 == number then Some p.1 else cut_at pairs number

-- how many bytes go out before the call after so many calls fails, and None where it is not to fail
abbrev pub cut_next : List (ℕ × ℕ) → ℕ → Option ℕ
cut_next pairs calls = if nat_lt calls last_number then cut_at pairs (calls + 1) else None

-- the numbers of the calls that are to fail
abbrev pub numbers_of : List (ℕ × ℕ) → List ℕ
numbers_of pairs = map (λ p. p.0) pairs

-- whether k is the number of a call that was made
abbrev pub is_made : ℕ → ℕ → Bool
is_made calls k = nat_le 1 k && nat_le k calls

-- how many places of a list hold the number of a call that was made
abbrev pub faults_by : List ℕ → ℕ → ℕ
faults_by [] calls = 0
faults_by (k ∷ listed) calls = (if is_made calls k then 1 else 0) + faults_by listed calls

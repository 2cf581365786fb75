-- Charges at the places of their rows.
use Rattle.std.specs.Prelude.{◌≡◌, ℕ, ◌+◌, ◌<◌, ◌≤◌, Some, None, List, [], ◌∷◌, ◌++◌, length, map}
use Rattle.tops.specs.Tops.{number}
use Rattle.descent.specs.declared.kept.KeptSum.{KeptSum}
use Rattle.descent.specs.Choice.{heaviest, Has}
use Rattle.descent.specs.KeptSums.{place_of, row_charge}
use Rattle.descent.specs.Rows.{Row, Track, Cut}

-- a row, and the place of its track in the cut
pub record Site : Type 0 where
  pub track : ℕ
  pub row : Row

abbrev pub site : ℕ → Row → Site
site i row = record { track = i; row = row }

-- those of the tracks from the i-th on
abbrev pub sites_from : ℕ → List (Track Row) → List Site
sites_from i [] = []
sites_from i (track ∷ tracks) = map (site i) track.rows ++ sites_from (i + 1) tracks

abbrev pub sites : Cut → List Site
sites cut = sites_from 0 cut

abbrev pub place_in : Cut → Site → ℕ
place_in cut at = place_of cut at.track at.row

-- elements with places that go up, from a place on
abbrev pub GoUp : {A : Type 0} → (A → ℕ) → ℕ → List A → Type 0
GoUp place from [] = Unit {0}
GoUp place from (x ∷ xs) = (from ≤ place x) × GoUp place (place x + 1) xs

-- numbers that hold the weight of each element at its place, and 0 at all other places
pub record AreChargesOf {A : Type 0} (place weight : A → ℕ) (xs : List A) (numbers : List ℕ) : Type 0 where
  pub order : GoUp place 0 xs
  pub each : (x : A) → Has x xs → number numbers (place x) ≡ weight x
  pub others : (p : ℕ) → 0 < number numbers p → (x : A) × Has x xs × (place x ≡ p)

-- the first greatest number is that of the heaviest element; where it is 0 no element weighs anything
pub record TopIsHeaviest {A : Type 0} (place weight : A → ℕ) (xs : List A) (numbers : List ℕ) (at : ℕ) : Type 0 where
  pub some : 0 < number numbers at → (x : A) × Has x xs × (place x ≡ at) × (heaviest weight xs ≡ Some x)
  pub none : number numbers at ≡ 0 → heaviest weight xs ≡ None

-- ---- a row gave way to others, whose charges alone are new

pub record AreRecharged (now : Cut) (i : ℕ) (new : List Row) (k : KeptSum) (charges : List ℕ) : Type 0 where
  pub room : length charges ≡ length k.charges
  pub each : (row : Row) → Has row new → number charges (place_of now i row) ≡ row_charge k i row
  pub others : (p : ℕ) → ((row : Row) → Has row new → place_of now i row ≡ p → ⊥)
      → number charges p ≡ number k.charges p

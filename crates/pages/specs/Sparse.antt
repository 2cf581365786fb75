-- Items of which each that was put stands at a number of its own.
use Rattle.std.specs.Prelude.{◌≡◌, ℕ, ◌+◌, ◌^◌, ◌<◌, ◌≤◌, List, length, map, get_or, box_value, vec_capacity}
use Rattle.pages.specs.declared.sparse.Sparse.TheInside.{Inside}
use Rattle.pages.specs.Pages.{owned}

-- the list, by the number of each item
abbrev pub listed : {T : Type 0} → List ℕ → List T → T → List T
listed numbers items blank = map (λ number. get_or items number blank) numbers

-- the item at 0 is blank, and each other one is that of one number
pub record AreSingles {T : Type 0} (numbers : List ℕ) (items : List T) (blank : T) : Type 0 where
  pub full : length items ≡ 1 + owned numbers
  pub within : (k : ℕ) → get_or numbers k 0 ≤ owned numbers
  pub apart : (j k : ℕ) → 0 < get_or numbers j 0 → get_or numbers j 0 ≡ get_or numbers k 0 → j ≡ k
  pub empty : get_or items 0 blank ≡ blank

pub record IsSparse {T : Type 0} (p : Inside T) : Type 0 where
  pub singles : AreSingles p.numbers.items p.items.items (box_value p.blank)
  pub few : length p.numbers.items ≤ 2 ^ 30
  pub room : 1 + length p.numbers.items ≤ vec_capacity p.items

abbrev pub view_of : {T : Type 0} → Inside T → List T
view_of p = listed p.numbers.items p.items.items (box_value p.blank)

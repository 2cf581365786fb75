-- Items in pages of 4, of which those that nothing was put in stand together.
use Rattle.std.specs.Prelude.{◌≡◌, ℕ, zero, suc, ◌+◌, ◌*◌, ◌/◌, ◌%◌, ◌^◌, ◌<◌, ◌≤◌, List, [], ◌∷◌, length, map, get_or, box_value, vec_capacity}
use Rattle.std.specs.List.{range_with_len}
use Rattle.pages.specs.declared.Pages.TheInside.{Inside}

-- the item at a place of the list, by the number of its page
abbrev pub item_at : {T : Type 0} → List ℕ → List T → T → ℕ → T
item_at numbers items blank i = get_or items (4 * get_or numbers (i / 4) 0 + i % 4) blank

-- how many pages have a place of their own
abbrev pub owned : List ℕ → ℕ
owned [] = 0
owned (zero ∷ numbers) = owned numbers
owned (suc n ∷ numbers) = suc (owned numbers)

-- the page at 0 is blank, and each other one is that of one number
pub record ArePages {T : Type 0} (numbers : List ℕ) (items : List T) (blank : T) : Type 0 where
  pub full : length items ≡ 4 * (1 + owned numbers)
  pub within : (k : ℕ) → get_or numbers k 0 ≤ owned numbers
  pub apart : (j k : ℕ) → 0 < get_or numbers j 0 → get_or numbers j 0 ≡ get_or numbers k 0 → j ≡ k
  pub empty : (i : ℕ) → i < 4 → get_or items i blank ≡ blank

pub record IsPaged {T : Type 0} (p : Inside T) : Type 0 where
  pub pages : ArePages p.numbers.items p.items.items (box_value p.blank)
  pub enough : p.len ≤ 4 * length p.numbers.items
  pub few : length p.numbers.items ≤ 2 ^ 30
  pub room : 4 * (1 + length p.numbers.items) ≤ vec_capacity p.items

abbrev pub view_of : {T : Type 0} → Inside T → List T
view_of p = map (item_at p.numbers.items p.items.items (box_value p.blank)) (range_with_len 0 p.len)

-- The places of an arena as they lie in memory: the vacant ones are linked, each to the one before it.
use Rattle.std.specs.Prelude.{◌≡◌, ℕ, ◌+◌, ◌≤◌, ◌^◌, List, [], ◌∷◌, length, map, get_or, Bool, true, false, if◌then◌else◌, Option, Some, None}
use Rattle.seg_tree.specs.declared.nodes.Node.{Node}
use Rattle.seg_tree.specs.Linked.{node_at, IsFork, left_child, right_child}
use Rattle.seg_tree.specs.declared.places.Slot.{Slot}
use Rattle.seg_tree.specs.declared.places.Slot.TheVariants.{Used, Vacant}

abbrev pub held : Slot → Option Node
held (Used x mark) = Some x
held (Vacant before) = None

abbrev pub mark_of : Slot → Bool
mark_of (Used x mark) = mark
mark_of (Vacant before) = false

-- the last vacant place of these slots, which stand from place i on, or else the one before them
abbrev pub last_vacant : ℕ → Option ℕ → List Slot → Option ℕ
last_vacant i before [] = before
last_vacant i before (Used x mark ∷ ss) = last_vacant (i + 1) before ss
last_vacant i before (Vacant link ∷ ss) = last_vacant (i + 1) (Some i) ss

-- each vacant place is linked to the one before it
abbrev pub AreLinked : ℕ → Option ℕ → List Slot → Type 0
AreLinked i before [] = Unit {0}
AreLinked i before (Used x mark ∷ ss) = AreLinked (i + 1) before ss
AreLinked i before (Vacant link ∷ ss) = (link ≡ before) × AreLinked (i + 1) (Some i) ss

abbrev pub vacancies_of : List Slot → ℕ
vacancies_of [] = 0
vacancies_of (Used x mark ∷ ss) = vacancies_of ss
vacancies_of (Vacant link ∷ ss) = 1 + vacancies_of ss

-- no node is marked
abbrev pub NoMarks : List Slot → Type 0
NoMarks [] = Unit {0}
NoMarks (s ∷ ss) = (mark_of s ≡ false) × NoMarks ss

-- the slots, the last vacant place and the number of vacant places belong together
pub record AreKept (slots : List Slot) (last : Option ℕ) (vacancies : ℕ) : Type 0 where
  pub few : length slots ≤ 2 ^ 24
  pub linked : AreLinked 0 None slots
  pub last_is : last ≡ last_vacant 0 None slots
  pub counted : vacancies ≡ vacancies_of slots
  pub unmarked : NoMarks slots

-- what stands behind the slots
abbrev pub no_slot : Slot
no_slot = Vacant None

abbrev pub IsVacant : Slot → Type 0
IsVacant (Used x mark) = ⊥
IsVacant (Vacant before) = Unit {0}

-- the vacant place before a vacant one
abbrev pub link_of : Slot → Option ℕ
link_of (Used x mark) = None
link_of (Vacant before) = before

-- ---- sweeping

-- the place is marked
abbrev pub IsMarked : List Slot → ℕ → Type 0
IsMarked slots p = mark_of (get_or slots p no_slot) ≡ true

-- the node at a slot, where it is marked
abbrev pub held_if_marked : Slot → Option Node
held_if_marked (Used x mark) = if mark then Some x else None
held_if_marked (Vacant before) = None

-- the children of a marked node are marked
abbrev pub AreClosed : List Slot → Type 0
AreClosed slots = (p : ℕ) → IsMarked slots p → IsFork (node_at (map held slots) p).below
    → IsMarked slots (left_child (node_at (map held slots) p).below)
    × IsMarked slots (right_child (node_at (map held slots) p).below)

-- the slot with a mark
abbrev pub marked : Slot → Slot
marked (Used x mark) = Used x true
marked (Vacant before) = Vacant before

-- the slot of a place that was swept, behind the vacant place before it
abbrev pub settled : Option ℕ → Slot → Slot
settled before (Used x mark) = if mark then Used x false else Vacant before
settled before (Vacant link) = Vacant before

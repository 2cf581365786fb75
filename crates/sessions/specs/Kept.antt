-- Sessions as a hub keeps them, over the places of an arena, and for which sessions they stand.
use Rattle.std.specs.Prelude.{◌≡◌, ℕ, ◌+◌, ◌≤◌, ◌↔◌, Bool, false, nat_lt, List, [], ◌++◌, length, map, replicate, Option, Some, None}
use Rattle.std.specs.List.{All, AllZip, flat_map}
use Rattle.descent.specs.Descents.{after, cut_of}
use Rattle.descent.specs.Held.{AreTracksOf, Held, shown}
use Rattle.descent.specs.Known.{facts_in}
use Rattle.descent.specs.Rows.{Track}
use Rattle.descent.specs.Spelled.{Token, spelled}
use Rattle.interval.specs.Interval.{Has, Interval, IsWithin}
use Rattle.seg_tree.specs.Linked.{IsUsed, Places, used}
use Rattle.seg_tree.specs.Reached.{Reached, Stands, lengths_of, roots_of}
use Rattle.seg_tree.specs.Trees.{IsReached, IsTreeOf, value_of}
use Rattle.seg_tree.specs.declared.arena.Tree.{Tree}
use Rattle.semantics.specs.Admitted.{IsAdmitted}
use Rattle.semantics.specs.Limits.{IsWithinLimits}
use Rattle.semantics.specs.Plain.{IsPlain}
use Rattle.sessions.specs.declared.events.Event.{Event}
use Rattle.sessions.specs.declared.events.Event.TheVariants.{Append}
use Rattle.sessions.specs.Events.{last_slot}
use Rattle.sessions.specs.Hub.{Session, HubState, first_nodes, forest_of, interval_of}
use Rattle.sessions.specs.Steady.{value_for}
use Rattle.store_file.specs.Grown.{made_in}
use Rattle.store_file.specs.StoreValue.{IsStoreValue, StoreValue}
use Rattle.store_file.specs.Stored.{StoreParts, store_value}
use Rattle.store_file.specs.declared.store.Stored.{Stored}

-- a session as the hub keeps it: its budget, the trees of all series as of its opening, its plain query as it is
-- spelled, the rows of its cut, and the running interval
pub record Kept : Type 0 where
  pub budget : ℕ
  pub trees : List Tree
  pub spelled : List Token
  pub tracks : List (Track (Held ℕ))
  pub running : Interval

-- what contracts see of a hub
pub record HubView : Type 0 where
  pub store : StoreParts
  pub slots : List (Option Kept)

-- the nodes that some trees reach
abbrev pub reached_from : Places → List Tree → Reached
reached_from places trees = record { nodes = places; trees = trees }

-- the rows are those of nodes that the trees reach
abbrev pub AreTracksIn : Reached → List (Track (Held ℕ)) → Type 0
AreTracksIn r tracks = AreTracksOf (lengths_of r) (roots_of r) (Stands r) tracks

-- a session as it is kept, over the places of an arena, stands for this one
pub record Keeps (places : Places) (k : Kept) (s : Session) : Type 0 where
  pub few : length k.trees ≤ 16
  pub trees : All (IsTreeOf places) k.trees
  pub forest : map (value_of places) k.trees ≡ forest_of s.store
  pub store : IsStoreValue s.store
  pub budget : k.budget ≡ s.budget
  pub plain : IsPlain s.query
  pub limits : IsWithinLimits s.query
  pub admitted : IsAdmitted (facts_in k.tracks) s.query
  pub spelled : k.spelled ≡ spelled s.query
  pub steps : ℕ
  pub reached : s.nodes ≡ after s.query (first_nodes s.store s.query) steps
  pub tracks : AreTracksIn (reached_from places k.trees) k.tracks
  pub rows : shown k.tracks ≡ cut_of s.nodes
  pub running : k.running ≡ s.running
  pub holds : Has s.running (value_for s.store s.query)
  pub narrow : IsWithin s.running (interval_of s.query s.nodes)

-- a slot is free on both sides, or has a session that stands for the other
abbrev pub KeepsSlot : Places → Option Kept → Option Session → Type 0
KeepsSlot places None None = Unit {0}
KeepsSlot places None (Some s) = ⊥
KeepsSlot places (Some k) None = ⊥
KeepsSlot places (Some k) (Some s) = Keeps places k s

abbrev pub KeepSlots : Places → List (Option Kept) → List (Option Session) → Type 0
KeepSlots places kept slots = AllZip (KeepsSlot places) kept slots

-- the hub stands for a state
pub record StandsFor (v : HubView) (h : HubState) : Type 0 where
  pub store : store_value v.store ≡ h.store
  pub slots : KeepSlots v.store.arena.nodes v.slots h.slots

-- ---- live places

abbrev pub entry_tree : List ℕ × Stored → Tree
entry_tree e = e.1.tree

abbrev pub trees_of : StoreParts → List Tree
trees_of s = map entry_tree s.entries

-- the nodes of the store that these reach
abbrev pub reached_in : StoreParts → Reached
reached_in s = record { nodes = s.arena.nodes; trees = trees_of s }

abbrev pub trees_kept : Option Kept → List Tree
trees_kept None = []
trees_kept (Some k) = k.trees

-- the trees of the store, and those that the sessions keep
abbrev pub live_trees : HubView → List Tree
live_trees v = trees_of v.store ++ flat_map trees_kept v.slots

-- the used places are those that these trees reach
pub record IsLive (v : HubView) : Type 0 where
  pub live : (p : ℕ) → IsUsed v.store.arena.nodes p ↔ IsReached v.store.arena.nodes (live_trees v) p

-- what holds of every hub
pub record IsHub (v : HubView) : Type 0 where
  pub slots : length v.slots ≡ last_slot + 1
  pub state : HubState
  pub stands : StandsFor v state
  pub live : IsLive v

-- the hub over a store, before any event
abbrev pub new_hub : StoreValue → HubState
new_hub m = record { store = m; slots = replicate (last_slot + 1) None }

-- whether the arena is full for the readings of an event
abbrev pub is_full : StoreParts → Event → Bool
is_full s (Append name xs) = nat_lt s.arena.limit (used s.arena.nodes + made_in (store_value s) name xs)
is_full s _ = false

-- A session's interval from step to step: it never widens, it holds the value, and it is within the budget in the end.
use Rattle.std.specs.Prelude.{◌≡◌, ℕ, zero, suc, ◌+◌, ◌≤◌, true, if◌then◌else◌, ℤ, List, [], ◌∷◌, length, Some, None}
use Rattle.std.specs.List.{list_any}
use Rattle.descent.specs.Laws.{stored}
use Rattle.interval.specs.Interval.{Has, IsWithin}
use Rattle.segment.specs.Tree.{all_segs}
use Rattle.semantics.specs.Admission.{query_names}
use Rattle.semantics.specs.Names.{same_name}
use Rattle.semantics.specs.Plain.{IsPlain}
use Rattle.semantics.specs.Term.{QueryTerm}
use Rattle.semantics.specs.Value.{query_value}
use Rattle.sessions.specs.Events.{IsEvent}
use Rattle.sessions.specs.Hub.{Session, HubState, Moment, forest_of, happens, hub_after, is_done, opened, slot_at, stepped}
use Rattle.store_file.specs.Added.{names_in}
use Rattle.store_file.specs.StoreValue.{Series, StoreValue, IsStoreValue}

-- a session after so many steps
abbrev pub session_after : StoreValue → QueryTerm → ℕ → ℕ → Session
session_after m q budget zero = opened m q budget
session_after m q budget (suc n) = stepped (session_after m q budget n)

-- what the query comes to, by plain sums over the readings as of the opening
abbrev pub value_for : StoreValue → QueryTerm → ℤ
value_for m q = query_value (stored (forest_of m) (names_in m)) q

-- how many nodes the series have that a query names
abbrev pub nodes_named : QueryTerm → List Series → ℕ
nodes_named q [] = 0
nodes_named q (s ∷ ss) =
    (if list_any (same_name s.name) (query_names q) then length (all_segs s.tree) else 0) + nodes_named q ss

-- ---- the hub's moments

abbrev pub ArePossible : List Moment → Type 0
ArePossible [] = Unit {0}
ArePossible (e ∷ es) = IsEvent e.event × ArePossible es

-- a hub in which no session was opened yet
pub record IsNew (h : HubState) : Type 0 where
  pub store : IsStoreValue h.store
  pub free : (k : ℕ) → slot_at h k ≡ None

-- a session that some events brought about
pub record IsHeld (h : HubState) (events : List Moment) (k : ℕ) (s : Session) : Type 0 where
  pub new : IsNew h
  pub possible : ArePossible events
  pub there : slot_at (hub_after h events) k ≡ Some s

-- ---- laws

-- whatever happens, the interval of each session holds the value over the readings as of its opening
abbrev pub EachHolds : Type 0
EachHolds = (h : HubState) (events : List Moment) (k : ℕ) (s : Session) → IsHeld h events k s
    → Has s.running (value_for s.store s.query)

-- and it lies inside of what it was before an event
abbrev pub EachStays : Type 0
EachStays = (h : HubState) (e : Moment) (k : ℕ) (s t : Session) → slot_at h k ≡ Some s
    → slot_at (happens h e.full e.event).hub k ≡ Some t → IsWithin t.running s.running

-- after as many steps as its series have nodes, a session is within its budget, and stays so
abbrev pub EachEnds : Type 0
EachEnds = (m : StoreValue) (q : QueryTerm) (budget steps : ℕ) → IsStoreValue m → IsPlain q
    → nodes_named q m.series ≤ steps → is_done (session_after m q budget steps) ≡ true

-- A hub: a store, and slots, each of which is free or has a session; and what an event does.
use Rattle.std.specs.Prelude.{ℕ, Bool, true, false, nat_le, if◌then◌else◌, ℤ, pos, List, [], ◌∷◌, length, map, slice_index_or, slice_set, Option, Some, None, unwrap_or, Result, Ok, Err}
use Rattle.descent.specs.Descents.{Nodes, cut_of, next, roots}
use Rattle.descent.specs.Sums.{interval_in, width_of}
use Rattle.expr.specs.declared.admission.AdmitErr.{AdmitErr}
use Rattle.expr.specs.declared.admission.AdmitErr.TheVariants as admit
use Rattle.expr_parse.specs.Parsed.{parsed}
use Rattle.expr_parse.specs.declared.error.ParseErr.{ParseErr}
use Rattle.interval.specs.Interval.{Interval, meet_of}
use Rattle.segment.specs.Nodes.{Forest}
use Rattle.segment.specs.Tree.{SegTree}
use Rattle.semantics.specs.Admission as admission
use Rattle.semantics.specs.Plain.{plain}
use Rattle.semantics.specs.Term.{QueryTerm}
use Rattle.sessions.specs.declared.events.Event.{Event}
use Rattle.sessions.specs.declared.events.Event.TheVariants.{OpenSlot, StepSlot, ShowSlot, CloseSlot, Append, Save}
use Rattle.sessions.specs.declared.replies.Cause.{Cause}
use Rattle.sessions.specs.declared.replies.Cause.TheVariants as cause
use Rattle.sessions.specs.declared.replies.Reply.{Reply}
use Rattle.sessions.specs.declared.replies.Reply.TheVariants as reply
use Rattle.store_file.specs.Added.{names_in}
use Rattle.store_file.specs.Facts.{facts_in}
use Rattle.store_file.specs.Grown.{grown_length, grown_store, growth_refusal}
use Rattle.store_file.specs.StoreValue.{Series, StoreValue}
use Rattle.store_file.specs.declared.adding.SeriesErr.{SeriesErr}
use Rattle.store_file.specs.declared.adding.SeriesErr.TheVariants as series

-- ---- a session

-- the store as of the opening, the plain query, the budget, the nodes of the cut, and the running interval
pub record Session : Type 0 where
  pub store : StoreValue
  pub query : QueryTerm
  pub budget : ℕ
  pub nodes : Nodes
  pub running : Interval

abbrev pub tree_of : Series → Option SegTree
tree_of s = s.tree

abbrev pub forest_of : StoreValue → Forest
forest_of m = map tree_of m.series

-- the cut of the roots
unfoldable pub first_nodes : StoreValue → QueryTerm → Nodes
first_nodes m q = roots q (forest_of m) (names_in m)

unfoldable pub next_nodes : QueryTerm → Nodes → Nodes
next_nodes q nodes = next q nodes

abbrev pub no_interval : Interval
no_interval = record { lo = pos 0; hi = pos 0 }

-- the interval of a cut; each cut of a descent has one
unfoldable pub interval_of : QueryTerm → Nodes → Interval
interval_of q nodes = unwrap_or (interval_in (cut_of nodes) q) no_interval

-- a session at its opening
abbrev pub opened : StoreValue → QueryTerm → ℕ → Session
opened m q budget = record {
  store = m;
  query = q;
  budget = budget;
  nodes = first_nodes m q;
  running = interval_of q (first_nodes m q);
}

abbrev pub is_done : Session → Bool
is_done s = nat_le (width_of s.running) s.budget

-- with the next cut
abbrev pub expanded : Session → Session
expanded s = record s {
  nodes = next_nodes s.query s.nodes;
  running = meet_of s.running (interval_of s.query (next_nodes s.query s.nodes));
}

-- after a step
abbrev pub stepped : Session → Session
stepped s = if is_done s then s else expanded s

abbrev pub shown : ℕ → Session → Reply
shown k s = if is_done s then reply.Done k s.running else reply.Now k s.running

-- ---- queries

abbrev pub admit_err : admission.NotAdmitted → AdmitErr
admit_err (admission.unknown name) = admit.Unknown name
admit_err (admission.high_rank sum) = admit.Rank sum
admit_err (admission.outside sum lo hi) = admit.Domain sum lo hi
admit_err (admission.too_great node) = admit.Range node

abbrev pub unless_refused : QueryTerm → Option admission.NotAdmitted → Result QueryTerm Cause
unless_refused q None = Ok q
unless_refused q (Some r) = Err (cause.Admit (admit_err r))

abbrev pub plain_by : StoreValue → Result QueryTerm ParseErr → Result QueryTerm Cause
plain_by m (Err e) = Err (cause.Parse e)
plain_by m (Ok q) = unless_refused (plain q) (admission.refusal_of (facts_in m) (plain q))

-- the plain query of a text over a store, or why it is refused
unfoldable pub plain_in : StoreValue → List ℕ → Result QueryTerm Cause
plain_in m text = plain_by m (parsed text)

-- ---- the hub

pub record HubState : Type 0 where
  pub store : StoreValue
  pub slots : List (Option Session)

abbrev pub slot_at : HubState → ℕ → Option Session
slot_at h k = slice_index_or h.slots k None

abbrev pub with_slot : HubState → ℕ → Option Session → HubState
with_slot h k s = record { store = h.store; slots = slice_set h.slots k s }

-- a reply, and the hub afterwards
pub record Outcome : Type 0 where
  pub reply : Reply
  pub hub : HubState

abbrev pub outcome : Reply → HubState → Outcome
outcome r h = record { reply = r; hub = h }

abbrev pub opens_by : HubState → ℕ → ℕ → Result QueryTerm Cause → Outcome
opens_by h k budget (Err c) = outcome (reply.Refused c) h
opens_by h k budget (Ok q) =
    outcome (reply.Opened k (opened h.store q budget).running) (with_slot h k (Some (opened h.store q budget)))

abbrev pub opens : HubState → ℕ → ℕ → List ℕ → Option Session → Outcome
opens h k budget text (Some s) = outcome (reply.SlotBusy k) h
opens h k budget text None = opens_by h k budget (plain_in h.store text)

abbrev pub steps : HubState → ℕ → Option Session → Outcome
steps h k None = outcome (reply.SlotFree k) h
steps h k (Some s) = outcome (shown k (stepped s)) (with_slot h k (Some (stepped s)))

abbrev pub shows : HubState → ℕ → Option Session → Outcome
shows h k None = outcome (reply.SlotFree k) h
shows h k (Some s) = outcome (shown k s) h

abbrev pub closes : HubState → ℕ → Option Session → Outcome
closes h k None = outcome (reply.SlotFree k) h
closes h k (Some s) = outcome (reply.Closed k) (with_slot h k None)

abbrev pub cause_of : List ℕ → SeriesErr → Cause
cause_of name series.Unknown = cause.Unknown name
cause_of name series.TooLong = cause.TooLong name
cause_of name _ = cause.ArenaFull

-- readings behind those of a series, unless the arena is full
abbrev pub grows : HubState → Bool → List ℕ → List ℤ → Outcome
grows h true name xs = outcome (reply.Refused cause.ArenaFull) h
grows h false name xs =
    outcome (reply.Appended name (length xs) (grown_length h.store name xs))
    (record { store = grown_store h.store name xs; slots = h.slots })

abbrev pub appends : HubState → Bool → List ℕ → List ℤ → Option SeriesErr → Outcome
appends h full name xs (Some e) = outcome (reply.Refused (cause_of name e)) h
appends h full name xs None = grows h full name xs

-- what an event does, where the arena is full for its readings or not: that depends on which places are taken
abbrev pub happens : HubState → Bool → Event → Outcome
happens h full (OpenSlot k budget text) = opens h k budget text (slot_at h k)
happens h full (StepSlot k) = steps h k (slot_at h k)
happens h full (ShowSlot k) = shows h k (slot_at h k)
happens h full (CloseSlot k) = closes h k (slot_at h k)
happens h full (Append name xs) = appends h full name xs (growth_refusal h.store name xs)
happens h full Save = outcome reply.Saved h

-- ---- lists of events

-- an event, and whether the arena is full for it
pub record Moment : Type 0 where
  pub event : Event
  pub full : Bool

abbrev pub replies : HubState → List Moment → List Reply
replies h [] = []
replies h (e ∷ es) = (happens h e.full e.event).reply ∷ replies (happens h e.full e.event).hub es

abbrev pub hub_after : HubState → List Moment → HubState
hub_after h [] = h
hub_after h (e ∷ es) = hub_after (happens h e.full e.event).hub es

-- What one session is told, as if there were no other.
use Rattle.std.specs.Prelude.{◌≡◌, ◌<◌, ◌==◌, ◌++◌, length, ℕ, Bool, true, false, if◌then◌else◌, ℤ, List, [], ◌∷◌, Option, Some, None, Ok}
use Rattle.semantics.specs.Term.{QueryTerm}
use Rattle.sessions.specs.declared.events.Event.{Event}
use Rattle.sessions.specs.declared.events.Event.TheVariants.{OpenSlot, StepSlot, ShowSlot, CloseSlot, Append, Save}
use Rattle.sessions.specs.declared.replies.Reply.{Reply}
use Rattle.sessions.specs.declared.replies.Reply.TheVariants.{Opened, Closed}
use Rattle.sessions.specs.Hub.{Session, HubState, Moment, happens, hub_after, opened, plain_in, replies, shown, slot_at, stepped}
use Rattle.store_file.specs.Grown.{grown_store, growth_refusal}
use Rattle.store_file.specs.StoreValue.{StoreValue}
use Rattle.store_file.specs.declared.adding.SeriesErr.{SeriesErr}

-- ---- a session by itself

-- what a session may be asked
pub data Own : Type 0 where
  a_step : Own
  a_show : Own
  a_close : Own

abbrev pub own_replies : ℕ → Session → List Own → List Reply
own_replies k s [] = []
own_replies k s (a_step ∷ own) = shown k (stepped s) ∷ own_replies k (stepped s) own
own_replies k s (a_show ∷ own) = shown k s ∷ own_replies k s own
own_replies k s (a_close ∷ own) = Closed k ∷ []

-- all replies of one session: the store as of its opening and its own events are the only arguments
abbrev pub alone : StoreValue → ℕ → QueryTerm → ℕ → List Own → List Reply
alone m k q budget own = Opened k (opened m q budget).running ∷ own_replies k (opened m q budget) own

-- ---- its part of all events

abbrev pub own_if : Bool → Own → Option Own
own_if own o = if own then Some o else None

-- the event as one of the slot's own, where it is
abbrev pub own_event : ℕ → Event → Option Own
own_event k (OpenSlot j budget text) = None
own_event k (StepSlot j) = own_if (j == k) a_step
own_event k (ShowSlot j) = own_if (j == k) a_show
own_event k (CloseSlot j) = own_if (j == k) a_close
own_event k (Append name xs) = None
own_event k Save = None

-- with an own event before the rest, which ends at a close
abbrev pub before_rest : {A : Type 0} → Option Own → A → List A → List A
before_rest None x rest = rest
before_rest (Some a_step) x rest = x ∷ rest
before_rest (Some a_show) x rest = x ∷ rest
before_rest (Some a_close) x rest = x ∷ []

abbrev pub own_or_close : Option Own → Own
own_or_close None = a_close
own_or_close (Some o) = o

-- the slot's own events up to its first close
abbrev pub own_of : ℕ → List Moment → List Own
own_of k [] = []
own_of k (e ∷ es) = before_rest (own_event k e.event) (own_or_close (own_event k e.event)) (own_of k es)

-- the replies to them, out of the replies to all events
abbrev pub told : ℕ → List Moment → List Reply → List Reply
told k [] rs = []
told k (e ∷ es) [] = []
told k (e ∷ es) (r ∷ rs) = before_rest (own_event k e.event) r (told k es rs)

-- ---- the store at a moment

abbrev pub after_append : StoreValue → Bool → List ℕ → List ℤ → Option SeriesErr → StoreValue
after_append m full name xs (Some e) = m
after_append m true name xs None = m
after_append m false name xs None = grown_store m name xs

abbrev pub store_after_event : StoreValue → Bool → Event → StoreValue
store_after_event m full (OpenSlot k budget text) = m
store_after_event m full (StepSlot k) = m
store_after_event m full (ShowSlot k) = m
store_after_event m full (CloseSlot k) = m
store_after_event m full (Append name xs) = after_append m full name xs (growth_refusal m name xs)
store_after_event m full Save = m

-- the store after the appends that are accepted
abbrev pub store_after : StoreValue → List Moment → StoreValue
store_after m [] = m
store_after m (e ∷ es) = store_after (store_after_event m e.full e.event) es

-- ---- the law

-- a session is opened, after some events
pub record IsOpening (h : HubState) (before : List Moment) (k : ℕ) (text : List ℕ) (q : QueryTerm) : Type 0 where
  pub slot : k < length h.slots
  pub free : slot_at (hub_after h before) k ≡ None
  pub query : plain_in (store_after h.store before) text ≡ Ok q

abbrev pub opening : ℕ → ℕ → List ℕ → Bool → Moment
opening k budget text full = record { event = OpenSlot k budget text; full = full }

-- the replies to a session, from its opening on
abbrev pub session_replies : HubState → ℕ → Moment → List Moment → List Reply
session_replies h k first after =
    (happens h first.full first.event).reply
    ∷ told k after (replies (happens h first.full first.event).hub after)

-- each session is told what it would be told alone, over the store as the appends before its opening made it: for every
-- hub, all events before the opening and all events after it, and whichever appends find the arena full
abbrev pub EachAlone : Type 0
EachAlone = (h : HubState) (before after : List Moment) (k budget : ℕ) (text : List ℕ) (full : Bool) (q : QueryTerm)
    → IsOpening h before k text q
    → session_replies (hub_after h before) k (opening k budget text full) after
    ≡ alone (store_after h.store before) k q budget (own_of k after)

-- the replies to all events are those to the events before a moment and those to the events from it on
abbrev pub RepliesFollow : Type 0
RepliesFollow = (h : HubState) (before after : List Moment)
    → replies h (before ++ after) ≡ replies h before ++ replies (hub_after h before) after

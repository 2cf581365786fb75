-- What a call of a hub says and does.
use Rattle.std.specs.Prelude.{◌≡◌, ℕ, Option, Some, None}
use Rattle.std.specs.Option.{option_map}
use Rattle.seg_tree.specs.Linked.{Places}
use Rattle.sessions.specs.declared.events.Event.{Event}
use Rattle.sessions.specs.declared.events.Event.TheVariants.{OpenSlot, StepSlot, ShowSlot, CloseSlot, Append, Save}
use Rattle.sessions.specs.declared.replies.Reply.{Reply}
use Rattle.sessions.specs.declared.replies.Reply.TheVariants as reply
use Rattle.sessions.specs.Hub.{Session, HubState, Outcome, shown, stepped}
use Rattle.sessions.specs.Kept.{Kept, HubView, KeepsSlot, StandsFor, trees_kept}
use Rattle.store_file.specs.Grown.{made_in}
use Rattle.store_file.specs.Stored.{StoreParts, store_value}

-- whichever state the hub stood for, this is its reply, and it stands for the state afterwards
pub record Does (old new : HubView) (r : Reply) (what : HubState → Outcome) : Type 0 where
  pub reply : (h : HubState) → StandsFor old h → r ≡ (what h).reply
  pub hub : (h : HubState) → StandsFor old h → StandsFor new (what h).hub

-- the session in a slot made a step, and kept its trees
pub record StepsSlot (places : Places) (old new : Option Kept) : Type 0 where
  pub stands : (s : Option Session) → KeepsSlot places old s → KeepsSlot places new (option_map stepped s)
  pub trees : trees_kept new ≡ trees_kept old

-- what is said of a slot
abbrev pub slot_reply : ℕ → Option Session → Reply
slot_reply k None = reply.SlotFree k
slot_reply k (Some s) = shown k s

-- the event was not accepted
abbrev pub IsRefused : Reply → Type 0
IsRefused (reply.Opened k iv) = ⊥
IsRefused (reply.Now k iv) = ⊥
IsRefused (reply.Done k iv) = ⊥
IsRefused (reply.Closed k) = ⊥
IsRefused (reply.Appended name added total) = ⊥
IsRefused reply.Saved = ⊥
IsRefused (reply.SlotBusy k) = Unit {0}
IsRefused (reply.SlotFree k) = Unit {0}
IsRefused (reply.Refused c) = Unit {0}

-- the event takes no memory
abbrev pub TakesNoMemory : Event → Type 0
TakesNoMemory (OpenSlot k budget text) = ⊥
TakesNoMemory (StepSlot k) = ⊥
TakesNoMemory (ShowSlot k) = Unit {0}
TakesNoMemory (CloseSlot k) = Unit {0}
TakesNoMemory (Append name xs) = ⊥
TakesNoMemory Save = Unit {0}

-- how many nodes an event makes at most
abbrev pub made_by : StoreParts → Event → ℕ
made_by s (Append name xs) = made_in (store_value s) name xs
made_by s _ = 0

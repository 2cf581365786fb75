-- What an event may ask of a hub.
use Rattle.std.specs.Prelude.{ℕ, ◌≤◌, List, [], ◌∷◌}
use Rattle.segment.specs.Measure.{AreReadings}
use Rattle.semantics.specs.Most.{most_number}
use Rattle.sessions.specs.declared.events.Event.{Event}
use Rattle.sessions.specs.declared.events.Event.TheVariants.{OpenSlot, StepSlot, ShowSlot, CloseSlot, Append, Save}

-- the slots are numbered from 0 on
abbrev pub last_slot : ℕ
last_slot = 15

-- its slot is one of the hub's, its budget and its readings are within the limits
abbrev pub IsEvent : Event → Type 0
IsEvent (OpenSlot slot budget query) = (slot ≤ last_slot) × (budget ≤ most_number)
IsEvent (StepSlot slot) = slot ≤ last_slot
IsEvent (ShowSlot slot) = slot ≤ last_slot
IsEvent (CloseSlot slot) = slot ≤ last_slot
IsEvent (Append name xs) = AreReadings xs
IsEvent Save = Unit {0}

abbrev pub AreEvents : List Event → Type 0
AreEvents [] = Unit {0}
AreEvents (e ∷ es) = IsEvent e × AreEvents es

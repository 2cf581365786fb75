-- Worked lists of events at a hub over 32 readings, 0 and 10 in turn.
use Rattle.std.specs.Prelude.{◌≡◌, ℕ, true, false, pos, List, [], ◌∷◌, codes, replicate, Some, None}
use Rattle.descent.specs.Worked.{turns_tree, x}
use Rattle.expr.specs.declared.admission.AdmitErr.TheVariants as admission
use Rattle.expr_parse.specs.declared.error.ParseErr.TheVariants as text
use Rattle.interval.specs.Interval.{Interval}
use Rattle.sessions.specs.declared.events.Event.{Event}
use Rattle.sessions.specs.declared.events.Event.TheVariants.{OpenSlot, StepSlot, ShowSlot, CloseSlot, Append, Save}
use Rattle.sessions.specs.declared.replies.Cause.TheVariants as cause
use Rattle.sessions.specs.declared.replies.Reply.TheVariants.{Opened, Now, Done, Closed, Saved, SlotBusy, SlotFree, Refused}
use Rattle.sessions.specs.Hub.{HubState, Moment, replies}

abbrev pub hub : HubState
hub = record {
  store = record { scale = 0; degree = 0; series = record { name = x; tree = Some turns_tree } ∷ [] };
  slots = replicate 16 None;
}

abbrev pub moment : Event → Moment
moment e = record { event = e; full = false }

abbrev pub between : ℕ → ℕ → Interval
between lo hi = record { lo = pos lo; hi = pos hi }

abbrev pub whole : List ℕ
whole = codes "sum(x)"

pub record HubsAreWorked : Type 0 where
  -- a session within its budget from the start on, in a slot that is then in use; a name that is not there
  pub at_once : replies hub (moment (OpenSlot 3 320 whole) ∷ moment (OpenSlot 3 320 whole) ∷ moment (StepSlot 3)
      ∷ moment (OpenSlot 4 0 (codes "sum(z)")) ∷ moment (StepSlot 4) ∷ [])
      ≡ Opened 3 (between 0 320) ∷ SlotBusy 3 ∷ Done 3 (between 0 320)
      ∷ Refused (cause.Admit (admission.Unknown (codes "z"))) ∷ SlotFree 4 ∷ []
  -- two steps to the budget, and none further
  pub two_steps : replies hub (moment (OpenSlot 0 319 whole) ∷ moment (StepSlot 0) ∷ moment (ShowSlot 0)
      ∷ moment (StepSlot 0) ∷ moment (StepSlot 0) ∷ moment (CloseSlot 0) ∷ moment (StepSlot 0) ∷ [])
      ≡ Opened 0 (between 0 320) ∷ Now 0 (between 0 320) ∷ Now 0 (between 0 320) ∷ Done 0 (between 80 240)
      ∷ Done 0 (between 80 240) ∷ Closed 0 ∷ SlotFree 0 ∷ []
  -- two sessions in turn
  pub in_turn : replies hub (moment (OpenSlot 0 0 whole) ∷ moment (OpenSlot 1 200 whole) ∷ moment (StepSlot 0)
      ∷ moment (StepSlot 1) ∷ moment (StepSlot 1) ∷ moment (StepSlot 0) ∷ moment (StepSlot 0) ∷ moment (ShowSlot 1)
      ∷ [])
      ≡ Opened 0 (between 0 320) ∷ Opened 1 (between 0 320) ∷ Now 0 (between 0 320) ∷ Now 1 (between 0 320)
      ∷ Done 1 (between 80 240) ∷ Now 0 (between 80 240) ∷ Done 0 (between 160 160) ∷ Done 1 (between 80 240) ∷ []
  -- what is refused, and what does nothing
  pub refused : replies hub (moment (StepSlot 0) ∷ moment (OpenSlot 0 0 []) ∷ moment (OpenSlot 0 0 (codes "1"))
      ∷ moment (OpenSlot 0 0 (codes "1")) ∷ moment (Append (codes "z") (pos 1 ∷ []))
      ∷ record { event = Append x (pos 1 ∷ []); full = true } ∷ moment Save ∷ [])
      ≡ SlotFree 0 ∷ Refused (cause.Parse (text.At 0)) ∷ Opened 0 (between 1 1) ∷ SlotBusy 0
      ∷ Refused (cause.Unknown (codes "z")) ∷ Refused cause.ArenaFull ∷ Saved ∷ []

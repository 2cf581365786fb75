-- What the events of a session come to, one after the other.
use Rattle.std.specs.Io.KnownBytes.{Appends}
use Rattle.std.specs.Prelude.{◌≡◌, ◌≢◌, ◌⊎◌, ◌+◌, ◌^◌, ◌≤◌, ◌++◌, ℕ, List, [], ◌∷◌, Option, Some, None, Result, Ok, Err, string_bytes}
use Rattle.seg_tree.specs.Linked.{used}
use Rattle.semantics.specs.Faults.{Rose}
use Rattle.semantics.specs.Files.{Files, IfTold}
use Rattle.sessions.specs.Events.{AreEvents}
use Rattle.sessions.specs.Hub.{HubState}
use Rattle.sessions.specs.Kept.{HubView, StandsFor, new_hub}
use Rattle.sessions.specs.declared.events.Event.{Event}
use Rattle.store_file.specs.StoreValue.{StoreValue, IsStoreValue, store_image}
use Rattle.query_cli.specs.Commands.{Command, session}
use Rattle.query_cli.specs.Commands.Session.{EndsSo, Finds, IsCutAt, IsFront, filled, files_behind, hub_behind, lines_behind, made_behind, scripted_in, unsaved, Scripted, SessionCommand}
use Rattle.query_cli.specs.Reading.{file_at, held, most_script, most_store}
use Rattle.query_cli.specs.Run.{Grew, IsRefused}
use Rattle.query_cli.specs.Stops.{IfStopped, fault_line, fault_status}
use Rattle.query_cli.specs.declared.status.Status.{Status}
use Rattle.query_cli.specs.declared.status.Status.TheVariants as status
use Rattle.query_cli.specs.declared.stop.Fault.TheVariants as fault
use Rattle.query_cli.specs.declared.stop.Halt.{Halt}
use Rattle.query_cli.specs.declared.stop.Halt.TheVariants.{Faulted, Stopped}
use Rattle.query_cli.specs.declared.stop.Stop.TheVariants as stop

-- ---- a hub

-- it stands for a state, over a store that was read, and at most so many nodes were made since
pub record IsAt (v : HubView) (h : HubState) (made : ℕ) : Type 0 where
  pub stands : StandsFor v h
  pub limit : v.store.arena.limit ≡ 2 ^ 24
  pub count : used v.store.arena.nodes ≤ 2 ^ 21 + made

-- whichever state it stands for, a fact of that state
abbrev pub AtEach : HubView → (HubState → ℕ → Type 0) → Type 0
AtEach v P = (h : HubState) (made : ℕ) → IsAt v h made → P h made

-- it was made of the bytes of the two files, with the events
pub record Begins (stored text : List ℕ) (v : HubView) (events : List Event) : Type 0 where
  pub store : StoreValue
  pub found : scripted_in stored text ≡ Ok (record { store = store; events = events })
  pub is_store : IsStoreValue store
  pub stands : store_image store ≡ stored
  pub hub : IsAt v (new_hub store) 0
  pub possible : AreEvents events

-- the same, over the files that were read
pub record BeginsOver (files : Option Files) (c : SessionCommand) (v : HubView) (events : List Event) : Type 0 where
  pub stored : List ℕ
  pub text : List ℕ
  pub store_held : IfTold files (λ m. file_at m most_store c.store ≡ held stored)
  pub script_held : IfTold files (λ m. file_at m most_script c.script ≡ held text)
  pub begins : Begins stored text v events

-- ---- counts of faults

-- the shelf may have replaced a file; it read none
pub record OnlySaves {W A : Type 0} (files : W → Option Files) (reads replaces : W → ℕ) (fetches : W → Option ℕ)
    (old new : W) (r : Result A Status) : Type 0 where
  pub untold : files old ≡ None → files new ≡ None
  pub reads_stay : reads new ≡ reads old
  pub replaces_rise : replaces old ≤ replaces new
  pub replace_fault : r ≡ Err status.ReplaceFault → Rose (replaces old) (replaces new)
  pub fetches_stay : fetches new ≡ fetches old

-- the output may have failed
pub record MayFail {W A : Type 0} (faults : W → ℕ) (old new : W) (r : Result A Status) : Type 0 where
  pub rise : faults old ≤ faults new
  pub out_fault : r ≡ Err status.OutFault → Rose (faults old) (faults new)

-- ---- text

-- a piece was cut short for want of memory or by a fault of the output
abbrev pub IsPartOf : List ℕ → Status → List ℕ → Type 0
IsPartOf piece status.Memory front = IsFront front piece
IsPartOf piece status.OutFault front = IsFront front piece
IsPartOf piece s front = ⊥

-- a save failed: its line, or a part of it
abbrev pub IsUnsaved : Status → List ℕ → Type 0
IsUnsaved status.ReplaceFault text = text ≡ fault_line fault.Replacing
IsUnsaved s text = IsPartOf (fault_line fault.Replacing) s text

-- the status and the text of a command that has no answer
abbrev pub IsHaltText : Halt → Status → List ℕ → Type 0
IsHaltText (Faulted f) s text = (s ≡ fault_status f) × (text ≡ fault_line f)
IsHaltText (Stopped stop.Memory) s text = ⊥
IsHaltText (Stopped (stop.Refused reply)) s text = (s ≡ reply.status) × (text ≡ string_bytes reply.text)

-- its line was written; or of that a front, by a fault of the output; or nothing, for want of memory
abbrev pub Says : Halt → Status → Option (List ℕ) → Option (List ℕ) → Type 0
Says h s before after =
    Grew before after (IsHaltText h s)
    ⊎ (((s ≡ status.OutFault) × Grew before after (λ front. (given : Status) × (rest : List ℕ)
    × IsHaltText h given (front ++ rest)))
    ⊎ ((s ≡ status.Memory) × Appends before after []))

-- ---- events

-- what was written where an event is the last one, by the status
abbrev pub IsLast : List ℕ → Option Files → Option Files → HubState → ℕ → Event → Status → List ℕ → Type 0
IsLast name files now h made e status.ArenaFull text = EndsSo name files now h made e filled text
IsLast name files now h made e status.ReplaceFault text = EndsSo name files now h made e unsaved text
IsLast name files now h made e status.Memory text = IsCutAt name files now h made e text
IsLast name files now h made e status.OutFault text = IsCutAt name files now h made e text
IsLast name files now h made e s text = ⊥

-- some events were done, and the one behind them was the last
pub record Breaks (name : List ℕ) (files now : Option Files) (h : HubState) (made : ℕ) (events : List Event)
    (s : Status) (text : List ℕ) : Type 0 where
  pub done : List Event
  pub next : Event
  pub rest : List Event
  pub all : done ++ next ∷ rest ≡ events
  pub line : List ℕ
  pub lines : text ≡ lines_behind h done ++ line
  pub last : IsLast name (files_behind name files h done) now (hub_behind h done) (made + made_behind h done) next s
      line

-- ---- the whole run

-- it had no answer before its first event
pub record EndsEarly (files now : Option Files) (read : Type 0) (command : Option Command) (s : Status)
    (before after : Option (List ℕ)) : Type 0 where
  pub halt : Halt
  pub refused : IfStopped halt (IsRefused files command)
  pub reading : halt ≢ Faulted fault.Replacing
  pub counted : halt ≡ Faulted fault.Reading → read
  pub kept : now ≡ files
  pub said : Says halt s before after

-- all events were done
pub record PlaysThrough (files now : Option Files) (c : SessionCommand) (script : Scripted) (s : Status)
    (before after : Option (List ℕ)) : Type 0 where
  pub status_is : s ≡ status.Ok
  pub lines : Appends before after (lines_behind (new_hub script.store) script.events)
  pub files_are : now ≡ files_behind c.store files (new_hub script.store) script.events

-- its events began
pub record PlaysOn (files now : Option Files) (c : SessionCommand) (s : Status)
    (before after : Option (List ℕ)) : Type 0 where
  pub script : Scripted
  pub found : Finds files c script
  pub possible : AreEvents script.events
  pub comes : PlaysThrough files now c script s before after
      ⊎ Grew before after (Breaks c.store files now (new_hub script.store) 0 script.events s)

abbrev pub ComesTo : Option Files → Option Files → Type 0 → SessionCommand → Status → Option (List ℕ)
    → Option (List ℕ) → Type 0
ComesTo files now read c s before after =
    EndsEarly files now read (Some (session c)) s before after ⊎ PlaysOn files now c s before after

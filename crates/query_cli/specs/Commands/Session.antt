-- `session`: the events of a script at a hub over a store, each of which is answered by a line.
use Rattle.std.specs.List.{flat_map}
use Rattle.std.specs.Option.{option_map}
use Rattle.std.specs.Prelude.{◌≡◌, ◌⊎◌, ◌&&◌, ◌++◌, ◌+◌, ◌^◌, ◌<◌, ℕ, ℤ, Bool, true, false, List, [], ◌∷◌, map, Option, Some, None, Result, Ok, if◌then◌else◌}
use Rattle.semantics.specs.Files.{Files, file_of, with_file}
use Rattle.sessions.specs.Hub.{HubState, Moment, happens, hub_after, replies}
use Rattle.sessions.specs.Kept.{new_hub}
use Rattle.sessions.specs.Replies.{reply_line}
use Rattle.sessions.specs.Script.{script_of}
use Rattle.sessions.specs.declared.events.Event.{Event}
use Rattle.sessions.specs.declared.events.Event.TheVariants.{Append, Save}
use Rattle.sessions.specs.declared.replies.Cause.TheVariants as cause
use Rattle.sessions.specs.declared.replies.Reply.TheVariants as reply
use Rattle.sessions.specs.declared.scripts.ScriptErr.{ScriptErr}
use Rattle.sessions.specs.declared.scripts.ScriptErr.TheVariants as script
use Rattle.store_file.specs.Grown.{growth_refusal, made_in}
use Rattle.store_file.specs.StoreValue.{StoreValue, IsStoreValue, store_image}
use Rattle.store_file.specs.declared.adding.SeriesErr.{SeriesErr}
use Rattle.query_cli.specs.Commands.Column.{behind_store}
use Rattle.query_cli.specs.Reading.{IsRead, Reading}
use Rattle.query_cli.specs.Refusals.{Refusal, bad_script}
use Rattle.query_cli.specs.Replay.{Accepted, AreAccepted, IsHistory, Stands, grows, replay, replay_from}
use Rattle.query_cli.specs.Steps.{and_then, refused_as, script_bytes, store_bytes, store_in}
use Rattle.query_cli.specs.Stops.{fault_line}
use Rattle.query_cli.specs.Words.{is_file, word}
use Rattle.query_cli.specs.declared.stop.Fault.TheVariants as fault

-- a store, and a script of events at a hub over it
pub record SessionCommand : Type 0 where
  pub store : List ℕ
  pub script : List ℕ

-- `session STORE SCRIPT`
abbrev pub session_of : List (List ℕ) → Option SessionCommand
session_of words =
    if is_file (word words 1) && is_file (word words 2)
    then Some (record { store = word words 1; script = word words 2 })
    else None

-- ---- what it finds

-- the store, and the events of the script
pub record Scripted : Type 0 where
  pub store : StoreValue
  pub events : List Event

-- the line that is no event, from 1 on; want of memory has no line
abbrev pub line_of_script : ScriptErr → ℕ
line_of_script (script.Line k) = k
line_of_script script.Memory = 0

abbrev pub script_refusal : ScriptErr → Refusal
script_refusal e = bad_script (line_of_script e)

-- by the bytes of its files
abbrev pub scripted_in : List ℕ → List ℕ → Result Scripted Refusal
scripted_in stored text =
    and_then (store_in stored) (λ m.
    and_then (refused_as script_refusal (script_of text)) (λ events.
    Ok (record { store = m; events = events })))

-- the same, or the first refusal
abbrev pub scripted_by : Reading → SessionCommand → Result Scripted Refusal
scripted_by reading c =
    and_then (store_bytes reading c.store) (λ stored.
    and_then (script_bytes reading c.script) (λ text.
    scripted_in stored text))

-- SCRIPT is read where STORE could be read
abbrev pub session_reads : Reading → SessionCommand → ℕ
session_reads reading c = behind_store (store_bytes reading c.store)

-- this is found in the bytes that were read
pub record Finds (files : Option Files) (c : SessionCommand) (s : Scripted) : Type 0 where
  pub reading : Reading
  pub read : IsRead files reading
  pub found : scripted_by reading c ≡ Ok s

-- ---- events at a hub, none of which finds the arena full

abbrev pub roomy : Event → Moment
roomy e = record { event = e; full = false }

abbrev pub hub_with : HubState → Event → HubState
hub_with h e = (happens h false e).hub

-- the hub after them
abbrev pub hub_behind : HubState → List Event → HubState
hub_behind h es = hub_after h (map roomy es)

abbrev pub line_at : HubState → Event → List ℕ
line_at h e = reply_line (happens h false e).reply

-- the lines of their replies
abbrev pub lines_behind : HubState → List Event → List ℕ
lines_behind h es = flat_map reply_line (replies h (map roomy es))

abbrev pub is_save : Event → Bool
is_save Save = true
is_save e = false

-- STORE as the image of a store, where it is saved
abbrev pub saved_if : Bool → List ℕ → Option Files → StoreValue → Option Files
saved_if true name files m = option_map (λ k. with_file k name (store_image m)) files
saved_if false name files m = files

abbrev pub files_with : List ℕ → Option Files → HubState → Event → Option Files
files_with name files h e = saved_if (is_save e) name files h.store

-- the files after them, where they are told: STORE is as of the last save, or as it was
abbrev pub files_behind : List ℕ → Option Files → HubState → List Event → Option Files
files_behind name files h [] = files
files_behind name files h (e ∷ es) = files_behind name (files_with name files h e) (hub_with h e) es

abbrev pub made_unless : Option SeriesErr → ℕ → ℕ
made_unless None count = count
made_unless (Some e) count = 0

-- how many nodes an event makes: those of an append that is accepted
abbrev pub made_by : StoreValue → Event → ℕ
made_by m (Append name xs) = made_unless (growth_refusal m name xs) (made_in m name xs)
made_by m e = 0

-- how many they make
abbrev pub made_behind : HubState → List Event → ℕ
made_behind h [] = 0
made_behind h (e ∷ es) = made_by h.store e + made_behind (hub_with h e) es

-- ---- how it ends before its events do

-- an append finds the arena full, or a save fails
pub data Ending : Type 0 where
  filled : Ending
  unsaved : Ending

abbrev pub ending_line : Ending → List ℕ
ending_line filled = reply_line (reply.Refused cause.ArenaFull)
ending_line unsaved = fault_line fault.Replacing

-- the arena is full for readings that the store would accept: a store that is read has at most 2^21 nodes, and with
-- those that were made since and those for the readings there would be more than 2^24
pub record IsFull (h : HubState) (made : ℕ) (name : List ℕ) (readings : List ℤ) : Type 0 where
  pub accepted : growth_refusal h.store name readings ≡ None
  pub full : 2 ^ 24 < 2 ^ 21 + (made + made_in h.store name readings)

-- so it ends at an event, with so many nodes made before
abbrev pub EndsAt : HubState → ℕ → Event → Ending → Type 0
EndsAt h made (Append name xs) filled = IsFull h made name xs
EndsAt h made Save unsaved = Unit {0}
EndsAt h made e ending = ⊥

-- ---- what it writes, and what becomes of the files

-- all events were done: the lines of their replies
pub record PlaysAll (files now : Option Files) (c : SessionCommand) (text : List ℕ) : Type 0 where
  pub script : Scripted
  pub found : Finds files c script
  pub lines : text ≡ lines_behind (new_hub script.store) script.events
  pub files_are : now ≡ files_behind c.store files (new_hub script.store) script.events

-- how far it came in the script: some events were done, and one was next
pub record Way (files : Option Files) (c : SessionCommand) : Type 0 where
  pub script : Scripted
  pub found : Finds files c script
  pub done : List Event
  pub next : Event
  pub rest : List Event
  pub all : done ++ next ∷ rest ≡ script.events

abbrev pub hub_on : {files : Option Files} {c : SessionCommand} → Way files c → HubState
hub_on way = hub_behind (new_hub way.script.store) way.done

abbrev pub made_on : {files : Option Files} {c : SessionCommand} → Way files c → ℕ
made_on way = made_behind (new_hub way.script.store) way.done

abbrev pub lines_on : {files : Option Files} {c : SessionCommand} → Way files c → List ℕ
lines_on way = lines_behind (new_hub way.script.store) way.done

abbrev pub files_on : {files : Option Files} {c : SessionCommand} → Way files c → Option Files
files_on {files} {c} way = files_behind c.store files (new_hub way.script.store) way.done

-- at the next event it ended so: its line behind those of the events before
pub record EndsSo (name : List ℕ) (files now : Option Files) (h : HubState) (made : ℕ) (next : Event)
    (ending : Ending) (text : List ℕ) : Type 0 where
  pub ends : EndsAt h made next ending
  pub line : text ≡ ending_line ending
  pub kept : now ≡ files

abbrev pub IsFront : List ℕ → List ℕ → Type 0
IsFront front text = (rest : List ℕ) × (text ≡ front ++ rest)

-- at the next event it was cut short: nothing of its line was written, and it was not done; or a front of its line, and
-- it was done; or a front of the line of an ending
abbrev pub IsCutAt : List ℕ → Option Files → Option Files → HubState → ℕ → Event → List ℕ → Type 0
IsCutAt name files now h made next part =
    ((part ≡ []) × (now ≡ files))
    ⊎ ((IsFront part (line_at h next) × (now ≡ files_with name files h next))
    ⊎ ((ending : Ending) × EndsAt h made next ending × IsFront part (ending_line ending) × (now ≡ files)))

-- it ended so at an event, behind the lines of the events before
pub record EndsMidway (files now : Option Files) (c : SessionCommand) (ending : Ending) (text : List ℕ) : Type 0 where
  pub way : Way files c
  pub line : List ℕ
  pub lines : text ≡ lines_on way ++ line
  pub ends : EndsSo c.store (files_on way) now (hub_on way) (made_on way) way.next ending line

-- it was cut short at an event, behind the lines of the events before
pub record StopsMidway (files now : Option Files) (c : SessionCommand) (text : List ℕ) : Type 0 where
  pub way : Way files c
  pub part : List ℕ
  pub lines : text ≡ lines_on way ++ part
  pub stops : IsCutAt c.store (files_on way) now (hub_on way) (made_on way) way.next part

-- ---- what becomes of the store for which STORE stands

abbrev pub accepted_unless : Option SeriesErr → Accepted → List Accepted
accepted_unless None c = c ∷ []
accepted_unless (Some e) c = []

abbrev pub accepted_by : StoreValue → Event → List Accepted
accepted_by m (Append name xs) = accepted_unless (growth_refusal m name xs) (grows name xs)
accepted_by m e = []

-- the appends among events that the store accepts
abbrev pub accepted_in : HubState → List Event → List Accepted
accepted_in h [] = []
accepted_in h (e ∷ es) = accepted_by h.store e ++ accepted_in (hub_with h e) es

-- the events of the script before one of its saves
pub record AreBeforeSave (old : Files) (c : SessionCommand) (done : List Event) : Type 0 where
  pub text : List ℕ
  pub held : file_of old c.script ≡ Some text
  pub more : List Event
  pub script : script_of text ≡ Ok (done ++ Save ∷ more)

-- STORE is as of a save: the appends before it were accepted one after the other by the store m
pub record SavesStore (old : Files) (c : SessionCommand) (m : StoreValue) (now : Option Files) : Type 0 where
  pub done : List Event
  pub before : AreBeforeSave old c done
  pub accepted : AreAccepted m (accepted_in (new_hub m) done)
  pub files : now ≡ Some (with_file old c.store (store_image (replay_from m (accepted_in (new_hub m) done))))

-- STORE stands for a history with the appends before a save behind it
pub record SavesHistory (old : Files) (c : SessionCommand) (h : List Accepted) (now : Option Files) : Type 0 where
  pub done : List Event
  pub before : AreBeforeSave old c done
  pub stands : Stands old c.store (h ++ accepted_in (new_hub (replay h)) done) now

-- what becomes of the store for which STORE stands, and of its history
pub record SessionReplays (old : Files) (c : SessionCommand) (now : Option Files) : Type 0 where
  pub store : (m : StoreValue) → IsStoreValue m → file_of old c.store ≡ Some (store_image m) → SavesStore old c m now
  pub history : (h : List Accepted) → IsHistory h → file_of old c.store ≡ Some (store_image (replay h))
      → SavesHistory old c h now

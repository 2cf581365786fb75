-- The words of the contract of `run`: what is called for, what is written, and what becomes of the files.
use Rattle.std.specs.Io.KnownBytes.{Appends}
use Rattle.std.specs.Prelude.{◌≡◌, ◌≢◌, ◌⊎◌, ◌++◌, ℕ, true, false, List, [], Option, Some, None, string_bytes}
use Rattle.semantics.specs.Files.{Files, IfTold}
use Rattle.query_cli.specs.Commands.{Answers, Command, IsReplayed, files_after, is_at_once, is_reader, is_writer, refusal_of, session}
use Rattle.query_cli.specs.Commands.Session.{Ending, SessionCommand, StopsMidway, filled, unsaved}
use Rattle.query_cli.specs.Reading.{IsRead, Reading, Shown, reading_in, reading_with}
use Rattle.query_cli.specs.Refusals.{Refusal, called_for, line_of, status_of}
use Rattle.query_cli.specs.Stops.{HasCause, fault_line}
use Rattle.query_cli.specs.declared.status.Status.{Status}
use Rattle.query_cli.specs.declared.status.Status.TheVariants as status
use Rattle.query_cli.specs.declared.stop.Fault.TheVariants as fault
use Rattle.query_cli.specs.declared.stop.Reply.{Reply}

-- the first refusal over the files as they are there
abbrev pub refusal_in : Files → Option Command → Option Refusal
refusal_in m command = refusal_of (reading_in m) command

-- nothing is refused
abbrev pub Accepts : Files → Option Command → Type 0
Accepts m command = refusal_in m command ≡ None

-- the status that is called for, whatever parts of a file show that stands for no store
abbrev pub IsCalledFor : Files → Option Command → Status → Type 0
IsCalledFor m command given = (shown : Shown) × (given ≡ called_for (refusal_of (reading_with m shown) command))

-- it, or one of those to which it yields: want of memory, a fault of the output, a fault of reading where files are
-- read, and where nothing is refused a fault of replacing where a file is written, or in `session` a full arena
abbrev pub IsStatus : Files → Option Command → Status → Type 0
IsStatus m command given =
    IsCalledFor m command given ⊎ ((given ≡ status.Memory) ⊎ ((given ≡ status.OutFault)
    ⊎ (((given ≡ status.ReadFault) × (is_reader command ≡ true))
    ⊎ (((given ≡ status.ReplaceFault) × (is_writer command ≡ true) × Accepts m command)
    ⊎ ((given ≡ status.ArenaFull) × (is_at_once command ≡ false) × Accepts m command)))))

-- the text of the answer, over the bytes that were read
pub record IsAnswer (files : Option Files) (command : Option Command) (text : List ℕ) : Type 0 where
  pub reading : Reading
  pub read : IsRead files reading
  pub accepted : refusal_of reading command ≡ None
  pub answer : Answers reading command text

-- the first refusal, over the bytes that were read
pub record IsRefused (files : Option Files) (command : Option Command) (r : Refusal) : Type 0 where
  pub reading : Reading
  pub read : IsRead files reading
  pub called : refusal_of reading command ≡ Some r
  pub cause : HasCause r

-- the line of the first refusal, which has this status
pub record IsRefusal (files : Option Files) (command : Option Command) (s : Status) (text : List ℕ) : Type 0 where
  pub refusal : Refusal
  pub refused : IsRefused files command refusal
  pub status_is : s ≡ status_of refusal
  pub line : text ≡ line_of refusal

-- the whole text of a command that ends with a status: its answer, or the line of a fault or of its first refusal
abbrev pub IsText : Option Files → Option Command → Status → List ℕ → Type 0
IsText files command status.Ok text = IsAnswer files command text
IsText files command status.Memory text = ⊥
IsText files command status.OutFault text = ⊥
IsText files command status.ReadFault text = text ≡ fault_line fault.Reading
IsText files command status.ReplaceFault text = text ≡ fault_line fault.Replacing
IsText files command s text = IsRefusal files command s text

-- what becomes of the files with a status: as after the command with Ok, else as before
pub record Leaves (old now : Option Files) (command : Option Command) (s : Status) : Type 0 where
  pub done : s ≡ status.Ok → IfTold old (λ m. now ≡ Some (files_after m command))
  pub kept : s ≢ status.Ok → now ≡ old

-- the files are as they were, or STORE was replaced as the command says
abbrev pub IsKeptOrReplayed : Option Files → Option Command → Option Files → Type 0
IsKeptOrReplayed old command now = IfTold old (λ m. (now ≡ Some m) ⊎ IsReplayed m command now)

-- a fault is one that was counted: of reading, of replacing
pub record IsCounted (read replaced : Type 0) (s : Status) : Type 0 where
  pub read_fault : s ≡ status.ReadFault → read
  pub replace_fault : s ≡ status.ReplaceFault → replaced

-- a fault of the output hides another status: a front of its text was written, and the files are left as with it
pub record Hides (old now : Option Files) (read replaced : Type 0) (command : Option Command)
    (front : List ℕ) : Type 0 where
  pub status : Status
  pub rest : List ℕ
  pub text : IsText old command status (front ++ rest)
  pub counted : IsCounted read replaced status
  pub files : Leaves old now command status

-- the output grew by a text of which P holds
abbrev pub Grew : Option (List ℕ) → Option (List ℕ) → (List ℕ → Type 0) → Type 0
Grew before after P = (text : List ℕ) × P text × Appends before after text

-- ---- sessions

-- how a session that came to its events ended before they were done
abbrev pub ending_of : Status → Option Ending
ending_of status.ArenaFull = Some filled
ending_of status.ReplaceFault = Some unsaved
ending_of s = None

-- how a command ended midway
abbrev pub midway : Option Command → Status → Option Ending
midway (Some (session c)) s = ending_of s
midway command s = None

-- a fault of the output hides a status with which no event was done: a front of its text was written
pub record HidesEarly (files : Option Files) (read : Type 0) (command : Option Command) (front : List ℕ) : Type 0 where
  pub given : Status
  pub early : (given ≢ status.Ok) × (midway command given ≡ None)
  pub rest : List ℕ
  pub text : IsText files command given (front ++ rest)
  pub counted : given ≡ status.ReadFault → read

-- a front was written of the line of a refusal or of a fault of reading, or of what the events come to
abbrev pub IsCutShort : Option Files → Option Files → Type 0 → SessionCommand → List ℕ → Type 0
IsCutShort old now read c front =
    (HidesEarly old read (Some (session c)) front × (now ≡ old)) ⊎ StopsMidway old now c front

-- no line was begun, or some of what the events come to was written
abbrev pub IsLeftOff : Option Files → Option Files → SessionCommand → List ℕ → Type 0
IsLeftOff old now c front = ((front ≡ []) × (now ≡ old)) ⊎ StopsMidway old now c front

-- ---- what a command comes to

-- the command was done, and this is its text
pub record IsDone (old now : Option Files) (command : Option Command) (text : List ℕ) : Type 0 where
  pub answer : IsAnswer old command text
  pub files : IfTold old (λ m. now ≡ Some (files_after m command))
  pub replayed : IsKeptOrReplayed old command now

-- nothing was refused
abbrev pub IsUnrefused : Status → Type 0
IsUnrefused s = (s ≡ status.Ok) ⊎ ((s ≡ status.ReadFault) ⊎ (s ≡ status.ReplaceFault))

-- what is replied to a command
pub record Replies (old now : Option Files) (command : Option Command) (r : Reply) : Type 0 where
  pub exact : IfTold old (λ m. IsStatus m command r.status)
  pub complete : IfTold old (λ m. Accepts m command → IsUnrefused r.status)
  pub text : IsText old command r.status (string_bytes r.text)
  pub files : Leaves old now command r.status
  pub replayed : IsKeptOrReplayed old command now

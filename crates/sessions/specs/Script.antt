-- Scripts: the events of their lines, or the first line that has none.
use Rattle.std.specs.Prelude.{ℕ, suc, ◌==◌, ◌&&◌, ◌++◌, Bool, nat_le, if◌then◌else◌, List, [], ◌∷◌, length, codes, Option, Some, None, option_map, Result, Ok, Err, ℤ, unsigned_abs}
use Rattle.std.specs.List.{after_first, before_first, list_any, slice_split}
use Rattle.std.specs.Str.{bytes_eq}
use Rattle.std.specs.Str.Lines.{lines}
use Rattle.semantics.specs.Most.{greatest_reading, most_number}
use Rattle.semantics.specs.Names.{is_name}
use Rattle.semantics.specs.Numbers.{are_digits, number_in, number_of}
use Rattle.sessions.specs.declared.events.Event.{Event}
use Rattle.sessions.specs.declared.events.Event.TheVariants.{OpenSlot, StepSlot, ShowSlot, CloseSlot, Append, Save}
use Rattle.sessions.specs.declared.scripts.ScriptErr.{ScriptErr}
use Rattle.sessions.specs.declared.scripts.ScriptErr.TheVariants.{Line}
use Rattle.sessions.specs.Events.{last_slot}

abbrev pub is_line_feed : ℕ → Bool
is_line_feed byte = byte == 10

-- ---- words, with one space between two

abbrev pub is_space : ℕ → Bool
is_space byte = byte == 32

-- the word at the front
abbrev pub word_of : List ℕ → List ℕ
word_of text = before_first is_space text

-- what stands behind that word and its space
abbrev pub behind_of : List ℕ → List ℕ
behind_of text = after_first is_space text

abbrev pub has_space : List ℕ → Bool
has_space text = list_any is_space text

-- digits of value at most so much
abbrev pub digits_up_to : ℕ → List ℕ → Option ℕ
digits_up_to most text = if are_digits text && nat_le (number_of text) most then Some (number_of text) else None

abbrev pub near_zero : ℕ → Option ℤ → Option ℤ
near_zero most None = None
near_zero most (Some z) = if nat_le (unsigned_abs z) most then Some z else None

-- a reading, in scaled units
abbrev pub reading_in : List ℕ → Option ℤ
reading_in text = near_zero greatest_reading (number_in text)

abbrev pub with_first : Option ℤ → Option (List ℤ) → Option (List ℤ)
with_first None xs = None
with_first (Some x) None = None
with_first (Some x) (Some xs) = Some (x ∷ xs)

abbrev pub readings_in : List (List ℕ) → Option (List ℤ)
readings_in [] = Some []
readings_in (word ∷ words) = with_first (reading_in word) (readings_in words)

-- ---- the event of a line

abbrev pub slot_in : List ℕ → Option ℕ
slot_in text = digits_up_to last_slot text

abbrev pub opening_by : Option ℕ → Option ℕ → List ℕ → Option Event
opening_by None budget query = None
opening_by (Some slot) None query = None
opening_by (Some slot) (Some budget) query = Some (OpenSlot slot budget query)

-- the slot, the budget, and the query, which is all that is left of the line
abbrev pub opening_in : List ℕ → Option Event
opening_in text =
    if has_space (behind_of text)
    then opening_by (slot_in (word_of text)) (digits_up_to most_number (word_of (behind_of text)))
    (behind_of (behind_of text))
    else None

-- a name and one or more readings
abbrev pub append_in : List ℕ → Option Event
append_in text =
    if is_name (word_of text) && has_space text
    then option_map (Append (word_of text)) (readings_in (slice_split is_space (behind_of text)))
    else None

abbrev pub by_word : List ℕ → List ℕ → Option Event
by_word word text =
    if bytes_eq word (codes "open") then opening_in text
    else (if bytes_eq word (codes "step") then option_map StepSlot (slot_in text)
    else (if bytes_eq word (codes "show") then option_map ShowSlot (slot_in text)
    else (if bytes_eq word (codes "close") then option_map CloseSlot (slot_in text)
    else (if bytes_eq word (codes "append") then append_in text
    else None))))

abbrev pub event_of : List ℕ → Option Event
event_of line = if bytes_eq line (codes "save") then Some Save else by_word (word_of line) (behind_of line)

-- ---- the events of a script

abbrev pub or_refused : ℕ → Option Event → Result (List Event) ScriptErr
or_refused k None = Err (Line k)
or_refused k (Some e) = Ok (e ∷ [])

-- an empty line is no event
abbrev pub events_in : ℕ → List ℕ → Result (List Event) ScriptErr
events_in k line = if length line == 0 then Ok [] else or_refused k (event_of line)

abbrev pub put_before : List Event → Result (List Event) ScriptErr → Result (List Event) ScriptErr
put_before es (Err e) = Err e
put_before es (Ok fs) = Ok (es ++ fs)

abbrev pub followed : Result (List Event) ScriptErr → Result (List Event) ScriptErr → Result (List Event) ScriptErr
followed (Err e) rest = Err e
followed (Ok es) rest = put_before es rest

-- the events of lines that are numbered from k on
abbrev pub events_from : ℕ → List (List ℕ) → Result (List Event) ScriptErr
events_from k [] = Ok []
events_from k (line ∷ more) = followed (events_in k line) (events_from (suc k) more)

-- the events of a script, whose lines end by LF or by CR and LF; the last one may lack its end
unfoldable pub script_of : List ℕ → Result (List Event) ScriptErr
script_of bytes = events_from 1 (lines bytes)

-- Each event of a script may be asked of a hub.
use Rattle.std.proofs.Common.{◌≡◌, ◌≤◌, ◌^◌, ◌++◌, ℕ, zero, suc, Bool, true, false, cond, leb, ℤ, unsigned_abs, List, [], ◌∷◌, length, Option, Some, None, Result, Ok, Err, refl, arith, subst}
use Rattle.std.specs.Prelude.{◌&&◌, ◌==◌, codes, option_map}
use Rattle.std.specs.List.{slice_split}
use Rattle.std.specs.Str.{bytes_eq}
use Rattle.std.specs.Str.Lines.{lines}
use Rattle.std.proofs.lemmas.Bool.Decides.{nat_tests}
use Rattle.segment.specs.Measure.{AreReadings}
use Rattle.semantics.specs.Most.{greatest_reading, most_number}
use Rattle.semantics.specs.Names.{is_name}
use Rattle.semantics.specs.Numbers.{are_digits, number_in, number_of}
use Rattle.sessions.specs.declared.events.Event.{Event}
use Rattle.sessions.specs.declared.events.Event.TheVariants.{StepSlot, ShowSlot, CloseSlot, Append, Save}
use Rattle.sessions.specs.declared.scripts.ScriptErr.{ScriptErr}
use Rattle.sessions.specs.Events.{IsEvent, AreEvents, last_slot}
use Rattle.sessions.specs.Script.{append_in, behind_of, by_word, digits_up_to, event_of, events_from, events_in, followed, has_space, is_space, near_zero, opening_by, opening_in, or_refused, reading_in, readings_in, script_of, slot_in, with_first, word_of}

abbrev pub IsPossible : Option Event → Type 0
IsPossible None = Unit {0}
IsPossible (Some e) = IsEvent e

if_possible : (b : Bool) (x y : Option Event) → IsPossible x → IsPossible y → IsPossible (cond b x y)
if_possible true x y p q = p
if_possible false x y p q = q

-- ---- numbers and readings

abbrev pub IsUpTo : ℕ → Option ℕ → Type 0
IsUpTo most None = Unit {0}
IsUpTo most (Some n) = n ≤ most

digits_fit : (most : ℕ) (text : List ℕ) → IsUpTo most (digits_up_to most text)
digits_fit most text = by (are_digits text) (leb (number_of text) most) refl
  where
    by : (d b : Bool) → leb (number_of text) most ≡ b → IsUpTo most (cond (d && b) (Some (number_of text)) None)
    by true true e = grind (arith, nat_tests)
    by true false e = tt
    by false b e = tt

abbrev pub IsNear : Option ℤ → Type 0
IsNear None = Unit {0}
IsNear (Some x) = unsigned_abs x ≤ 10 ^ 9

reading_near : (o : Option ℤ) → IsNear (near_zero greatest_reading o)
reading_near None = tt
reading_near (Some z) = by (leb (unsigned_abs z) greatest_reading) refl
  where
    by : (b : Bool) → leb (unsigned_abs z) greatest_reading ≡ b → IsNear (cond b (Some z) None)
    by true e = grind (arith, nat_tests)
    by false e = tt

abbrev pub AreNear : Option (List ℤ) → Type 0
AreNear None = Unit {0}
AreNear (Some xs) = AreReadings xs

first_near : (o : Option ℤ) (r : Option (List ℤ)) → IsNear o → AreNear r → AreNear (with_first o r)
first_near None r p q = tt
first_near (Some x) None p q = tt
first_near (Some x) (Some xs) p q = both
  where
    both : AreReadings (x ∷ xs)
    both zero = p
    both (suc i) = q i

none_near : AreReadings []
none_near i = omega arith

readings_near : (words : List (List ℕ)) → AreNear (readings_in words)
readings_near [] = none_near
readings_near (word ∷ words) = first_near (reading_in word) (readings_in words) (reading_near (number_in word)) (readings_near words)

-- ---- events

opening_fits : (slot budget : Option ℕ) (query : List ℕ) → IsUpTo last_slot slot → IsUpTo most_number budget → IsPossible (opening_by slot budget query)
opening_fits None budget query p q = tt
opening_fits (Some s) None query p q = tt
opening_fits (Some s) (Some b) query p q = (p, q)

step_fits : (o : Option ℕ) → IsUpTo last_slot o → IsPossible (option_map StepSlot o)
step_fits None p = tt
step_fits (Some s) p = p

show_fits : (o : Option ℕ) → IsUpTo last_slot o → IsPossible (option_map ShowSlot o)
show_fits None p = tt
show_fits (Some s) p = p

close_fits : (o : Option ℕ) → IsUpTo last_slot o → IsPossible (option_map CloseSlot o)
close_fits None p = tt
close_fits (Some s) p = p

append_fits : (name : List ℕ) (o : Option (List ℤ)) → AreNear o → IsPossible (option_map (Append name) o)
append_fits name None p = tt
append_fits name (Some xs) p = p

opening_possible : (text : List ℕ) → IsPossible (opening_in text)
opening_possible text = if_possible (has_space (behind_of text))
    (opening_by (slot_in (word_of text)) (digits_up_to most_number (word_of (behind_of text))) (behind_of (behind_of text))) None
    (opening_fits (slot_in (word_of text)) (digits_up_to most_number (word_of (behind_of text))) (behind_of (behind_of text))
    (digits_fit last_slot (word_of text)) (digits_fit most_number (word_of (behind_of text))))
    tt

append_possible : (text : List ℕ) → IsPossible (append_in text)
append_possible text =
    let words = slice_split is_space (behind_of text) in
    if_possible (is_name (word_of text) && has_space text) (option_map (Append (word_of text)) (readings_in words)) None
    (append_fits (word_of text) (readings_in words) (readings_near words)) tt

slot_fits : (text : List ℕ) → IsUpTo last_slot (slot_in text)
slot_fits text = digits_fit last_slot text

word_possible : (word text : List ℕ) → IsPossible (by_word word text)
word_possible word text = by (bytes_eq word (codes "open")) (bytes_eq word (codes "step")) (bytes_eq word (codes "show")) (bytes_eq word (codes "close"))
    (bytes_eq word (codes "append"))
  where
    by : (o s h c a : Bool) → IsPossible (cond o (opening_in text) (cond s (option_map StepSlot (slot_in text)) (cond h (option_map ShowSlot (slot_in text))
        (cond c (option_map CloseSlot (slot_in text)) (cond a (append_in text) None)))))
    by true s h c a = opening_possible text
    by false true h c a = step_fits (slot_in text) (slot_fits text)
    by false false true c a = show_fits (slot_in text) (slot_fits text)
    by false false false true a = close_fits (slot_in text) (slot_fits text)
    by false false false false true = append_possible text
    by false false false false false = tt

event_possible : (line : List ℕ) → IsPossible (event_of line)
event_possible line = if_possible (bytes_eq line (codes "save")) (Some Save) (by_word (word_of line) (behind_of line)) tt (word_possible (word_of line) (behind_of line))

-- ---- lists of events

abbrev pub AllPossible : Result (List Event) ScriptErr → Type 0
AllPossible (Ok es) = AreEvents es
AllPossible (Err e) = Unit {0}

append-events : (es fs : List Event) → AreEvents es → AreEvents fs → AreEvents (es ++ fs)
append-events [] fs p q = q
append-events (e ∷ es) fs p q = (p.0, append-events es fs p.1 q)

followed_possible : (r rest : Result (List Event) ScriptErr) → AllPossible r → AllPossible rest → AllPossible (followed r rest)
followed_possible (Err e) rest p q = tt
followed_possible (Ok es) (Err e) p q = tt
followed_possible (Ok es) (Ok fs) p q = append-events es fs p q

or_refused_possible : (k : ℕ) (o : Option Event) → IsPossible o → AllPossible (or_refused k o)
or_refused_possible k None p = tt
or_refused_possible k (Some e) p = (p, tt)

line_possible : (k : ℕ) (line : List ℕ) → AllPossible (events_in k line)
line_possible k line = by (length line == 0)
  where
    by : (b : Bool) → AllPossible (cond b (Ok []) (or_refused k (event_of line)))
    by true = tt
    by false = or_refused_possible k (event_of line) (event_possible line)

all_possible : (k : ℕ) (ls : List (List ℕ)) → AllPossible (events_from k ls)
all_possible k [] = tt
all_possible k (l ∷ ls) = followed_possible (events_in k l) (events_from (suc k) ls) (line_possible k l) (all_possible (suc k) ls)

pub script_possible : (bytes : List ℕ) (es : List Event) → script_of bytes ≡ Ok es → AreEvents es
unfolding script_of
script_possible bytes es e = subst AllPossible e (all_possible 1 (lines bytes))

pub last_possible : (es : List Event) (e : Event) → AreEvents (es ++ e ∷ []) → IsEvent e
last_possible [] e are = are.0
last_possible (x ∷ es) e are = last_possible es e are.1

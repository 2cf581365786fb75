-- The lines of a script, and the events that they are.
use Rattle.std.proofs.Common.{◌≡◌, ◌+◌, ℕ, suc, Bool, true, false, cond, List, [], ◌∷◌, ◌++◌, length, Result, Ok, Err, refl, sym, ap, ◌∙◌, arith, append_assoc, append-nil}
use Rattle.std.specs.Prelude.{◌==◌}
use Rattle.std.specs.List.{after_first, before_first, list_any, onto_first, slice_split}
use Rattle.std.specs.Str.Lines.{lines, lines_of_parts, strip_carriage_return}
use Rattle.sessions.specs.declared.events.Event.{Event}
use Rattle.sessions.specs.declared.scripts.ScriptErr.{ScriptErr}
use Rattle.sessions.specs.Script.{event_of, events_from, events_in, followed, is_line_feed, or_refused, put_before, script_of}
use Rattle.sessions.proofs.WordLaws.{first_part, one_part}

pub record HasParts (parts : List (List ℕ)) : Type 0 where
  pub first : List ℕ
  pub rest : List (List ℕ)
  pub are : parts ≡ first ∷ rest

onto_has : (x : ℕ) (parts : List (List ℕ)) → HasParts (onto_first x parts)
onto_has x [] = record { first = x ∷ []; rest = []; are = refl }
onto_has x (part ∷ parts) = record { first = x ∷ part; rest = parts; are = refl }

has_parts : (p : ℕ → Bool) (text : List ℕ) → HasParts (slice_split p text)
has_parts p [] = record { first = []; rest = []; are = refl }
has_parts p (x ∷ xs) = by (p x)
  where
    by : (b : Bool) → HasParts (cond b ([] ∷ slice_split p xs) (onto_first x (slice_split p xs)))
    by true = record { first = []; rest = slice_split p xs; are = refl }
    by false = onto_has x (slice_split p xs)

lines-more : (part : List ℕ) (parts : List (List ℕ)) → HasParts parts → lines_of_parts (part ∷ parts) ≡ strip_carriage_return part ∷ lines_of_parts parts
lines-more part parts h = ap (λ ps. lines_of_parts (part ∷ ps)) h.are ∙ ap (λ ps. strip_carriage_return part ∷ lines_of_parts ps) (sym h.are)

-- a script with LF has a line before it, and those behind it
pub first_line : (text : List ℕ) → list_any is_line_feed text ≡ true
    → lines text ≡ strip_carriage_return (before_first is_line_feed text) ∷ lines (after_first is_line_feed text)
first_line text h =
    ap lines_of_parts (first_part is_line_feed text h)
    ∙ lines-more (before_first is_line_feed text) (slice_split is_line_feed (after_first is_line_feed text)) (has_parts is_line_feed (after_first is_line_feed text))

-- ---- events

put-before-all : (es fs : List Event) (r : Result (List Event) ScriptErr) → put_before es (put_before fs r) ≡ put_before (es ++ fs) r
put-before-all es fs (Ok gs) = ap Ok (sym (append_assoc es fs gs))
put-before-all es fs (Err e) = refl

followed-by-none : (r : Result (List Event) ScriptErr) → followed r (Ok []) ≡ r
followed-by-none (Ok es) = ap Ok (append-nil es)
followed-by-none (Err e) = refl

-- a script without LF is one line, or none
last-line : (k : ℕ) (text : List ℕ) → list_any is_line_feed text ≡ false → events_from k (lines text) ≡ events_in k text
last-line k text h = ap (λ ps. events_from k (lines_of_parts ps)) (one_part is_line_feed text h) ∙ by (length text == 0) refl
  where
    by : (b : Bool) → (length text == 0) ≡ b → events_from k (cond b [] (text ∷ [])) ≡ events_in k text
    by true e = sym (ap (λ t. cond t (Ok []) (or_refused k (event_of text))) e)
    by false e = followed-by-none (events_in k text)

-- the events so far, and those of the rest, are those of all
abbrev pub Read : List ℕ → List Event → ℕ → List ℕ → Type 0
Read bytes es k rest = put_before es (events_from k (lines rest)) ≡ script_of bytes

pub read_start : (bytes : List ℕ) (es : List Event) → es ≡ [] → Read bytes es 1 bytes
unfolding script_of
read_start bytes es e = ap (λ fs. put_before fs (events_from 1 (lines bytes))) e ∙ by (events_from 1 (lines bytes))
  where
    by : (r : Result (List Event) ScriptErr) → put_before [] r ≡ r
    by (Ok es) = refl
    by (Err e) = refl

pub read_more : (bytes rest line behind : List ℕ) (es fs new : List Event) (k : ℕ) → list_any is_line_feed rest ≡ true
    → line ≡ strip_carriage_return (before_first is_line_feed rest) → behind ≡ after_first is_line_feed rest → events_in k line ≡ Ok fs → new ≡ es ++ fs
    → Read bytes es k rest → Read bytes new (k + 1) behind
read_more bytes rest line behind es fs new k some at more e n inv =
    let all = events_from (suc k) (lines (after_first is_line_feed rest)) in
    let next : k + 1 ≡ suc k = omega arith in
    ap (λ hs. put_before hs (events_from (k + 1) (lines behind))) n
    ∙ ap (λ i. put_before (es ++ fs) (events_from i (lines behind))) next
    ∙ ap (λ t. put_before (es ++ fs) (events_from (suc k) (lines t))) more
    ∙ sym (put-before-all es fs all)
    ∙ ap (λ r. put_before es (followed r all)) (sym e ∙ ap (events_in k) at)
    ∙ sym (ap (λ ls. put_before es (events_from k ls)) (first_line rest some))
    ∙ inv

pub read_refused : (bytes rest line : List ℕ) (es : List Event) (k : ℕ) (e : ScriptErr) → list_any is_line_feed rest ≡ true
    → line ≡ strip_carriage_return (before_first is_line_feed rest) → events_in k line ≡ Err e → Read bytes es k rest → script_of bytes ≡ Err e
read_refused bytes rest line es k e some at r inv =
    sym inv
    ∙ ap (λ ls. put_before es (events_from k ls)) (first_line rest some)
    ∙ ap (λ q. put_before es (followed q (events_from (suc k) (lines (after_first is_line_feed rest))))) (ap (events_in k) (sym at) ∙ r)

pub read_last : (bytes rest : List ℕ) (es fs new : List Event) (k : ℕ) → list_any is_line_feed rest ≡ false → events_in k rest ≡ Ok fs → new ≡ es ++ fs
    → Read bytes es k rest → script_of bytes ≡ Ok new
read_last bytes rest es fs new k none e n inv = sym inv ∙ ap (put_before es) (last-line k rest none ∙ e) ∙ ap Ok (sym n)

pub last_refused : (bytes rest : List ℕ) (es : List Event) (k : ℕ) (e : ScriptErr) → list_any is_line_feed rest ≡ false → events_in k rest ≡ Err e
    → Read bytes es k rest → script_of bytes ≡ Err e
last_refused bytes rest es k e none r inv = sym inv ∙ ap (put_before es) (last-line k rest none ∙ r)

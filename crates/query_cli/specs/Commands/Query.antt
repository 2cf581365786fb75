-- `query`: the interval of what a query comes to over the series of a store.
use Rattle.std.specs.List.{list_all}
use Rattle.std.specs.Prelude.{◌≡◌, ◌+◌, ◌*◌, ℕ, Bool, true, false, List, length, nat_lt, Option, Some, None, Result, Ok, Err, if◌then◌else◌}
use Rattle.descent.specs.Descents.{cut_of}
use Rattle.descent.specs.Sums.{width_of}
use Rattle.descent.specs.Told.{told}
use Rattle.descent.specs.declared.rows.CutRow.{CutRow}
use Rattle.expr_parse.specs.Parsed.{parsed}
use Rattle.interval.specs.Interval.{Interval}
use Rattle.lazy_tree.specs.Opened.{header_len}
use Rattle.segment.specs.Nodes.{HandsOut}
use Rattle.semantics.specs.Files.{Files, IfTold, file_of}
use Rattle.semantics.specs.Plain.{plain}
use Rattle.semantics.specs.Term.{QueryTerm}
use Rattle.store_file.specs.Added.{names_in}
use Rattle.store_file.specs.Decoded.{decode_of}
use Rattle.store_file.specs.StoreValue.{StoreValue, IsStoreValue, store_image}
use Rattle.store_file.specs.declared.decoding.StoreErr.TheVariants as stored
use Rattle.store_file.specs.declared.decoding.StoreErr.{StoreErr}
use Rattle.query_cli.specs.Asked.{Asked, IsIntervalLine, admitted_in, answer_line, cut_line, opened_in, roots_in}
use Rattle.query_cli.specs.Reading.{File, Reading, Shown, answered, no_store, refused}
use Rattle.query_cli.specs.Refusals.{Refusal, bad_query, query_refusal, store_fault}
use Rattle.query_cli.specs.Steps.{and_then, bytes_of, refused_as}
use Rattle.query_cli.specs.Words.{digits_up_to, is_file, most_budget, word}

-- the interval of what the query of a text comes to over the series of a store, no wider than a budget
pub record QueryCommand : Type 0 where
  pub store : List ℕ
  pub budget : ℕ
  pub text : List ℕ

-- the budget of `query`, where it is one
abbrev pub with_budget : List ℕ → Option ℕ → List ℕ → Option QueryCommand
with_budget store None text = None
with_budget store (Some budget) text = Some (record { store = store; budget = budget; text = text })

-- `STORE BUDGET QUERY` behind the command's name
abbrev pub query_of : List (List ℕ) → Option QueryCommand
query_of words =
    if is_file (word words 1) then with_budget (word words 1) (digits_up_to most_budget (word words 2)) (word words 3)
    else None

-- the query of a text
abbrev pub query_in : List ℕ → Result QueryTerm Refusal
query_in text = refused_as bad_query (parsed text)

-- parts of a file that stands for no store: nothing is asked of a store
abbrev pub asked_of_none : Shown → Result (Option Asked) Refusal
asked_of_none answered = Ok None
asked_of_none no_store = Err store_fault
asked_of_none (refused why) = Err (query_refusal why)

-- a store, or why bytes are none: a header or a length that is refused is seen, a node that isn't true need not be
abbrev pub asked_of : Shown → QueryTerm → Result StoreValue StoreErr → Result (Option Asked) Refusal
asked_of shown q (Ok m) = and_then (admitted_in q m) (λ asked. Ok (Some asked))
asked_of shown q (Err (stored.NotAStore place)) = Err store_fault
asked_of shown q (Err e) = asked_of_none shown

abbrev pub are_bytes : List ℕ → Bool
are_bytes xs = list_all (λ x. nat_lt x 256) xs

-- what is asked of the store for which bytes stand
abbrev pub asked_in : Shown → QueryTerm → List ℕ → Result (Option Asked) Refusal
asked_in shown q bytes = if are_bytes bytes then asked_of shown q (decode_of bytes) else asked_of_none shown

-- what a query asks over a file, or its first refusal
abbrev pub asked_over : Shown → QueryTerm → List ℕ → File → Result (Option Asked) Refusal
asked_over shown q name file = and_then (bytes_of name file) (λ bytes. asked_in shown q bytes)

-- what `query` asks, or its first refusal
abbrev pub asked_by : Reading → QueryCommand → Result (Option Asked) Refusal
asked_by reading c = and_then (query_in c.text) (λ q. asked_over reading.shown q c.store (reading.store c.store))

-- whether STORE is read, which it is once the text is a query
abbrev pub is_found : {A : Type 0} → Result A Refusal → Bool
is_found (Ok a) = true
is_found (Err r) = false

abbrev pub query_reads : QueryCommand → Bool
query_reads c = is_found (query_in c.text)

-- the line of the interval of the query over the store; over parts of a file that stands for none, that of some
-- interval
abbrev pub AnswersAsked : ℕ → Option Asked → List ℕ → Type 0
AnswersAsked budget None text = (iv : Interval) × (nodes opened : ℕ)
    × (text ≡ answer_line iv.lo iv.hi (width_of iv) nodes opened)
AnswersAsked budget (Some asked) text = IsIntervalLine asked budget text

pub record QueryAnswers (reading : Reading) (c : QueryCommand) (text : List ℕ) : Type 0 where
  pub asked : Option Asked
  pub found : asked_by reading c ≡ Ok asked
  pub line : AnswersAsked c.budget asked text

-- ---- how much of STORE is read

-- the bytes of the header, of a record for each series and two for each row that was split, and of the readings of each
-- row that is opened
abbrev pub parts_size : StoreValue → ℕ → ℕ → ℕ
parts_size m splits opened = header_len (names_in m) + 56 * (length m.series + 2 * splits) + 64 * opened

-- no more is handed out over a store for rows that are those of the roots and one more for each split
pub record IsReadInParts (m : StoreValue) (q : QueryTerm) (rows : List CutRow) (before now : Option ℕ) : Type 0 where
  pub splits : ℕ
  pub more : length rows ≡ length (told (cut_of (roots_in (plain q) m))) + splits
  pub handed : HandsOut (parts_size m splits (opened_in rows)) before now

-- no more is handed out for a line than its rows take
pub record IsLineInParts (m : StoreValue) (q : QueryTerm) (text : List ℕ) (before now : Option ℕ) : Type 0 where
  pub iv : Interval
  pub rows : List CutRow
  pub line : text ≡ cut_line iv rows
  pub parts : IsReadInParts m q rows before now

-- the same, where the files are told and STORE stands for a store
abbrev pub QueryHands : Option Files → QueryCommand → List ℕ → Option ℕ → Option ℕ → Type 0
QueryHands files c text before now = IfTold files (λ k. (q : QueryTerm) (m : StoreValue) → query_in c.text ≡ Ok q
    → IsStoreValue m → file_of k c.store ≡ Some (store_image m) → IsLineInParts m q text before now)

-- What each command is, by a line of each table.
pub mod Append
pub mod Check
pub mod Column
pub mod Gen
pub mod Load
pub mod New
pub mod Once
pub mod Prove
pub mod Query
pub mod Session
pub mod Verify
use Rattle.std.specs.Prelude.{◌≡◌, ℕ, Bool, true, false, List, [], ◌∷◌, codes, map, string_bytes, Option, Some, None, option_map, if◌then◌else◌}
use Rattle.std.specs.Result.{result_err}
use Rattle.std.specs.declared.alloc.Global.{Global}
use Rattle.std.specs.declared.string.String.{String}
use Rattle.semantics.specs.Files.{Files}
use Rattle.query_cli.specs.Commands.Append.{append_by}
use Rattle.query_cli.specs.Commands.Check.{CheckCommand, CheckAnswers, check_of, checked_by}
use Rattle.query_cli.specs.Commands.Column.{ColumnCommand, ColumnAnswers, ColumnReplays, brought_by, column_reads, column_words, files_after_column}
use Rattle.query_cli.specs.Commands.Gen.{GenAnswers, GenCommand, GenReplays, files_after_gen, gen_of, roomy_by}
use Rattle.query_cli.specs.Commands.Load.{load_by}
use Rattle.query_cli.specs.Commands.New.{NewCommand, files_after_new, new_line, new_of}
use Rattle.query_cli.specs.Commands.Once.{OnceCommand, OnceAnswers, once_of, summed_by}
use Rattle.query_cli.specs.Commands.Prove.{ProveAnswers, ProveHands}
use Rattle.query_cli.specs.Commands.Query.{QueryCommand, QueryAnswers, QueryHands, asked_by, query_of, query_reads}
use Rattle.query_cli.specs.Commands.Session.{SessionCommand, SessionReplays, scripted_by, session_of, session_reads}
use Rattle.query_cli.specs.Commands.Verify.{VerifyAnswers, VerifyCommand, verified_by, verify_of, verify_reads}
use Rattle.query_cli.specs.Reading.{Reading, reading_in}
use Rattle.query_cli.specs.Refusals.{Refusal, usage}
use Rattle.query_cli.specs.Replay.{Stands, begins}
use Rattle.query_cli.specs.Words.{has_form}

pub data Command : Type 0 where
  once : OnceCommand → Command
  new_store : NewCommand → Command
  load : ColumnCommand → Command
  append : ColumnCommand → Command
  check : CheckCommand → Command
  query : QueryCommand → Command
  prove : QueryCommand → Command
  verify : VerifyCommand → Command
  gen : GenCommand → Command
  session : SessionCommand → Command

-- the command that the words spell
unfoldable pub command_of : List (List ℕ) → Option Command
command_of words =
    if has_form words (codes "once") 7 then option_map once (once_of words)
    else if has_form words (codes "new") 4 then option_map new_store (new_of words)
    else if has_form words (codes "load") 5 then option_map load (column_words words)
    else if has_form words (codes "append") 5 then option_map append (column_words words)
    else if has_form words (codes "check") 2 then option_map check (check_of words)
    else if has_form words (codes "query") 4 then option_map query (query_of words)
    else if has_form words (codes "prove") 4 then option_map prove (query_of words)
    else if has_form words (codes "verify") 3 then option_map verify (verify_of words)
    else if has_form words (codes "gen") 5 then option_map gen (gen_of words)
    else if has_form words (codes "session") 3 then option_map session (session_of words)
    else None

-- the same, by the words as the program has them
abbrev pub command_in : List (String Global) → Option Command
command_in words = command_of (map string_bytes words)

-- whether the whole text is written in one piece: `session` writes line by line
abbrev pub is_at_once : Option Command → Bool
is_at_once (Some (session c)) = false
is_at_once command = true

-- a fact of `session`
abbrev pub IfSession : Option Command → (SessionCommand → Type 0) → Type 0
IfSession (Some (session c)) P = P c
IfSession command P = Unit {0}

-- the first refusal, where there is one; in `session` before the first event
abbrev pub refusal_of : Reading → Option Command → Option Refusal
refusal_of reading None = Some usage
refusal_of reading (Some (once c)) = result_err (summed_by reading c)
refusal_of reading (Some (new_store c)) = None
refusal_of reading (Some (load c)) = result_err (brought_by reading c (load_by c))
refusal_of reading (Some (append c)) = result_err (brought_by reading c (append_by c))
refusal_of reading (Some (check c)) = result_err (checked_by reading c)
refusal_of reading (Some (query c)) = result_err (asked_by reading c)
refusal_of reading (Some (prove c)) = result_err (asked_by reading c)
refusal_of reading (Some (verify c)) = result_err (verified_by reading c)
refusal_of reading (Some (gen c)) = result_err (roomy_by reading c)
refusal_of reading (Some (session c)) = result_err (scripted_by reading c)

-- the text of the answer, where nothing is refused and the text is written in one piece
abbrev pub Answers : Reading → Option Command → List ℕ → Type 0
Answers reading None text = ⊥
Answers reading (Some (once c)) text = OnceAnswers reading c text
Answers reading (Some (new_store c)) text = text ≡ new_line
Answers reading (Some (load c)) text = ColumnAnswers reading c (load_by c) text
Answers reading (Some (append c)) text = ColumnAnswers reading c (append_by c) text
Answers reading (Some (check c)) text = CheckAnswers reading c text
Answers reading (Some (query c)) text = QueryAnswers reading c text
Answers reading (Some (prove c)) text = ProveAnswers reading c text
Answers reading (Some (verify c)) text = VerifyAnswers reading c text
Answers reading (Some (gen c)) text = GenAnswers reading c text
Answers reading (Some (session c)) text = ⊥

-- whether files are read
abbrev pub is_reader : Option Command → Bool
is_reader None = false
is_reader (Some (once c)) = true
is_reader (Some (new_store c)) = false
is_reader (Some (load c)) = true
is_reader (Some (append c)) = true
is_reader (Some (check c)) = true
is_reader (Some (query c)) = query_reads c
is_reader (Some (prove c)) = query_reads c
is_reader (Some (verify c)) = true
is_reader (Some (gen c)) = true
is_reader (Some (session c)) = true

-- how many files are read whole: none behind the first refusal
abbrev pub reads_of : Reading → Option Command → ℕ
reads_of reading None = 0
reads_of reading (Some (once c)) = 1
reads_of reading (Some (new_store c)) = 0
reads_of reading (Some (load c)) = column_reads reading c
reads_of reading (Some (append c)) = column_reads reading c
reads_of reading (Some (check c)) = 1
reads_of reading (Some (query c)) = 0
reads_of reading (Some (prove c)) = 0
reads_of reading (Some (verify c)) = verify_reads reading c
reads_of reading (Some (gen c)) = 1
reads_of reading (Some (session c)) = session_reads reading c

-- how many bytes of files are handed out in parts, by the text of the answer
abbrev pub HandsParts : Option Files → Option Command → List ℕ → Option ℕ → Option ℕ → Type 0
HandsParts files (Some (query c)) text before now = QueryHands files c text before now
HandsParts files (Some (prove c)) text before now = ProveHands files c text before now
HandsParts files command text before now = Unit {0}

-- whether a file is written
abbrev pub is_writer : Option Command → Bool
is_writer None = false
is_writer (Some (once c)) = false
is_writer (Some (new_store c)) = true
is_writer (Some (load c)) = true
is_writer (Some (append c)) = true
is_writer (Some (check c)) = false
is_writer (Some (query c)) = false
is_writer (Some (prove c)) = false
is_writer (Some (verify c)) = false
is_writer (Some (gen c)) = true
is_writer (Some (session c)) = true

-- what becomes of the files, but for `session`; a command that is refused leaves them
abbrev pub files_after : Files → Option Command → Files
files_after files None = files
files_after files (Some (once c)) = files
files_after files (Some (new_store c)) = files_after_new files c
files_after files (Some (load c)) =
    files_after_column files c (load_by c) (brought_by (reading_in files) c (load_by c))
files_after files (Some (append c)) =
    files_after_column files c (append_by c) (brought_by (reading_in files) c (append_by c))
files_after files (Some (check c)) = files
files_after files (Some (query c)) = files
files_after files (Some (prove c)) = files
files_after files (Some (verify c)) = files
files_after files (Some (gen c)) = files_after_gen files c (roomy_by (reading_in files) c)
files_after files (Some (session c)) = files

-- what becomes of the store for which STORE stood, and of its history, once STORE is written
abbrev pub IsReplayed : Files → Option Command → Option Files → Type 0
IsReplayed old None now = ⊥
IsReplayed old (Some (once c)) now = ⊥
-- whatever stood there
IsReplayed old (Some (new_store c)) now = Stands old c.store (begins c.scale c.degree ∷ []) now
IsReplayed old (Some (load c)) now = ColumnReplays old c (load_by c) now
IsReplayed old (Some (append c)) now = ColumnReplays old c (append_by c) now
IsReplayed old (Some (check c)) now = ⊥
IsReplayed old (Some (query c)) now = ⊥
IsReplayed old (Some (prove c)) now = ⊥
IsReplayed old (Some (verify c)) now = ⊥
IsReplayed old (Some (gen c)) now = GenReplays old c now
IsReplayed old (Some (session c)) now = SessionReplays old c now

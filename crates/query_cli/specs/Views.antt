-- Commands and refusals without where their words lie.
use Rattle.query_cli.specs.Commands.{Command, once, new_store, load, append, check, query, prove, verify, gen}
use Rattle.query_cli.specs.Commands.Once.{OnceCommand}
use Rattle.query_cli.specs.Commands.New.{NewCommand}
use Rattle.query_cli.specs.Commands.Column.{ColumnCommand}
use Rattle.query_cli.specs.Commands.Check.{CheckCommand}
use Rattle.query_cli.specs.Commands.Query.{QueryCommand}
use Rattle.query_cli.specs.Commands.Gen.{GenCommand}
use Rattle.query_cli.specs.Commands.Session.{SessionCommand}
use Rattle.query_cli.specs.Commands.Verify.{VerifyCommand}
use Rattle.query_cli.specs.Refusals.{Refusal, usage, absent, too_big, bad_csv, bad_store, series_fault, domain, bad_query, query_rank, query_unknown, store_fault, range, not_a_cut, escapes, wide, bad_cert, bad_script, arena_full}
use Rattle.query_cli.specs.declared.commands.Command.{Command as CommandCode}
use Rattle.query_cli.specs.declared.commands.Command.TheVariants as command
use Rattle.query_cli.specs.declared.commands.once.Once.{Once}
use Rattle.query_cli.specs.declared.commands.new.New.{New}
use Rattle.query_cli.specs.declared.commands.append.Append.{Append}
use Rattle.query_cli.specs.declared.commands.load.Load.{Load}
use Rattle.query_cli.specs.declared.steps.column.Column.{Column}
use Rattle.query_cli.specs.declared.commands.check.Check.{Check}
use Rattle.query_cli.specs.declared.commands.prove.Prove.{Prove}
use Rattle.query_cli.specs.declared.commands.query.Query.{Query}
use Rattle.query_cli.specs.declared.steps.question.Question.{Question}
use Rattle.query_cli.specs.declared.commands.verify.Verify.{Verify}
use Rattle.query_cli.specs.declared.commands.generate.Gen.{Gen}
use Rattle.query_cli.specs.declared.commands.session.Session.{Session}
use Rattle.query_cli.specs.declared.refusals.Refusal.{Refusal as RefusalCode}
use Rattle.query_cli.specs.declared.refusals.Refusal.TheVariants as refusal

abbrev pub once_view : Once → OnceCommand
once_view o = record {
  csv = o.csv.now;
  column = o.column.now;
  scale = o.scale;
  budget = o.budget;
  from = o.from;
  until = o.until;
}

abbrev pub new_view : New → NewCommand
new_view n = record { store = n.store.now; scale = n.scale; degree = n.degree }

abbrev pub column_view : Column → ColumnCommand
column_view c = record { store = c.store.now; name = c.name; csv = c.csv.now; column = c.column.now }

abbrev pub load_view : Load → ColumnCommand
load_view l = column_view l.0

abbrev pub append_view : Append → ColumnCommand
append_view a = column_view a.0

abbrev pub check_view : Check → CheckCommand
check_view c = record { store = c.store.now }

abbrev pub question_view : Question → QueryCommand
question_view q = record { store = q.store.now; budget = q.budget; text = q.text.now }

abbrev pub query_view : Query → QueryCommand
query_view q = question_view q.0

abbrev pub prove_view : Prove → QueryCommand
prove_view p = question_view p.0

abbrev pub verify_view : Verify → VerifyCommand
verify_view v = record { store = v.store.now; cert = v.cert.now }

abbrev pub gen_view : Gen → GenCommand
gen_view g = record { store = g.store.now; name = g.name; count = g.count; seed = g.seed }

abbrev pub session_view : Session → SessionCommand
session_view s = record { store = s.store.now; script = s.script.now }

abbrev pub command_view : CommandCode → Command
command_view (command.Once o) = once (once_view o)
command_view (command.New n) = new_store (new_view n)
command_view (command.Load l) = load (load_view l)
command_view (command.Append a) = append (append_view a)
command_view (command.Check c) = check (check_view c)
command_view (command.Query q) = query (query_view q)
command_view (command.Prove p) = prove (prove_view p)
command_view (command.Verify v) = verify (verify_view v)
command_view (command.Gen g) = gen (gen_view g)

abbrev pub refusal_view : RefusalCode → Refusal
refusal_view refusal.Usage = usage
refusal_view (refusal.Absent name) = absent name.now
refusal_view (refusal.TooBig name) = too_big name.now
refusal_view (refusal.BadCsv e) = bad_csv e
refusal_view (refusal.BadStore e) = bad_store e
refusal_view (refusal.SeriesFault name e) = series_fault name e
refusal_view (refusal.Domain sum lo hi) = domain sum lo hi
refusal_view (refusal.BadQuery e) = bad_query e
refusal_view (refusal.QueryUnknown name) = query_unknown name
refusal_view (refusal.QueryRank sum) = query_rank sum
refusal_view refusal.StoreFault = store_fault
refusal_view (refusal.Range node) = range node
refusal_view (refusal.NotACut place) = not_a_cut place
refusal_view (refusal.Escapes lo hi) = escapes lo hi
refusal_view (refusal.Wide width) = wide width
refusal_view (refusal.BadCert e) = bad_cert e
refusal_view (refusal.BadScript line) = bad_script line
refusal_view refusal.ArenaFull = arena_full

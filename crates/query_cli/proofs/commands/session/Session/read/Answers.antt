use Rattle.std.proofs.Common.{◌∙◌, sym, inl, map, string_bytes}
use Rattle.query_cli.proofs.CommandLaws.Session.{no-session, none-session, some-session}
use Rattle.query_cli.proofs.commands.session.Session.read.Goals as goal

pub returns-then-is_form-clause-some : goal.returns-then-is_form-clause-some
returns-then-is_form-clause-some c = some-session (map string_bytes c.args.words.now) c.of.result (sym c.is_form.ensures ∙ c.if-is_form.true) c.of.ensures

pub returns-then-is_form-clause-none : goal.returns-then-is_form-clause-none
returns-then-is_form-clause-none c = none-session (map string_bytes c.args.words.now) c.of.result c.of.ensures

pub returns-clause-none : goal.returns-clause-none
returns-clause-none c = no-session (map string_bytes c.args.words.now) (inl (sym c.is_form.ensures ∙ c.if-is_form.false))

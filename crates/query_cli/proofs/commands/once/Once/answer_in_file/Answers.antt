use Rattle.std.proofs.lemmas.Result.{err_from_is_err_and}
use Rattle.expr.specs.Terms.{query_term_of}
use Rattle.store_file.specs.Stored.{store_value}
use Rattle.query_cli.specs.Views.{once_view}
use Rattle.query_cli.proofs.CommandLaws.Once.{is_summed, no_sum}
use Rattle.query_cli.proofs.commands.once.Once.answer_in_file.Goals as goal

pub returns-in_err-text-clause-refused : goal.returns-in_err-text-clause-refused
returns-in_err-text-clause-refused c =
    let p = err_from_is_err_and c.from_residual-in_err-text.result c.from_residual-in_err-text.ensures.1 in
    let is = rw c.deref.ensures.value at c.in_ok-store.ensures in
    rw (p.1, p.2)
    (no_sum (once_view c.args.self.now) c.args.bytes.now c.in_ok-xs.xs.items (query_term_of c.query.result) (store_value c.in_ok-store.store) c.in_err-text.field-0.0 c.in_ok-xs.ensures.ok c.query.ensures.query is c.in_err-text.ensures.refused)

pub returns-clause-ok : goal.returns-clause-ok
returns-clause-ok c =
    let is = rw c.deref.ensures.value at c.in_ok-store.ensures in
    is_summed (once_view c.args.self.now) c.args.bytes.now c.in_ok-xs.xs.items (query_term_of c.query.result) (store_value c.in_ok-store.store) _ c.in_ok-xs.ensures.ok c.query.ensures.query is c.in_ok-text.ensures.ok

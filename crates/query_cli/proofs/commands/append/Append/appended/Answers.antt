use Rattle.std.proofs.Common.{◌≡◌, ◌∙◌, Ok, Option, ℤ, length, rules, ap, ap₂, subst}
use Rattle.series_csv.specs.Column.{column_of}
use Rattle.store_file.specs.StoreValue.{store_image}
use Rattle.store_file.specs.Stored.{store_value}
use Rattle.query_cli.specs.Commands.Append.{appended_line}
use Rattle.query_cli.specs.Refusals.{bad_csv}
use Rattle.query_cli.specs.Views.{append_view}
use Rattle.query_cli.proofs.CommandLaws.Append.{appended-by, last-is}
use Rattle.query_cli.proofs.StepLaws.{no_error}
use Rattle.query_cli.proofs.commands.append.Append.appended.Goals as goal

pub returns-clause-ok : goal.returns-clause-ok
returns-clause-ok c =
    let k = append_view c.args.self.now in
    let m = store_value c.in_ok-store.store in
    let xs = c.in_ok-xs.xs.items in
    let column = rw c.scale_of.ensures.value at c.in_ok-xs.ensures.ok in
    let short = rw c.deref.ensures.value at c.in_ok-total.ensures.ok in
    let total = rw c.deref.ensures.value at c.in_ok-total.ensures.total in
    let grown = rw c.deref.ensures.value at c.in_ok-total.ensures.grown in
    let long : c.in_ok-xs.xs.len ≡ length xs = search rules in
    record {
      brought = record { store = m; readings = xs };
      found = appended-by k c.args.stored.now c.args.text.now m c.in_ok-last.last xs c.in_ok-store.ensures.ok c.in_ok-last.ensures.ok column short;
      store = c.in_ok-store.ensures.store;
      stands = c.in_ok-store.ensures.stands;
      accepted = rw (← c.deref.ensures.value) c.in_ok-total.ensures.growable;
      column = subst (λ (o : Option ℤ). column_of c.args.text.now k.column m.scale o ≡ Ok xs) (last-is m k.name c.in_ok-last.last c.in_ok-last.ensures.ok) (no_error bad_csv _ _ column);
      line_is = c.in_ok-line.ensures ∙ ap₂ (appended_line k.name) (c.len.ensures ∙ long) total;
      bytes_are = c.in_ok-bytes.ensures ∙ ap store_image grown;
    }

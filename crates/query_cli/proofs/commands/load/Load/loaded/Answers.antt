use Rattle.std.proofs.Common.{refl, ◌∙◌}
use Rattle.std.proofs.lemmas.Result.{err_from_is_err_and}
use Rattle.store_file.specs.Stored.{store_value}
use Rattle.query_cli.specs.Refusals.{bad_csv}
use Rattle.query_cli.specs.Views.{load_view}
use Rattle.query_cli.proofs.CommandLaws.Load.{room_refused, loaded-by}
use Rattle.query_cli.proofs.StepLaws.{no_error}
use Rattle.query_cli.proofs.commands.load.Load.loaded.Goals as goal

pub returns-in_err-find_room-clause-refused : goal.returns-in_err-find_room-clause-refused
returns-in_err-find_room-clause-refused c =
    let p = err_from_is_err_and c.from_residual-in_err-find_room.result c.from_residual-in_err-find_room.ensures.1 in
    rw (p.1, p.2) (room_refused (load_view c.args.self.now) c.args.stored.now c.args.text.now (store_value c.in_ok-store.store) c.in_err-find_room.field-0.0 c.in_ok-store.ensures.ok c.in_err-find_room.ensures.refused)

pub returns-clause-ok : goal.returns-clause-ok
returns-clause-ok c =
    let column = rw c.scale_of.ensures.value at c.in_ok-xs.ensures.ok in
    record {
      brought = record { store = store_value c.in_ok-store.store; readings = c.in_ok-xs.xs.items };
      found = loaded-by (load_view c.args.self.now) c.args.stored.now c.args.text.now (store_value c.in_ok-store.store) c.in_ok-xs.xs.items c.in_ok-store.ensures.ok c.in_ok-find_room.ensures.ok column;
      store = c.in_ok-store.ensures.store;
      stands = c.in_ok-store.ensures.stands;
      accepted = rw (← c.deref.ensures.value) c.in_ok-written.ensures.addable;
      column = no_error bad_csv _ _ column;
      line_is = c.in_ok-written.ensures.line ∙ rw c.deref.ensures.value refl;
      bytes_are = c.in_ok-written.ensures.bytes ∙ rw c.deref.ensures.value refl;
    }

use Rattle.semantics.specs.Faults.{Rose}
use Rattle.query_cli.specs.Views.{session_view}
use Rattle.query_cli.proofs.SessionRun.{comes-all, comes-broken}
use Rattle.query_cli.proofs.commands.session.Session.run.Goals as goal

pub returns-in-Ok-play-clause-comes : goal.returns-in-Ok-play-clause-comes
returns-in-Ok-play-clause-comes g c =
    comes-all (g.S.Shelf.files c.args.shelf.now) (g.S.Shelf.files c.begin.new.shelf) (g.S.Shelf.files c.play.new.shelf)
    (Rose (g.S.Shelf.read_faults c.args.shelf.now) (g.S.Shelf.read_faults c.play.new.shelf)) (session_view c.args.self.now) c.in-Ok.begun.hub c.in-Ok.begun.events.items
    (g.O.Out.written c.args.out.now) (g.O.Out.written c.play.new.out) c.in-Ok.ensures.begins c.begin.ensures.shelf.files_stay c.in-Ok-play.ensures.lines c.in-Ok-play.ensures.files

pub returns-in-Err-play-clause-comes : goal.returns-in-Err-play-clause-comes
returns-in-Err-play-clause-comes g c =
    comes-broken (g.S.Shelf.files c.args.shelf.now) (g.S.Shelf.files c.begin.new.shelf) (g.S.Shelf.files c.play.new.shelf)
    (Rose (g.S.Shelf.read_faults c.args.shelf.now) (g.S.Shelf.read_faults c.play.new.shelf)) (session_view c.args.self.now) c.in-Ok.begun.hub c.in-Ok.begun.events.items c.in-Err-play.status
    (g.O.Out.written c.args.out.now) (g.O.Out.written c.play.new.out) c.in-Ok.ensures.begins c.begin.ensures.shelf.files_stay c.in-Err-play.ensures.breaks

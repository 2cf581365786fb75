use Rattle.std.proofs.Common.{Ok}
use Rattle.std.specs.Vec.Iter.{into_iter_items, into_iter_len}
use Rattle.query_cli.specs.Playing.{MayFail, OnlySaves}
use Rattle.query_cli.proofs.PlayLaws.{Playing}
use Rattle.query_cli.proofs.commands.session.Session.play.Given as goal

abbrev pub invariant-loop-event : goal.invariant-loop-event
invariant-loop-event g l =
    Playing l.self.store.now (g.S.Shelf.files l.fn.shelf) (g.S.Shelf.files l.shelf) l.fn.begun.hub l.hub
    l.fn.begun.events.items l.yielded (into_iter_items l.event-iterator) (into_iter_len l.event-iterator)
    (g.O.Out.written l.fn.out) (g.O.Out.written l.out)
    × OnlySaves {A = Unit {0}} g.S.Shelf.files g.S.Shelf.read_faults g.S.Shelf.replace_faults g.S.Shelf.fetches l.fn.shelf l.shelf (Ok tt)
    × MayFail {A = Unit {0}} g.O.Out.write_faults l.fn.out l.out (Ok tt)

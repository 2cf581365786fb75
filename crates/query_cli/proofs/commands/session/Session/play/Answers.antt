use Rattle.std.proofs.Common.{◌≡◌, ◌∷◌, length, ap, arith}
use Rattle.std.specs.Vec.Iter.{into_iter_items, into_iter_len}
use Rattle.std.proofs.lemmas.Result.{err_from_is_err_and}
use Rattle.query_cli.proofs.PlayLaws.{fails-then, playing-breaks, playing-ends, playing-goes, saves-then}
use Rattle.query_cli.proofs.commands.session.Session.play.Goals as goal

pub loop-event-preserved : goal.loop-event-preserved
loop-event-preserved g c =
    let at = c.loop-event in
    let steps : into_iter_items at.event-iterator ≡ c.in-Some.event ∷ into_iter_items c.next.new.self = c.in-Some.ensures.steps.0 in
    let count : into_iter_len c.next.new.self ≡ length (into_iter_items c.next.new.self) =
    (let was = at.invariant.0.count in let gone = c.in-Some.ensures.steps.1 in let short = ap length steps in omega arith) in (
      playing-goes c.args.self.now.store.now (g.S.Shelf.files c.args.shelf.now) (g.S.Shelf.files at.shelf) (g.S.Shelf.files c.happen.new.shelf) c.args.begun.hub at.hub c.happen.new.hub
          c.args.begun.events.items at.yielded (into_iter_items at.event-iterator) (into_iter_items c.next.new.self) c.in-Some.event (into_iter_len at.event-iterator) (into_iter_len c.next.new.self)
          (g.O.Out.written c.args.out.now) (g.O.Out.written at.out) (g.O.Out.written c.happen.new.out) at.invariant.0 steps count c.in_ok-happen.ensures.hub c.in_ok-happen.ensures.line c.in_ok-happen.ensures.files,
      saves-then _ _ _ _ _ _ _ _ _ at.invariant.1 c.in_ok-happen.ensures.shelf,
      fails-then _ _ _ _ _ _ at.invariant.2 c.in_ok-happen.ensures.out,
    )

pub returns-in_err-happen-clause-breaks : goal.returns-in_err-happen-clause-breaks
returns-in_err-happen-clause-breaks g c =
    let p = err_from_is_err_and c.from_residual.result c.from_residual.ensures.1 in
    let at = c.loop-event in
    rw (p.1, p.2)
    (playing-breaks c.args.self.now.store.now (g.S.Shelf.files c.args.shelf.now) (g.S.Shelf.files at.shelf) _ c.args.begun.hub at.hub
    c.args.begun.events.items at.yielded (into_iter_items at.event-iterator) (into_iter_items c.next.new.self) c.in-Some.event (into_iter_len at.event-iterator) c.in_err-happen.field-0.0
    (g.O.Out.written c.args.out.now) (g.O.Out.written at.out) _ at.invariant.0 c.in-Some.ensures.steps.0 c.in_err-happen.ensures.last)

pub returns-clause-lines : goal.returns-clause-lines
returns-clause-lines g c =
    let at = c.loop-event in
    (playing-ends c.args.self.now.store.now (g.S.Shelf.files c.args.shelf.now) (g.S.Shelf.files at.shelf) c.args.begun.hub at.hub
    c.args.begun.events.items at.yielded (into_iter_items at.event-iterator) (into_iter_len at.event-iterator) (g.O.Out.written c.args.out.now) (g.O.Out.written at.out) at.invariant.0 c.in-None.ensures.steps.0).lines

pub returns-clause-files : goal.returns-clause-files
returns-clause-files g c =
    let at = c.loop-event in
    (playing-ends c.args.self.now.store.now (g.S.Shelf.files c.args.shelf.now) (g.S.Shelf.files at.shelf) c.args.begun.hub at.hub
    c.args.begun.events.items at.yielded (into_iter_items at.event-iterator) (into_iter_len at.event-iterator) (g.O.Out.written c.args.out.now) (g.O.Out.written at.out) at.invariant.0 c.in-None.ensures.steps.0).files_are

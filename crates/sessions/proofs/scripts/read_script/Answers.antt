use Rattle.std.proofs.Common.{◌≡◌, ◌∙◌, ap, arith, inl, inr, length, sym, true}
use Rattle.std.specs.List.{list_any}
use Rattle.std.specs.Str.Lines.{strip_carriage_return}
use Rattle.std.proofs.lemmas.Result.{err_from_is_err_and}
use Rattle.sessions.specs.Script.{is_line_feed}
use Rattle.sessions.proofs.EventLaws.{script_possible}
use Rattle.sessions.proofs.ScriptLaws.{last_refused, read_last, read_more, read_refused, read_start}
use Rattle.sessions.proofs.WordLaws.{shorter}
use Rattle.sessions.proofs.scripts.read_script.Goals as goal

pub lines-init : goal.lines-init
lines-init c = record { events = read_start c.args.bytes.now c.new-events.result.items c.new-events.ensures.items; counted = omega arith }

pub lines-smaller : goal.lines-smaller
lines-smaller c = omega (arith, shorter is_line_feed c.lines.rest.now (sym c.has_line_feed.ensures ∙ c.lines-test.true), ap length c.behind_feed-rest.ensures)

pub lines-preserved : goal.lines-preserved
lines-preserved c =
    let some : list_any is_line_feed c.lines.rest.now ≡ true = sym c.has_line_feed.ensures ∙ c.lines-test.true in
    let pushed = c.in_ok-push_event.ensures.pushed in
    record {
      events = read_more c.args.bytes.now c.lines.rest.now c.without_return-line.result.now c.behind_feed-rest.result.now c.lines.events.items pushed.0
          c.push_event.new.events.items c.lines.number some (c.without_return-line.ensures ∙ ap strip_carriage_return c.before_feed.ensures) c.behind_feed-rest.ensures
          pushed.1 pushed.2 c.lines.invariant.events;
      counted = omega (arith, c.lines.invariant.counted, shorter is_line_feed c.lines.rest.now some, ap length c.behind_feed-rest.ensures);
    }

pub returns-in_err-push_event-clause-refused : goal.returns-in_err-push_event-clause-refused
returns-in_err-push_event-clause-refused c =
    let p = err_from_is_err_and c.from_residual.result c.from_residual.ensures.1 in
    rw (p.1, p.2) (elim c.in_err-push_event.ensures.refused [
      | inl memory ↦ inl memory
      | inr refused ↦ inr (read_refused c.args.bytes.now c.lines.rest.now c.without_return-line.result.now c.lines.events.items c.lines.number c.in_err-push_event.field-0.0
          (sym c.has_line_feed.ensures ∙ c.lines-test.true) (c.without_return-line.ensures ∙ ap strip_carriage_return c.before_feed.ensures) refused c.lines.invariant.events)
    ])

pub returns-in_err-push_event-2-clause-refused : goal.returns-in_err-push_event-2-clause-refused
returns-in_err-push_event-2-clause-refused c =
    let p = err_from_is_err_and c.from_residual-in_err-push_event-2.result c.from_residual-in_err-push_event-2.ensures.1 in
    rw (p.1, p.2) (elim c.in_err-push_event-2.ensures.refused [
      | inl memory ↦ inl memory
      | inr refused ↦ inr (last_refused c.args.bytes.now c.lines.rest.now c.lines.events.items c.lines.number c.in_err-push_event-2.field-0.0
          (sym c.has_line_feed.ensures ∙ c.lines-test.false) refused c.lines.invariant.events)
    ])

pub returns-clause-events : goal.returns-clause-events
returns-clause-events c =
    let pushed = c.in_ok-push_event-2.ensures.pushed in
    read_last c.args.bytes.now c.lines.rest.now c.lines.events.items pushed.0 c.push_event-2.new.events.items c.lines.number
    (sym c.has_line_feed.ensures ∙ c.lines-test.false) pushed.1 pushed.2 c.lines.invariant.events

pub returns-clause-possible : goal.returns-clause-possible
returns-clause-possible c =
    let pushed = c.in_ok-push_event-2.ensures.pushed in
    script_possible c.args.bytes.now c.push_event-2.new.events.items
    (read_last c.args.bytes.now c.lines.rest.now c.lines.events.items pushed.0 c.push_event-2.new.events.items c.lines.number
    (sym c.has_line_feed.ensures ∙ c.lines-test.false) pushed.1 pushed.2 c.lines.invariant.events)

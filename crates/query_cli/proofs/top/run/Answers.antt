use Rattle.std.proofs.Common.{◌≡◌, ◌∙◌, sym, ap, Err, Some, None}
use Rattle.semantics.specs.Faults.{Rose}
use Rattle.query_cli.specs.Commands.{command_in, session}
use Rattle.query_cli.specs.Views.{session_view}
use Rattle.query_cli.proofs.CommandLaws.Session.{not-at-once}
use Rattle.query_cli.proofs.RunLaws.{completed, hidden}
use Rattle.query_cli.proofs.SessionRun.{session-all, session-cut, session-ended, session-exact, session-kept, session-left, session-read, session-replays, session-text, session-words}
use Rattle.query_cli.proofs.top.run.Goals as goal

pub returns-in-Err-Failed-clause-cut : goal.returns-in-Err-Failed-clause-cut
returns-in-Err-Failed-clause-cut g c = λ _ _.
    let cut = c.in-Err-Failed.ensures.cut (ap Err c.in-Err-Failed.field-0-is) in
    (cut.0, hidden _ _ _ _ _ c.in-Ok.reply cut.0 cut.1 c.in-Ok.ensures.said c.in-Ok.ensures.counted (sym c.as_bytes.ensures.value ∙ cut.2), cut.3)

pub returns-in-Ok-put-clause-complete : goal.returns-in-Ok-put-clause-complete
returns-in-Ok-put-clause-complete g c = λ _ none _.
    completed (g.S.Shelf.files c.args.shelf.now) (command_in c.args.words.now) c.in-Ok.reply.status
    (Rose (g.S.Shelf.read_faults c.args.shelf.now) (g.S.Shelf.read_faults c.reply_to.new.shelf))
    (Rose (g.S.Shelf.replace_faults c.args.shelf.now) (g.S.Shelf.replace_faults c.reply_to.new.shelf))
    c.in-Ok.ensures.said.complete c.in-Ok.ensures.counted none.0 none.1

pub returns-in-Some-clause-answer : goal.returns-in-Some-clause-answer
returns-in-Some-clause-answer g c = λ h. absurd (not-at-once (command_in c.args.words.now) (session_view c.in-Some.session) c.in-Some.ensures.some h)

pub returns-in-Some-clause-complete : goal.returns-in-Some-clause-complete
returns-in-Some-clause-complete g c = λ h. absurd (not-at-once (command_in c.args.words.now) (session_view c.in-Some.session) c.in-Some.ensures.some h)

pub returns-in-Some-clause-cut : goal.returns-in-Some-clause-cut
returns-in-Some-clause-cut g c = λ h. absurd (not-at-once (command_in c.args.words.now) (session_view c.in-Some.session) c.in-Some.ensures.some h)

pub returns-in-Some-clause-memory : goal.returns-in-Some-clause-memory
returns-in-Some-clause-memory g c = λ h. absurd (not-at-once (command_in c.args.words.now) (session_view c.in-Some.session) c.in-Some.ensures.some h)

pub returns-in-Some-clause-left : goal.returns-in-Some-clause-left
returns-in-Some-clause-left g c = λ h. absurd (not-at-once (command_in c.args.words.now) (session_view c.in-Some.session) c.in-Some.ensures.some h)

pub returns-in-Some-clause-all_or_nothing : goal.returns-in-Some-clause-all_or_nothing
returns-in-Some-clause-all_or_nothing g c = λ h. absurd (not-at-once (command_in c.args.words.now) (session_view c.in-Some.session) c.in-Some.ensures.some h)

pub returns-in-Some-clause-cut_done : goal.returns-in-Some-clause-cut_done
returns-in-Some-clause-cut_done g c = λ h. absurd (not-at-once (command_in c.args.words.now) (session_view c.in-Some.session) c.in-Some.ensures.some h)

pub returns-in-Some-clause-exact : goal.returns-in-Some-clause-exact
returns-in-Some-clause-exact g c =
    rw c.in-Some.ensures.some
    (session-exact (g.S.Shelf.files c.args.shelf.now) (g.S.Shelf.files c.run.new.shelf) (Rose (g.S.Shelf.read_faults c.args.shelf.now) (g.S.Shelf.read_faults c.run.new.shelf)) (session_view c.in-Some.session) c.run.result (g.O.Out.written c.args.out.now) (g.O.Out.written c.run.new.out)
    c.run.ensures.comes)

pub returns-in-Some-clause-usage_only : goal.returns-in-Some-clause-usage_only
returns-in-Some-clause-usage_only g c = λ is.
    absurd
    (session-words (g.S.Shelf.files c.args.shelf.now) (g.S.Shelf.files c.run.new.shelf) (Rose (g.S.Shelf.read_faults c.args.shelf.now) (g.S.Shelf.read_faults c.run.new.shelf)) (session_view c.in-Some.session) c.run.result (g.O.Out.written c.args.out.now) (g.O.Out.written c.run.new.out)
    c.run.ensures.comes is)

pub returns-in-Some-clause-no_command : goal.returns-in-Some-clause-no_command
returns-in-Some-clause-no_command g c = λ none. let k : None ≡ Some (session (session_view c.in-Some.session)) = sym none ∙ c.in-Some.ensures.some in cc

pub returns-in-Some-clause-refusal : goal.returns-in-Some-clause-refusal
returns-in-Some-clause-refusal g c =
    rw c.in-Some.ensures.some
    (session-text (g.S.Shelf.files c.args.shelf.now) (g.S.Shelf.files c.run.new.shelf) (Rose (g.S.Shelf.read_faults c.args.shelf.now) (g.S.Shelf.read_faults c.run.new.shelf)) (session_view c.in-Some.session) c.run.result (g.O.Out.written c.args.out.now) (g.O.Out.written c.run.new.out)
    c.run.ensures.comes)

pub returns-in-Some-clause-kept : goal.returns-in-Some-clause-kept
returns-in-Some-clause-kept g c =
    rw c.in-Some.ensures.some
    (session-kept (g.S.Shelf.files c.args.shelf.now) (g.S.Shelf.files c.run.new.shelf) (Rose (g.S.Shelf.read_faults c.args.shelf.now) (g.S.Shelf.read_faults c.run.new.shelf)) (session_view c.in-Some.session) c.run.result (g.O.Out.written c.args.out.now) (g.O.Out.written c.run.new.out)
    c.run.ensures.comes)

pub returns-in-Some-clause-all_played : goal.returns-in-Some-clause-all_played
returns-in-Some-clause-all_played g c =
    rw c.in-Some.ensures.some
    (session-all (g.S.Shelf.files c.args.shelf.now) (g.S.Shelf.files c.run.new.shelf) (Rose (g.S.Shelf.read_faults c.args.shelf.now) (g.S.Shelf.read_faults c.run.new.shelf)) (session_view c.in-Some.session) c.run.result (g.O.Out.written c.args.out.now) (g.O.Out.written c.run.new.out)
    c.run.ensures.comes)

pub returns-in-Some-clause-ended : goal.returns-in-Some-clause-ended
returns-in-Some-clause-ended g c =
    rw c.in-Some.ensures.some
    (session-ended (g.S.Shelf.files c.args.shelf.now) (g.S.Shelf.files c.run.new.shelf) (Rose (g.S.Shelf.read_faults c.args.shelf.now) (g.S.Shelf.read_faults c.run.new.shelf)) (session_view c.in-Some.session) c.run.result (g.O.Out.written c.args.out.now) (g.O.Out.written c.run.new.out)
    c.run.ensures.comes)

pub returns-in-Some-clause-cut_short : goal.returns-in-Some-clause-cut_short
returns-in-Some-clause-cut_short g c =
    rw c.in-Some.ensures.some
    (session-cut (g.S.Shelf.files c.args.shelf.now) (g.S.Shelf.files c.run.new.shelf) (Rose (g.S.Shelf.read_faults c.args.shelf.now) (g.S.Shelf.read_faults c.run.new.shelf)) (session_view c.in-Some.session) c.run.result (g.O.Out.written c.args.out.now) (g.O.Out.written c.run.new.out)
    c.run.ensures.comes)

pub returns-in-Some-clause-left_off : goal.returns-in-Some-clause-left_off
returns-in-Some-clause-left_off g c =
    rw c.in-Some.ensures.some
    (session-left (g.S.Shelf.files c.args.shelf.now) (g.S.Shelf.files c.run.new.shelf) (Rose (g.S.Shelf.read_faults c.args.shelf.now) (g.S.Shelf.read_faults c.run.new.shelf)) (session_view c.in-Some.session) c.run.result (g.O.Out.written c.args.out.now) (g.O.Out.written c.run.new.out)
    c.run.ensures.comes)

pub returns-in-Some-clause-read_fault : goal.returns-in-Some-clause-read_fault
returns-in-Some-clause-read_fault g c = λ is.
    session-read (g.S.Shelf.files c.args.shelf.now) (g.S.Shelf.files c.run.new.shelf) (Rose (g.S.Shelf.read_faults c.args.shelf.now) (g.S.Shelf.read_faults c.run.new.shelf)) (session_view c.in-Some.session) c.run.result (g.O.Out.written c.args.out.now) (g.O.Out.written c.run.new.out)
    c.run.ensures.comes is

pub returns-in-Some-clause-handed : goal.returns-in-Some-clause-handed
returns-in-Some-clause-handed g c = λ ok.
    rw c.in-Some.ensures.some
    (let all = session-all (g.S.Shelf.files c.args.shelf.now) (g.S.Shelf.files c.run.new.shelf) (Rose (g.S.Shelf.read_faults c.args.shelf.now) (g.S.Shelf.read_faults c.run.new.shelf)) (session_view c.in-Some.session) c.run.result (g.O.Out.written c.args.out.now) (g.O.Out.written c.run.new.out)
    c.run.ensures.comes ok in (all.0, tt, all.2))

pub returns-in-Some-clause-fetches : goal.returns-in-Some-clause-fetches
returns-in-Some-clause-fetches g c = rw c.in-Some.ensures.some c.run.ensures.fetches

pub returns-in-Some-clause-replay : goal.returns-in-Some-clause-replay
returns-in-Some-clause-replay g c =
    rw c.in-Some.ensures.some
    (session-replays (g.S.Shelf.files c.args.shelf.now) (g.S.Shelf.files c.run.new.shelf) (Rose (g.S.Shelf.read_faults c.args.shelf.now) (g.S.Shelf.read_faults c.run.new.shelf)) (session_view c.in-Some.session) c.run.result (g.O.Out.written c.args.out.now) (g.O.Out.written c.run.new.out)
    c.run.ensures.comes)

use Rattle.std.proofs.Common.{◌∙◌, ap, subst}
use Rattle.query_cli.specs.Commands.{command_in}
use Rattle.query_cli.specs.Run.{IsRefused}
use Rattle.query_cli.specs.Stops.{IfStopped}
use Rattle.query_cli.specs.declared.stop.Halt.TheVariants.{Stopped}
use Rattle.query_cli.proofs.RunLaws.{replies_refusal}
use Rattle.query_cli.proofs.top.reply_to.Goals as goal

pub returns-in-Err-Stopped-Refused-clause-said : goal.returns-in-Err-Stopped-Refused-clause-said
returns-in-Err-Stopped-Refused-clause-said g c =
    let h = c.in-Err-Stopped-Refused in
    let old = g.S.Shelf.files c.args.shelf.now in
    let command = command_in c.args.words.now in
    rw h.field-0-0-is
    (replies_refusal old (g.S.Shelf.files c.answer.new.shelf) command h.reply
    (subst (λ x. IfStopped x (IsRefused old command)) (h.field-0-is ∙ ap Stopped h.field-0-0-is) h.ensures.refused)
    h.ensures.shelf.kept)

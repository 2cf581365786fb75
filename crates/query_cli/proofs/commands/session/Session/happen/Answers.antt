use Rattle.std.proofs.lemmas.Result.{err_from_is_err_and}
use Rattle.query_cli.proofs.PlayLaws.{files-go, full-ends, hub-goes, line-cut, line-goes}
use Rattle.query_cli.proofs.commands.session.Session.happen.Goals as goal

pub returns-in_err-put_reply-clause-last : goal.returns-in_err-put_reply-clause-last
returns-in_err-put_reply-clause-last g c =
    let p = err_from_is_err_and c.from_residual-in_err-put_reply.result c.from_residual-in_err-put_reply.ensures.1 in
    let saved = rw c.store.ensures.value at c.in_ok-save_if.ensures.saved in
    let a = c.in_ok-reply.ensures in
    rw (p.1, p.2)
    (line-cut c.args.self.now.store.now (g.S.Shelf.files c.args.shelf.now) _ c.args.hub.now c.apply.new.self c.args.event c.in_ok-reply.reply c.is_save-saves.result c.in_err-put_reply.field-0.0 _ _ _
    (record { reply = a.reply; hub = a.hub; refused = a.refused; count = a.count; limit = a.limit }) c.is_save-saves.ensures saved c.in_ok-save_if.ensures.silent c.in_err-put_reply.ensures.cut)

pub returns-then-is_full-clause-last : goal.returns-then-is_full-clause-last
returns-then-is_full-clause-last g c =
    let saved = rw c.store.ensures.value at c.in_ok-save_if.ensures.saved in
    let a = c.in_ok-reply.ensures in
    full-ends c.args.self.now.store.now (g.S.Shelf.files c.args.shelf.now) _ c.args.hub.now c.apply.new.self c.args.event c.in_ok-reply.reply c.is_save-saves.result _ _ _
    (record { reply = a.reply; hub = a.hub; refused = a.refused; count = a.count; limit = a.limit }) (c.is_full.ensures.full c.if-is_full.true) c.is_save-saves.ensures saved c.in_ok-save_if.ensures.silent c.in_ok-put_reply.ensures.whole

pub returns-clause-hub : goal.returns-clause-hub
returns-clause-hub g c =
    let a = c.in_ok-reply.ensures in
    hub-goes c.args.hub.now c.apply.new.self c.args.event c.in_ok-reply.reply
    (record { reply = a.reply; hub = a.hub; refused = a.refused; count = a.count; limit = a.limit }) (c.is_full.ensures.roomy c.if-is_full.false)

pub returns-clause-line : goal.returns-clause-line
returns-clause-line g c =
    let a = c.in_ok-reply.ensures in
    line-goes c.args.hub.now c.apply.new.self c.args.event c.in_ok-reply.reply _ _ _
    (record { reply = a.reply; hub = a.hub; refused = a.refused; count = a.count; limit = a.limit }) (c.is_full.ensures.roomy c.if-is_full.false) c.in_ok-save_if.ensures.silent c.in_ok-put_reply.ensures.whole

pub returns-clause-files : goal.returns-clause-files
returns-clause-files g c =
    let saved = rw c.store.ensures.value at c.in_ok-save_if.ensures.saved in
    let a = c.in_ok-reply.ensures in
    files-go c.args.self.now.store.now (g.S.Shelf.files c.args.shelf.now) _ c.args.hub.now c.apply.new.self c.args.event c.in_ok-reply.reply c.is_save-saves.result
    (record { reply = a.reply; hub = a.hub; refused = a.refused; count = a.count; limit = a.limit }) c.is_save-saves.ensures saved

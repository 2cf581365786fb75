use Rattle.std.proofs.lemmas.Result.{err_from_is_err_and}
use Rattle.store_file.specs.Stored.{store_value}
use Rattle.query_cli.proofs.CommandLaws.Verify.{cert_refused, not_upheld, store_refused, upheld}
use Rattle.query_cli.proofs.commands.verify.verdict_line.Goals as goal

pub returns-in_err-store-clause-refused : goal.returns-in_err-store-clause-refused
returns-in_err-store-clause-refused c =
    let p = err_from_is_err_and c.from_residual.result c.from_residual.ensures.1 in
    rw (p.1, p.2)
    (store_refused c.args.stored.now c.args.text.now c.in_err-store.field-0.0 c.in_err-store.ensures.refused)

pub returns-in_err-cert-clause-refused : goal.returns-in_err-cert-clause-refused
returns-in_err-cert-clause-refused c =
    let p = err_from_is_err_and c.from_residual-in_err-cert.result c.from_residual-in_err-cert.ensures.1 in
    rw (p.1, p.2)
    (cert_refused c.args.stored.now c.args.text.now (store_value c.in_ok-store.store) c.in_err-cert.field-0.0
    c.in_ok-store.ensures.ok c.in_err-cert.ensures.refused)

pub returns-in_err-uphold-clause-refused : goal.returns-in_err-uphold-clause-refused
returns-in_err-uphold-clause-refused c =
    let p = err_from_is_err_and c.from_residual-in_err-uphold.result c.from_residual-in_err-uphold.ensures.1 in
    rw (p.1, p.2)
    (not_upheld c.args.stored.now c.args.text.now (store_value c.in_ok-store.store) c.in_ok-cert.cert
    c.in_err-uphold.field-0.0 c.in_ok-store.ensures.ok c.in_ok-cert.ensures.ok c.in_err-uphold.ensures.refused)

pub returns-clause-ok : goal.returns-clause-ok
returns-clause-ok c =
    upheld c.args.stored.now c.args.text.now _ (store_value c.in_ok-store.store) c.in_ok-cert.cert
    c.in_ok-store.ensures.ok c.in_ok-cert.ensures.ok c.in_ok-uphold.ensures.ok c.in_ok-store.ensures.store
    c.in_ok-store.ensures.stands c.in_ok-line.ensures.ok

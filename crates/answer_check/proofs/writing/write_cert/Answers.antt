use Rattle.std.proofs.Common.{◌≡◌, ◌≤◌, ◌∙◌, ap, subst}
use Rattle.std.specs.Prelude.{Some}
use Rattle.expr.specs.Terms.{query_term_of}
use Rattle.serde_json.specs.Data.{depth}
use Rattle.serde_json.specs.Read.{max_depth, read}
use Rattle.serde_json.specs.Written.{compact_text, has_float}
use Rattle.answer_check.specs.Certificate.{certificate_for}
use Rattle.answer_check.proofs.ReadAgain.{read_again}
use Rattle.answer_check.proofs.Texts.{cert_as_text, has_none, nests}
use Rattle.answer_check.proofs.writing.write_cert.Goals as goal

pub returns-clause-text : goal.returns-clause-text
returns-clause-text c =
    let cert = certificate_for c.args.names.now (query_term_of c.args.q.now) c.args.budget c.args.a.now in
    let whole = c.in_ok-value.ensures.value in
    c.in_ok-text.ensures.text (ap has_float whole ∙ has_none cert) ∙ ap compact_text whole ∙ cert_as_text cert c.in_ok-value.ensures.written

pub returns-clause-read_again : goal.returns-clause-read_again
returns-clause-read_again c =
    let cert = certificate_for c.args.names.now (query_term_of c.args.q.now) c.args.budget c.args.a.now in
    let spelled = subst (λ d. depth d ≤ max_depth → read c.in_ok-text.text.items ≡ Some d) c.in_ok-value.ensures.value c.in_ok-text.ensures.reads_back in
    read_again cert c.in_ok-text.text.items c.in_ok-value.ensures.written c.in_ok-text.ensures.utf8 (spelled (nests cert))

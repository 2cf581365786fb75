use Rattle.std.proofs.Common.{◌++◌, ◌∙◌, ap}
use Rattle.std.specs.List.{list_all}
use Rattle.expr.specs.Terms.{query_term_of}
use Rattle.expr_parse.specs.Canonical.{canonical_text}
use Rattle.expr_parse.specs.Printed.{is_query_byte}
use Rattle.expr_parse.proofs.CanonicalBytes.{canonical_bytes}
use Rattle.expr_parse.proofs.CanonicalParsed.{parsed_again}
use Rattle.expr_parse.proofs.canonical.print.Goals as goal

pub returns-clause-read_again : goal.returns-clause-read_again
returns-clause-read_again c =
    let q = query_term_of c.args.q.now in
    let written = c.in_ok-write_query.ensures in
    parsed_again q c.write_query.new.into.items (written.appended ∙ ap (λ t. t ++ canonical_text q) c.new-text.ensures.items) written.named

pub returns-clause-plain : goal.returns-clause-plain
returns-clause-plain c =
    let q = query_term_of c.args.q.now in
    let written = c.in_ok-write_query.ensures in
    ap (list_all is_query_byte) (written.appended ∙ ap (λ t. t ++ canonical_text q) c.new-text.ensures.items) ∙ canonical_bytes q written.named written.held

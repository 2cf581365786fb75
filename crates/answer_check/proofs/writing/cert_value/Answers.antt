use Rattle.std.proofs.Common.{◌≡◌, subst, true}
use Rattle.std.specs.List.{list_all}
use Rattle.expr_parse.specs.Printed.{is_query_byte}
use Rattle.expr.specs.Terms.{query_term_of}
use Rattle.answer_check.specs.Certificate.{lists_for}
use Rattle.answer_check.specs.Written.{AreReadAgain}
use Rattle.answer_check.proofs.writing.cert_value.Goals as goal

pub returns-clause-written : goal.returns-clause-written
returns-clause-written c =
    record {
      budget = c.requires;
      lo = c.ends_of-lo.ensures.low;
      hi = c.ends_of-lo.ensures.high;
      query = subst (λ text. list_all is_query_byte text ≡ true) c.in_ok-query.ensures.canonical c.in_ok-query.ensures.plain;
      lists = subst (λ rows. AreReadAgain (lists_for (query_term_of c.args.q.now) 0 c.args.names.now rows)) c.as_slice.ensures c.in_ok-cut.ensures.lists;
    }

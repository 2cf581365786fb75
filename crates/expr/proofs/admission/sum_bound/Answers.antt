use Rattle.std.proofs.Common.{sym, ◌∙◌}
use Rattle.std.specs.Option.{option_map}
use Rattle.semantics.proofs.AdmissionLaws.{is_too_great-none}
use Rattle.expr.specs.Facts.{facts_of}
use Rattle.expr.specs.Terms.{range_of, term_of}
use Rattle.expr.proofs.admission.sum_bound.Goals as goal

pub returns-then-n-eq0-clause-great : goal.returns-then-n-eq0-clause-great
returns-then-n-eq0-clause-great c =
    let empty = sym c.extent-n.ensures ∙ c.if-n-eq0.true in
    sym (is_too_great-none (facts_of c.args.facts.now) (term_of c.args.t.now) (option_map range_of c.args.bounds) empty)

use Rattle.std.proofs.Common.{◌≡◌, ◌∙◌, ap, length, rules}
use Rattle.expr.specs.Facts.{facts_of}
use Rattle.store_file.specs.Stored.{store_value}
use Rattle.query_cli.specs.Commands.Check.{counted}
use Rattle.query_cli.proofs.CommandLaws.Check.Counts.{counts-line}
use Rattle.query_cli.proofs.commands.check.counts_line.Goals as goal

pub returns : goal.returns
returns c =
    let few : c.len.result ≡ length c.in-Ok.facts.items = search rules in
    counts-line (store_value c.args.store.now) c.in-Ok.facts.items c.len.result c.count_readings.result _ c.in-Ok.ensures.facts few
    (c.count_readings.ensures ∙ ap (λ q. counted (facts_of q)) c.deref.ensures.value) c.in_ok-line.ensures

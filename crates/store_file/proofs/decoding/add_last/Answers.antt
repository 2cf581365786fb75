use Rattle.std.proofs.Common.{◌∙◌}
use Rattle.store_file.proofs.SeriesReading.{insert-new}
use Rattle.store_file.proofs.decoding.add_last.Goals as goal

pub returns-clause-ok : goal.returns-clause-ok
returns-clause-ok c = c.in_ok-insert.ensures.entries ∙ insert-new c.args.series.now.entries c.args.name (record { tree = c.args.tree }) c.requires

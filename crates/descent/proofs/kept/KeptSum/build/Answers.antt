use Rattle.std.specs.Option.{option_map}
use Rattle.expr.specs.Terms.{range_of, term_of}
use Rattle.descent.specs.Held.{shown}
use Rattle.descent.proofs.Starting.{built}
use Rattle.descent.proofs.kept.KeptSum.build.Goals as goal

pub returns : goal.returns
returns g c =
    built (shown c.args.tables.now) (record { series = term_of c.args.t.now; range = option_map range_of c.args.range }) c.in_ok-kept.kept c.settle.new.self c.len-cells.result c.in_ok-settle.ensures c.in_ok-kept.ensures.sum c.len-cells.ensures

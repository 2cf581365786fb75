use Rattle.std.proofs.Common.{rules}
use Rattle.descent.specs.Readers.{reader_at}
use Rattle.descent.proofs.readers.read_cells.Goals as goal

pub returns-clause-aligned : goal.returns-clause-aligned
returns-clause-aligned c = record {
  each = λ o lt some.
      c.two_cells.ensures.aligned (reader_at c.args.readers.now o) (c.are_in_either.ensures (search rules) o lt);
}

use Rattle.std.proofs.Common.{◌%◌}
use Rattle.descent.specs.Readers.{reader_at}
use Rattle.descent.proofs.ReaderLaws.{aligned, comes-to-grain}
use Rattle.descent.proofs.readers.fine_cells.Goals as goal

pub returns-clause-aligned : goal.returns-clause-aligned
returns-clause-aligned c =
    let rs = c.args.readers.now in
    let grain = c.grain_of-grain.ensures.whole in
    record {
      each = λ o lt some offset k border.
          let a = aligned rs c.grain_of-grain.result c.first_place.result o grain.some c.first_place.ensures
          (c.grain_of-grain.ensures.same o lt) in
          comes-to-grain (reader_at rs o) c.grain_of-grain.result (c.first_place.result % c.grain_of-grain.result) a.0
          grain.times offset k grain.some grain.whole a.1 border;
    }

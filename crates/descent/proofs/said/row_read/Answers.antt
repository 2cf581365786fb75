use Rattle.std.proofs.Common.{sym, ap, subst, ◌∙◌, arith}
use Rattle.std.proofs.lemmas.List.{length-map}
use Rattle.bounds.specs.Segments.{covers}
use Rattle.descent.specs.Choice.{Has}
use Rattle.descent.specs.Held.{row_in, shown}
use Rattle.descent.specs.Laid.{held}
use Rattle.descent.specs.Rows.{Row, Track, with_rows}
use Rattle.descent.specs.Said.{IsRowRead}
use Rattle.descent.proofs.ReaderLaws.{track-shown}
use Rattle.descent.proofs.Standing.{has-row}
use Rattle.descent.proofs.said.row_read.Goals as goal

pub returns : goal.returns
returns g c =
    let ts = c.args.tables.now in
    let cut = shown ts in
    let r = c.args.reader.now in
    let table = c.index-tables-reader.result in
    let row = held c.row_at.result.now in
    let n = length-map ts (with_rows row_in) in
    let track = c.requires.track in
    let e = track-shown ts r.track table c.index-tables-reader.is (omega arith) in
    let is : IsRowRead cut c.args.offset r row.row = record {
      there = subst (λ (t : Track Row). Has row.row t.rows) (sym e) (has-row table.rows row c.row_at.ensures.there);
      covered = ap (covers row.row.seg) (sym c.position_of-position.ensures) ∙ c.row_at.ensures.covered;
    } in
    is

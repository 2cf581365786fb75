use Rattle.std.proofs.Common.{◌≡◌, ◌-◌, sym, subst, arith}
use Rattle.std.proofs.lemmas.List.{length-map}
use Rattle.descent.specs.Held.{row_in, shown}
use Rattle.descent.specs.Readers.{rows_read, track_at}
use Rattle.descent.specs.Rows.{Row, Track, with_rows}
use Rattle.descent.specs.Said.{StaysFor}
use Rattle.descent.specs.Standing.{IsEndOver}
use Rattle.descent.proofs.ReaderLaws.{track-shown}
use Rattle.descent.proofs.SayLaws.{stays-for}
use Rattle.descent.proofs.said.left_in_row.Goals as goal

pub returns : goal.returns
returns g c =
    let ts = c.args.tables.now in
    let cut = shown ts in
    let r = c.args.reader.now in
    let n = length-map ts (with_rows row_in) in
    let track = c.requires.track in
    let e = track-shown ts r.track c.index-tables-reader.result c.index-tables-reader.is (omega arith) in
    let end : IsEndOver (rows_read cut r) (track_at cut r.track).len c.position_of-position.result c.end_at-end.result =
    subst (λ (t : Track Row). IsEndOver t.rows t.len c.position_of-position.result c.end_at-end.result) (sym e) c.end_at-end.ensures in
    let s = stays-for cut c.args.from r c.position_of-position.result c.end_at-end.result c.requires c.position_of-position.ensures end in
    let z : c.end_at-end.result - c.position_of-position.result ≡ c.from.result = sym c.from.ensures in
    subst (StaysFor cut c.args.from r) z s.1

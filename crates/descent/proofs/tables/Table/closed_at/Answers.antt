use Rattle.std.proofs.Common.{ℤ, List, Option, map, ap}
use Rattle.std.specs.Prelude.{is_some}
use Rattle.descent.specs.Held.{row_in}
use Rattle.descent.specs.Laid.{held}
use Rattle.descent.specs.Rows.{Track, with_rows, segs_of_rows}
use Rattle.descent.specs.Rows as rows
use Rattle.descent.specs.Standing.{IsClosedOver, IsOpenedOver}
use Rattle.descent.proofs.Standing.{has-row, held-closed, held-opened}
use Rattle.descent.proofs.tables.Table.closed_at.Goals as goal

pub returns-in-None : goal.returns-in-None
returns-in-None g c =
    let r = c.row_at-row.result.now in
    let there = has-row c.args.self.now.rows (held r) c.row_at-row.ensures.there in
    let is : IsClosedOver (map row_in c.args.self.now.rows) c.args.position r.seg = record {
      row = (held r).row;
      there = there;
      covered = c.row_at-row.ensures.covered;
      closed = ap (λ (o : Option (List ℤ)). let q : rows.Row = record { seg = r.seg; readings = o } in q) (held-closed r c.in-None.is);
    } in
    is

pub returns-in-Some : goal.returns-in-Some
returns-in-Some g c =
    let r = c.row_at-row.result.now in
    let is : IsOpenedOver (map row_in c.args.self.now.rows) c.args.position = record {
      row = (held r).row;
      there = has-row c.args.self.now.rows (held r) c.row_at-row.ensures.there;
      covered = c.row_at-row.ensures.covered;
      opened = ap is_some (held-opened r _ c.in-Some.is);
    } in
    is

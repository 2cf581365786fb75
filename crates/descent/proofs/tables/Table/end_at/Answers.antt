use Rattle.std.proofs.Common.{map, refl, arith}
use Rattle.descent.specs.Held.{row_in}
use Rattle.descent.specs.Laid.{held}
use Rattle.descent.proofs.Standing.{has-row, borders, end-border, rows-within}
use Rattle.descent.proofs.tables.Table.end_at.Goals as goal

pub overflow_add-result : goal.overflow_add-result
overflow_add-result g c =
    let r = c.row_at-row.result.now in
    let there = has-row c.args.self.now.rows (held r) c.row_at-row.ensures.there in
    let sound = c.row_at-row.ensures.sound in
    let w = rows-within 0 c.args.self.now.len (map row_in c.args.self.now.rows) (held r).row sound.touch there in
    let high = w.1 in
    let few = sound.few in
    omega arith

pub returns : goal.returns
returns g c =
    let r = c.row_at-row.result.now in
    let there = has-row c.args.self.now.rows (held r) c.row_at-row.ensures.there in
    let sound = c.row_at-row.ensures.sound in
    record {
      row = (held r).row;
      there = there;
      covered = c.row_at-row.ensures.covered;
      end_is = refl;
      border = end-border 0 c.args.self.now.len (map row_in c.args.self.now.rows) (held r).row sound.touch (borders c.args.self.now.rows c.row_at-row.ensures.borders) there;
    }

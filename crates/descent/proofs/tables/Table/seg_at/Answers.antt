use Rattle.std.proofs.Common.{map, sym, ◌∙◌}
use Rattle.descent.specs.Held.{row_in}
use Rattle.descent.specs.Laid.{held}
use Rattle.descent.proofs.SoundSteps.{row-sound}
use Rattle.descent.proofs.Standing.{has-row, seg-of-rows, within-of}
use Rattle.descent.proofs.tables.Table.seg_at.Goals as goal

pub seg_at-requires-clause-sound : goal.seg_at-requires-clause-sound
seg_at-requires-clause-sound g c =
    let track = c.args.self.now in
    let r = c.row_at.result.now in
    (track.greatest, row-sound track.greatest track.rows (held r) c.row_at.ensures.sound.rows c.row_at.ensures.there)

pub returns : goal.returns
returns g c =
    let track = c.args.self.now in
    let r = c.row_at.result.now in
    let there = has-row track.rows (held r) c.row_at.ensures.there in
    let sound = c.row_at.ensures.sound in
    let w = within-of r.seg c.args.position c.row_at.ensures.covered in
    c.seg_at.ensures ∙ sym (seg-of-rows track.greatest 0 track.len c.args.position (map row_in track.rows) (held r).row sound.rows sound.touch there w)
